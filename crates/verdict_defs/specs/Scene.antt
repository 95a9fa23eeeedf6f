-- What the scripts of a transaction are shown of it (RFC 0009; docs/MACHINE.md, "What a script is shown").
use Rattle.std.specs.Prelude.{ℕ, Bool, ◌==◌, List, map, Option, None, if◌then◌else◌}
use Rattle.std.specs.Option.{option_map}
use Rattle.std.specs.List.{list_any, filter_map}
use Rattle.chain_defs.specs.Schema.{Header, CellOutput, Block, Transaction}
use Rattle.chain_defs.specs.Kept.{block_at}
use Rattle.chain_defs.specs.Cell.{Cell}
use Rattle.rule_defs.specs.Site.{Site, Found}
use Rattle.rule_defs.specs.Resolving.{inputs, deps, heights}

-- a live cell as it is shown
pub record ShownCell : Type 0 where
  pub output : CellOutput
  pub content : List ℕ
  -- the header of the block that made it, where a header dep names that block
  pub header : Option Header

-- The transaction, the cells of its inputs, its resolved deps and the headers of its header deps, each in their order, how many blocks an epoch
-- has, and whether code is found by the second edition of the rules.
pub record Scene : Type 0 where
  pub transaction : Transaction
  pub inputs : List ShownCell
  pub deps : List ShownCell
  pub headers : List Header
  pub epoch_length : ℕ
  pub second : Bool

-- ---- Of a transaction at its site

abbrev pub header_on : List Block → ℕ → Option Header
header_on branch height = option_map (λ b. b.header) (block_at branch height)

-- the header of the block that made a cell, where it is among the header deps
abbrev pub made_in : Site → Transaction → Cell → Option Header
made_in site t cell = if list_any (λ height. height == cell.height) (heights site t) then header_on site.branch cell.height else None

abbrev pub shown : Site → Transaction → Found → ShownCell
shown site t found = record { output = found.cell.output; content = found.cell.content; header = made_in site t found.cell }

unfoldable pub scene_of : Site → Transaction → Scene
scene_of site t = record {
  transaction = t;
  inputs = map (shown site t) (inputs site t);
  deps = map (shown site t) (deps site t);
  headers = filter_map (header_on site.branch) (heights site t);
  epoch_length = site.spec.epoch_length;
  second = site.second;
}
