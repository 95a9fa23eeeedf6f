-- Where a transaction is judged, as the code is handed it, and what that stands for.
use Rattle.std.specs.Prelude.{◌≡◌, ◌⊎◌, ℕ, ◌<◌, nat_lt, Bool, is_some, List, map, length, Option, Some, None, if◌then◌else◌, slice_index, IsTrue, IsSome}
use Rattle.std.specs.Option.{option_map}
use Rattle.std.specs.List.{All}
use Rattle.chain_defs.specs.Schema.{OutPoint, Transaction, Block}
use Rattle.chain_defs.specs.Specification.{Specification, is_second_at}
use Rattle.chain_defs.specs.Kept.{block_at}
use Rattle.chain_defs.specs.Branch.{branch, branch_places}
use Rattle.chain_tree.specs.declared.entry.Entry.{Entry}
use Rattle.chain_tree.specs.Blocks.{IndexesBlocks, IsParent}
use Rattle.chain_tree.specs.Told.{Stored, blocks_of}
use Rattle.chain_defs.specs.Cell.{Cell, holds_its_own}
use Rattle.chain_defs.specs.Row.{Row, row_of, IsOutputOf}
use Rattle.rule_defs.specs.Site.{Site, Found, height_at, all_there}
use Rattle.rule_defs.specs.Resolving.{spends_each_once}
use Rattle.rule_defs.specs.Age.{timestamp_of}

-- The specification, the entries of the tree, the place of the parent, and the block that is judged, where the transaction stands in one.
pub record AtValue : Type 0 where
  pub spec : Specification
  pub entries : List Entry
  pub parent : ℕ
  pub block : Option Block

-- What a caller sees to of the parent.
abbrev pub IsAtParent : AtValue → Type 0
IsAtParent at = IsParent at.entries at.parent

-- ---- What it stands for

-- The place that a row has for the block of a height: that of the block on the parent's branch; for the block that is judged how many are kept.
abbrev pub place_of_height : List Block → ℕ → ℕ → ℕ
place_of_height kept parent height =
    if nat_lt height (length (branch kept parent)) then slice_index (branch_places kept parent) height else length kept

-- a cell that is found, as its out-point and its row
abbrev pub found_row : List Block → ℕ → Found → OutPoint × Row
found_row kept parent found = (found.out_point, row_of (place_of_height kept parent found.cell.height) found.cell)

-- a cell is an output of the block at its height: of one on the branch, or of the block that is judged
abbrev pub IsMade : List Block → Option Block → OutPoint → Cell → Type 0
IsMade blocks judged o cell =
    ((b : Block) × (block_at blocks cell.height ≡ Some b) × IsOutputOf b o cell)
    ⊎ ((b : Block) × (judged ≡ Some b) × (cell.height ≡ length blocks) × IsOutputOf b o cell)

-- Over kept blocks that are known and the rows of cells this is the site of a transaction.
pub record IsSiteOf (stored : List Stored) (at : AtValue) (rows : OutPoint → Option Row) (site : Site) : Type 0 where
  -- the tree indexes the blocks
  pub indexed : IndexesBlocks (blocks_of stored) at.entries
  pub spec : site.spec ≡ at.spec
  pub on_branch : site.branch ≡ branch (blocks_of stored) at.parent
  -- of the block that is judged, where there is one
  pub timestamp : site.timestamp ≡ timestamp_of at.block
  -- by the epoch of its height
  pub second : site.second ≡ is_second_at site.spec (height_at site)
  -- the rows are those of just the cells that the transaction sees, each an output with its out-point
  pub sees : (o : OutPoint) → rows o ≡ option_map (λ cell. row_of (place_of_height (blocks_of stored) at.parent cell.height) cell) (site.cell o)
  pub made : (o : OutPoint) (cell : Cell) → site.cell o ≡ Some cell → IsMade site.branch at.block o cell
  -- those with a type script that kept blocks made hold what they occupy
  pub typed : (o : OutPoint) (cell : Cell) → site.cell o ≡ Some cell → cell.height < height_at site → IsSome cell.output.type_script
      → IsTrue (holds_its_own cell.output cell.content)

abbrev pub find_row : (OutPoint → Option Row) → OutPoint → Option (OutPoint × Row)
find_row rows o = option_map (λ row. (o, row)) (rows o)

-- the rows of the out-points that its inputs name, where each has one
abbrev pub named_rows : (OutPoint → Option Row) → Transaction → Option (List (OutPoint × Row))
named_rows rows t = all_there (map (λ input. find_row rows input.previous_output) t.raw.inputs)

-- The rows that its inputs spend: there are none where one has no row, or is named twice.
abbrev pub input_rows : (OutPoint → Option Row) → Transaction → Option (List (OutPoint × Row))
input_rows rows t = if spends_each_once t then named_rows rows t else None

-- J20 by rows alone
abbrev pub spends_rows : (OutPoint → Option Row) → Transaction → Bool
spends_rows rows t = is_some (input_rows rows t)

-- each of the cells is one that the transaction sees
abbrev pub AreSeen : Site → List Found → Type 0
AreSeen site founds = All (λ found. site.cell found.out_point ≡ Some found.cell) founds
