-- What a transaction is judged over: the specification, the branch that ends with the parent of its block, what is known of that block, and the
-- live cells that it sees (docs/RULES.md, "A block").
use Rattle.std.specs.Prelude.{ℕ, Bool, List, [], ◌∷◌, length, Option, Some}
use Rattle.std.specs.Option.{option_map, option_and_then}
use Rattle.chain_defs.specs.Schema.{OutPoint, Block}
use Rattle.chain_defs.specs.Specification.{Specification, is_second_at}
use Rattle.chain_defs.specs.Cell.{Cell}
use Rattle.chain_defs.specs.Events.{live_cell, cell_seen}

pub record Site : Type 0 where
  pub spec : Specification
  pub branch : List Block
  -- of the block that it stands in
  pub timestamp : ℕ
  -- whether that block stands under the second edition of the rules
  pub second : Bool
  -- the live cell with an out-point, after all transactions before this one
  pub cell : OutPoint → Option Cell

-- where the transaction at a place of a block stands: it sees the cells after those before it
abbrev pub site_at : Specification → List Block → Block → ℕ → Site
site_at spec branch b place = record {
  spec = spec;
  branch = branch;
  timestamp = b.header.timestamp;
  second = is_second_at spec (length branch);
  cell = cell_seen branch b place;
}

-- Where a transaction stands that is tried alone, after the last block of a branch. There is no block, so no cell that it made, and its timestamp
-- is looked at for no other.
abbrev pub site_after : Specification → List Block → Site
site_after spec branch = record {
  spec = spec;
  branch = branch;
  timestamp = 0;
  second = is_second_at spec (length branch);
  cell = live_cell branch;
}

-- the height of the block that it stands in, which is the next one of the branch
abbrev pub height_at : Site → ℕ
height_at site = length site.branch

-- a live cell with its out-point
pub record Found : Type 0 where
  pub out_point : OutPoint
  pub cell : Cell

abbrev pub find_cell : Site → OutPoint → Option Found
find_cell site o = option_map (λ cell. record { out_point = o; cell = cell }) (site.cell o)

-- all of several values, where each of them is there
unfoldable pub all_there : {V : Type 0} → List (Option V) → Option (List V)
all_there [] = Some []
all_there (first ∷ later) = option_and_then (λ v. option_map (λ vs. v ∷ vs) (all_there later)) first
