-- What it takes to follow from one place's branch to another's.
use Rattle.std.specs.Prelude.{◌≡◌, ℕ, List, Some, slice_get}
use Rattle.chain_defs.specs.Kept.{parent_place}
use Rattle.chain_defs.specs.Row.{live_row}
use Rattle.cell_state.specs.Moves.{CanBeTakenBack, IsOnTheWay}
use Rattle.chain_tree.specs.Told.{Stored, blocks_of}

-- A block has beside it what it spends of the rows of its parent's branch, and its events fit these.
pub record IsStep (stored : List Stored) (parent place : ℕ) : Type 0 where
  pub it : Stored
  pub there : slice_get stored place ≡ Some it
  pub named : parent_place (blocks_of stored) place ≡ Some parent
  pub can : CanBeTakenBack it.block it.ext (live_row (blocks_of stored) place) (live_row (blocks_of stored) parent)

-- So has each block on the way, down or up.
abbrev pub CanBeFollowed : List Stored → ℕ → ℕ → Type 0
CanBeFollowed stored from to = (place parent : ℕ) (it : Stored) → IsOnTheWay (blocks_of stored) from to place
    → slice_get stored place ≡ Some it → parent_place (blocks_of stored) place ≡ Some parent
    → CanBeTakenBack it.block it.ext (live_row (blocks_of stored) place) (live_row (blocks_of stored) parent)
