use Rattle.std.proofs.Common.{◌≡◌, ◌+◌, ◌<◌, ◌≤◌, ℕ, true, List, Some, None, length}
use Rattle.std.specs.Prelude.{slice_get}
use Rattle.chain_defs.specs.Schema.{Block}
use Rattle.chain_defs.specs.Branch.{distance}
use Rattle.chain_tree.specs.Blocks.{IndexesBlocks}
use Rattle.chain_tree.specs.Told.{Stored, blocks_of}
use Rattle.chain_tree.specs.Reading.{HasRead}
use Rattle.cell_state.specs.State.{rows}
use Rattle.cell_state.specs.Moves.{CanGoDown, AreRowsBelow, AreRowsOfBranch, IsPathUp, IsOnTheWay, AreOnTheWay, is_on_branch}
use Rattle.cell_state.proofs.moving.go_down.Given as goal

-- The rows are those of the branch of the lower place, and the higher one is below those that were gone down from. What was taken back, with
-- the places to go up and what the two are apart, is what was to go.
-- Rows of blocks before a place after the first stay so. What is on the way between the two was so at first, and what is on the branch of the lower one is on that of the first.
abbrev pub invariant-down : goal.invariant-down
invariant-down g l = record {
  read : HasRead g.B.Blocks.told g.B.Blocks.count g.B.Blocks.loans_of g.B.Blocks.faults g.B.Blocks.damages l.fn.blocks l.blocks None;
  low : l.low < length l.tree.entries;
  high : l.high < length l.tree.entries;
  up_to : (i place : ℕ) → slice_get l.up.items i ≡ Some place → place ≤ l.to;
  lower : l.low ≤ l.from;
  higher : l.high ≤ l.to;
  below : (end : ℕ) → l.from < end → AreRowsBelow end (rows l.fn.state) → AreRowsBelow end (rows l.state);
  within : (i place : ℕ) → slice_get l.up.items i ≡ Some place → place < length l.tree.entries;
  path : (kept : List Block) → IndexesBlocks kept l.tree.entries → IsPathUp kept l.to l.up.items l.high;
  way : (kept : List Block) → IndexesBlocks kept l.tree.entries → (place : ℕ) → IsOnTheWay kept l.low l.high place → IsOnTheWay kept l.from l.to place;
  down : (kept : List Block) → IndexesBlocks kept l.tree.entries → (place : ℕ) → is_on_branch kept l.low place ≡ true → is_on_branch kept l.from place ≡ true;
  on_way : (kept : List Block) → IndexesBlocks kept l.tree.entries → AreOnTheWay kept l.from l.to l.up.items;
  rows : (stored : List Stored) → g.B.Blocks.told l.fn.blocks ≡ Some stored → IndexesBlocks (blocks_of stored) l.tree.entries → CanGoDown stored l.from l.to
      → AreRowsOfBranch (blocks_of stored) l.from (rows l.fn.state) → AreRowsOfBranch (blocks_of stored) l.low (rows l.state);
  steps : (kept : List Block) → IndexesBlocks kept l.tree.entries
      → l.steps + length l.up.items + distance kept l.low l.high ≡ l.fn.steps + distance kept l.from l.to;
}

abbrev pub decreases-down : goal.decreases-down
decreases-down g l = l.low + l.high
