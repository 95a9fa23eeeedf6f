use Rattle.std.proofs.Common.{◌≡◌, ◌+◌, ◌<◌, ◌≤◌, ℕ, List, Some, None, length}
use Rattle.std.specs.Prelude.{slice_get}
use Rattle.chain_defs.specs.Schema.{OutPoint, Block}
use Rattle.chain_defs.specs.Branch.{branch_places, distance}
use Rattle.chain_tree.specs.Blocks.{IndexesBlocks}
use Rattle.chain_tree.specs.Told.{Stored, blocks_of}
use Rattle.chain_tree.specs.Reading.{HasRead}
use Rattle.chain_defs.specs.Row.{live_row}
use Rattle.cell_state.specs.State.{rows}
use Rattle.cell_state.specs.Moves.{CanGoDown, AreRowsBelow, AreRowsOfBranch}
use Rattle.cell_state.proofs.PathLemmas.{height_after}
use Rattle.cell_state.proofs.moving.go_to.Given as goal

-- The rows are those of the branch of the place that was reached last, of blocks before any place after both, and the steps are all but as many as there are places left.
abbrev pub invariant-up : goal.invariant-up
invariant-up g l = record {
  read : HasRead g.B.Blocks.told g.B.Blocks.count g.B.Blocks.loans_of g.B.Blocks.faults g.B.Blocks.damages l.fn.blocks l.blocks None;
  most : l.i ≤ length l.up.items;
  below : (end : ℕ) → l.from < end → l.to < end → AreRowsBelow end (rows l.fn.state) → AreRowsBelow end (rows l.state);
  rows : (stored : List Stored) → g.B.Blocks.told l.fn.blocks ≡ Some stored → IndexesBlocks (blocks_of stored) l.tree.entries → CanGoDown stored l.from l.to
      → AreRowsOfBranch (blocks_of stored) l.from (rows l.fn.state) → (place : ℕ)
      → slice_get (branch_places (blocks_of stored) l.to) (height_after (blocks_of stored) l.to l.up.items l.i) ≡ Some place
      → (o : OutPoint) → rows l.state o ≡ live_row (blocks_of stored) place o;
  steps : (kept : List Block) → IndexesBlocks kept l.tree.entries → l.steps + length l.up.items ≡ l.fn.steps + distance kept l.from l.to + l.i;
}
