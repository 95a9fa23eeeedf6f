use Rattle.std.proofs.Common.{◌≡◌, ◌≤◌, ℕ, List, Some, None, length}
use Rattle.std.specs.Prelude.{slice_get}
use Rattle.chain_defs.specs.Branch.{branch_places}
use Rattle.chain_tree.specs.Blocks.{IndexesBlocks}
use Rattle.chain_tree.specs.Told.{Stored, blocks_of}
use Rattle.chain_tree.specs.Reading.{HasRead}
use Rattle.cell_state.proofs.PathLemmas.{height_after}
use Rattle.cell_index.specs.Follow.{CanBeFollowed}
use Rattle.cell_index.proofs.following.moved.Given as goal

-- It stands for the branch of the place that was reached last.
abbrev pub invariant-up : goal.invariant-up
invariant-up g l = record {
  read : HasRead g.B.Blocks.told g.B.Blocks.count g.B.Blocks.loans_of g.B.Blocks.faults g.B.Blocks.damages l.fn.blocks l.blocks None;
  most : l.i ≤ length l.up.items;
  stands : (what : g.S.Follows.What) (stored : List Stored) → g.B.Blocks.told l.fn.blocks ≡ Some stored → IndexesBlocks (blocks_of stored) l.tree.entries → CanBeFollowed stored l.from l.to
      → g.S.Follows.stands what (blocks_of stored) l.from l.fn.first → (place : ℕ)
      → slice_get (branch_places (blocks_of stored) l.to) (height_after (blocks_of stored) l.to l.up.items l.i) ≡ Some place
      → g.S.Follows.stands what (blocks_of stored) place l.standing;
}
