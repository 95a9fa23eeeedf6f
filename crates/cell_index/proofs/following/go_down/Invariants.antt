use Rattle.std.proofs.Common.{◌≡◌, ◌+◌, ◌<◌, ℕ, List, Some, None, length}
use Rattle.std.specs.Prelude.{slice_get}
use Rattle.chain_defs.specs.Schema.{Block}
use Rattle.chain_tree.specs.Blocks.{IndexesBlocks}
use Rattle.chain_tree.specs.Told.{Stored, blocks_of}
use Rattle.chain_tree.specs.Reading.{HasRead}
use Rattle.cell_state.specs.Moves.{IsPathUp, IsOnTheWay, AreOnTheWay}
use Rattle.cell_index.specs.Follow.{CanBeFollowed}
use Rattle.cell_index.proofs.following.go_down.Given as goal

-- What stands for the branch of the first place stands for that of the lower one. What is on the way between the two was so at first.
abbrev pub invariant-down : goal.invariant-down
invariant-down g l = record {
  read : HasRead g.B.Blocks.told g.B.Blocks.count g.B.Blocks.loans_of g.B.Blocks.faults g.B.Blocks.damages l.fn.blocks l.blocks None;
  low : l.low < length l.tree.entries;
  high : l.high < length l.tree.entries;
  within : (i place : ℕ) → slice_get l.up.items i ≡ Some place → (0 < place) × (place < length l.tree.entries);
  path : (kept : List Block) → IndexesBlocks kept l.tree.entries → IsPathUp kept l.to l.up.items l.high;
  way : (kept : List Block) → IndexesBlocks kept l.tree.entries → (place : ℕ) → IsOnTheWay kept l.low l.high place → IsOnTheWay kept l.from l.to place;
  on_way : (kept : List Block) → IndexesBlocks kept l.tree.entries → AreOnTheWay kept l.from l.to l.up.items;
  stands : (what : g.S.Follows.What) (stored : List Stored) → g.B.Blocks.told l.fn.blocks ≡ Some stored → IndexesBlocks (blocks_of stored) l.tree.entries → CanBeFollowed stored l.from l.to
      → g.S.Follows.stands what (blocks_of stored) l.from l.fn.first → g.S.Follows.stands what (blocks_of stored) l.low l.standing;
}

abbrev pub decreases-down : goal.decreases-down
decreases-down g l = l.low + l.high
