use Rattle.std.proofs.Common.{◌≡◌, ◌+◌, ◌^◌, ◌≤◌, List, length, Some, None}
use Rattle.std.specs.List.{All}
use Rattle.tx_rules.specs.Copying.{ServesAgain}
use Rattle.chain_tree.specs.Told.{Stored, blocks_of}
use Rattle.chain_tree.specs.Reading.{HasRead}
use Rattle.block_judge.specs.Progress.{CanMove}
use Rattle.block_judge.specs.BlockCells.{rows_in}
use Rattle.block_judge.specs.Standing.{Stands}
use Rattle.block_judge.proofs.SiteLemmas.{AreRowsAfter}
use Rattle.block_judge.proofs.NextLemmas.{IsPassedTo}
use Rattle.block_judge.proofs.all_transactions.judge_transactions.Given as goal

-- the cells are those after the transactions so far, and the rest of them is what is left to judge and to move; the ext has a fee for each
-- after the cellbase; the last copies of deps serve again; the source of blocks was read to a good end
abbrev pub invariant-later : goal.invariant-later
invariant-later g l = record {
  read : HasRead g.B.Blocks.told g.B.Blocks.count g.B.Blocks.loans_of g.B.Blocks.faults g.B.Blocks.damages l.fn.blocks l.blocks None;
  left : l.progress.left ≤ 2 ^ 40;
  moves : CanMove l.place l.progress.interest l.progress.freed;
  within : l.place ≤ length l.block.transactions;
  fees : length l.progress.ext.fees + 1 ≡ l.place;
  deps : All (ServesAgain (g.B.Blocks.told l.fn.blocks) l.at) l.progress.deps.items;
  rows : AreRowsAfter (length l.context.tree.now.entries) l.block l.place (g.C.Cells.rows l.context.cells.now) (rows_in g.C.Cells.rows l.progress.cells);
  judged : (stored : List Stored) → g.B.Blocks.told l.fn.blocks ≡ Some stored → Stands stored l.context.tree.now.entries l.context.parent (g.C.Cells.rows l.context.cells.now)
      → IsPassedTo l.context.spec.now (blocks_of stored) l.context.parent l.block l.place l.progress.left l.progress.ext l.progress.interest l.progress.freed;
}
