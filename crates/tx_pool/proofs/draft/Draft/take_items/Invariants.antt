use Rattle.std.proofs.Common.{◌≡◌, ◌≤◌, List, length, map, take, Some, None}
use Rattle.chain_defs.specs.Fold.{keep}
use Rattle.chain_defs.specs.Branch.{branch}
use Rattle.chain_tree.specs.Told.{Stored, blocks_of}
use Rattle.chain_tree.specs.Reading.{HasRead}
use Rattle.block_judge.specs.Progress.{AreProposed}
use Rattle.block_judge.specs.Standing.{seen}
use Rattle.pool_defs.specs.Assembly as pool
use Rattle.tx_pool.specs.Draft.{Fits, IsDraftSoFar, draft_of}
use Rattle.tx_pool.proofs.draft.Draft.take_items.Given as goal

-- the draft is what the items so far came to, with a line for each; the source of blocks was read to a good end
abbrev pub invariant-items : goal.invariant-items
invariant-items g l = record {
  read : HasRead g.B.Blocks.told g.B.Blocks.count g.B.Blocks.loans_of g.B.Blocks.faults g.B.Blocks.damages l.fn.blocks l.blocks None;
  fits : Fits (draft_of g.C.Cells.rows l.self);
  count : length l.self.lines.items ≡ l.i;
  within : l.i ≤ length l.items;
  taken : (stored : List Stored) (so_far : pool.Assembly) → g.B.Blocks.told l.fn.blocks ≡ Some stored
      → AreProposed l.context.spec.now (branch (blocks_of stored) l.context.parent) l.proposed
      → IsDraftSoFar stored (seen g.C.Cells.rows l.context) so_far (draft_of g.C.Cells.rows l.fn.self)
      → IsDraftSoFar stored (seen g.C.Cells.rows l.context)
      (keep (pool.take_item l.context.spec.now (branch (blocks_of stored) l.context.parent)) so_far (map (λ item. item.items) (take l.i l.items)))
      (draft_of g.C.Cells.rows l.self);
}
