use Rattle.std.proofs.Common.{◌≡◌, Some, None, take}
use Rattle.chain_defs.specs.Tip.{best_branch}
use Rattle.chain_tree.specs.Reading.{HasRead}
use Rattle.node_store.specs.Kept.{stored_of}
use Rattle.transaction_index.specs.Rows.{rows_of}
use Rattle.run_ask.proofs.over_blocks.committed_rows.Given as goal

-- the rows are those of the blocks so far; the source of blocks was read to a good end
abbrev pub invariant-heights : goal.invariant-heights
invariant-heights g l = record {
  read : HasRead g.B.Blocks.told g.B.Blocks.count g.B.Blocks.loans_of g.B.Blocks.faults g.B.Blocks.damages l.fn.blocks l.blocks None;
  rows : g.B.Blocks.told l.fn.blocks ≡ Some (stored_of l.kept) → l.rows.items ≡ rows_of (take l.height (best_branch l.kept.chain.blocks));
}
