use Rattle.std.proofs.Common.{◌^◌, ◌≤◌, None}
use Rattle.chain_tree.specs.Reading.{HasRead}
use Rattle.explanation.proofs.in_block.walk.Given as goal

abbrev pub invariant-transactions : goal.invariant-transactions
invariant-transactions g l = record {
  read : HasRead g.B.Blocks.told g.B.Blocks.count g.B.Blocks.loans_of g.B.Blocks.faults g.B.Blocks.damages l.fn.blocks l.blocks None;
  left : l.so_far.left ≤ 2 ^ 40;
}
