use Rattle.std.proofs.Common.{◌≡◌, None, length}
use Rattle.chain_tree.specs.Reading.{HasRead}
use Rattle.transaction_page.proofs.history.first_proposal.Given as goal

abbrev pub invariant-branch : goal.invariant-branch
invariant-branch g l = record {
  read : HasRead g.B.Blocks.told g.B.Blocks.count g.B.Blocks.loans_of g.B.Blocks.faults g.B.Blocks.damages l.fn.blocks l.blocks None;
  counts : g.B.Blocks.count l.blocks ≡ length l.tree.entries;
}
