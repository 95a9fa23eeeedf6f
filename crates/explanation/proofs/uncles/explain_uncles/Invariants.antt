use Rattle.std.proofs.Common.{None}
use Rattle.chain_tree.specs.Reading.{HasRead}
use Rattle.explanation.proofs.uncles.explain_uncles.Given as goal

abbrev pub invariant-uncles : goal.invariant-uncles
invariant-uncles g l = record {
  read : HasRead g.B.Blocks.told g.B.Blocks.count g.B.Blocks.loans_of g.B.Blocks.faults g.B.Blocks.damages l.fn.blocks l.blocks None;
}
