use Rattle.std.proofs.Common.{None}
use Rattle.chain_tree.specs.Reading.{HasRead}
use Rattle.transaction_page.proofs.deps.dep_rows.Given as goal

abbrev pub invariant-deps : goal.invariant-deps
invariant-deps g l = record {
  read : HasRead g.B.Blocks.told g.B.Blocks.count g.B.Blocks.loans_of g.B.Blocks.faults g.B.Blocks.damages l.fn.blocks l.blocks None;
}
