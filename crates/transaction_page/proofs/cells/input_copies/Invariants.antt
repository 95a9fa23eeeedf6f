use Rattle.std.proofs.Common.{None}
use Rattle.chain_tree.specs.Reading.{HasRead}
use Rattle.transaction_page.proofs.cells.input_copies.Given as goal

abbrev pub invariant-inputs : goal.invariant-inputs
invariant-inputs g l = record {
  read : HasRead g.B.Blocks.told g.B.Blocks.count g.B.Blocks.loans_of g.B.Blocks.faults g.B.Blocks.damages l.fn.blocks l.blocks None;
}
