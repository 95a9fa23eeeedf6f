use Rattle.std.proofs.Common.{◌≡◌, length, None}
use Rattle.tx_rules.specs.Copying.{AreRowsCopied}
use Rattle.chain_tree.specs.Reading.{HasRead}
use Rattle.tx_rules.proofs.copying.take_several.Given as goal

abbrev pub invariant-order : goal.invariant-order
invariant-order g l = record {
  read : HasRead g.B.Blocks.told g.B.Blocks.count g.B.Blocks.loans_of g.B.Blocks.faults g.B.Blocks.damages l.fn.blocks l.blocks None;
  long : length l.taken ≡ length l.rows;
  taken : AreRowsCopied (g.B.Blocks.told l.fn.blocks) l.at l.rows l.fn.taken → AreRowsCopied (g.B.Blocks.told l.fn.blocks) l.at l.rows l.taken;
}
