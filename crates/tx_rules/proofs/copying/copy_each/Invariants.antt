use Rattle.std.proofs.Common.{◌≡◌, length, take, None}
use Rattle.std.specs.List.{AllZip}
use Rattle.tx_rules.specs.Copying.{AreRowsCopied, IsCopyOfRow}
use Rattle.chain_tree.specs.Reading.{HasRead}
use Rattle.tx_rules.proofs.copying.copy_each.Given as goal

abbrev pub invariant-each : goal.invariant-each
invariant-each g l = record {
  read : HasRead g.B.Blocks.told g.B.Blocks.count g.B.Blocks.loans_of g.B.Blocks.faults g.B.Blocks.damages l.fn.blocks l.blocks None;
  long : length l.taken ≡ length l.rows;
  taken : AreRowsCopied (g.B.Blocks.told l.fn.blocks) l.at l.rows l.taken;
  copies : AllZip (IsCopyOfRow (g.B.Blocks.told l.fn.blocks) l.at) (take l.i l.rows) l.copies.items;
}
