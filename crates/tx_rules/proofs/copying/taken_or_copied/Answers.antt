use Rattle.tx_rules.proofs.TakenLemmas.{row-copy}
use Rattle.tx_rules.proofs.copying.taken_or_copied.Goals as goal

pub returns-in-None : goal.returns-in-None
returns-in-None g c = record {
  read = c.copy_row.ensures.read;
  copy =
      row-copy (g.B.Blocks.told c.args.blocks.now) c.args.at.now c.args.o c.args.meta c.copy_row.result c.copy_row.ensures.out_point c.copy_row.ensures.row
      c.copy_row.ensures.output c.copy_row.ensures.of_row c.copy_row.ensures.copied;
  undamaged = c.copy_row.ensures.undamaged;
}
