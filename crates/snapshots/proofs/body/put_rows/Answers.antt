use Rattle.std.proofs.Common.{rules}
use Rattle.chain_defs.specs.Ext.{row_bytes}
use Rattle.cell_state.proofs.ExtLemmas.{one_put_more}
use Rattle.snapshots.proofs.BodyLemmas.{one-more-fits}
use Rattle.snapshots.proofs.body.put_rows.Goals as goal

pub rows-preserved : goal.rows-preserved
rows-preserved c = record {
  written = one_put_more row_bytes c.args.bytes.now.items c.rows.bytes.items _ c.args.rows.now c.rows.o-index c.rows-item.result c.rows-test.true c.rows-item.is
      c.rows.invariant.written c.in_ok-put_row.ensures.written;
  fits = one-more-fits c.args.rows.now c.rows.o-index c.rows-item.result c.rows-test.true c.rows-item.is c.rows.invariant.fits (search rules);
}
