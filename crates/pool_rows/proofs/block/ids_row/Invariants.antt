use Rattle.pool_rows.proofs.ListLemmas.{AreWritten}
use Rattle.pool_rows.proofs.block.ids_row.Given as goal

abbrev pub invariant-ids : goal.invariant-ids
invariant-ids l = AreWritten l.ids l.id-index l.bytes.items
