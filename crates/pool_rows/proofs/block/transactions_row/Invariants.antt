use Rattle.pool_rows.proofs.ListLemmas.{AreListed}
use Rattle.pool_rows.proofs.block.transactions_row.Given as goal

abbrev pub invariant-transactions : goal.invariant-transactions
invariant-transactions l = AreListed l.transactions l.tx-index l.items
