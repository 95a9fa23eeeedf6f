use Rattle.std.proofs.Common.{arith}
use Rattle.pool_rows.proofs.ListLemmas.{length-listed}
use Rattle.pool_rows.proofs.block.transactions_row.Goals as goal

pub returns-clause-size : goal.returns-clause-size
returns-clause-size c =
    length-listed c.args.transactions.now c.transactions.tx-index c.transactions.items c.dynvec.result c.transactions.invariant
    (omega (arith, c.transactions-test.false)) c.dynvec.ensures
