use Rattle.std.proofs.Common.{◌+◌, ◌∷◌, drop, arith}
use Rattle.std.proofs.lemmas.List.{drop_more}
use Rattle.pool_rows.proofs.ListLemmas.{one-written, all-written}
use Rattle.pool_rows.proofs.block.ids_row.Goals as goal

pub ids-preserved : goal.ids-preserved
ids-preserved c =
    one-written c.args.ids.now c.ids.id-index c.ids.bytes.items _ _ c.ids.invariant (drop_more c.args.ids.now c.ids.id-index _ c.ids-test.true)
    c.push_id.ensures.id c.in_ok-push_id.ensures.items c.in_ok-push_id.ensures.size

pub returns-clause-ids : goal.returns-clause-ids
returns-clause-ids c =
    all-written c.args.ids.now c.ids.id-index c.ids.bytes.items c.ids.invariant (omega (arith, c.ids-test.false)) (omega (arith, c.requires.size))
