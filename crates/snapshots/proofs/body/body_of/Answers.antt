use Rattle.std.proofs.Common.{length, sym, ap, ◌∙◌, rules, arith}
use Rattle.snapshots.proofs.BodyLemmas.{few-bytes}
use Rattle.snapshots.proofs.body.body_of.Goals as goal

pub returns-in-Ok-put_body-clause-few : goal.returns-in-Ok-put_body-clause-few
returns-in-Ok-put_body-clause-few c =
    few-bytes (record { number = c.args.number; tip = c.args.tip; hash = c.args.hash.now; rows = c.deref.result.now }) c.in-Ok-with_capacity.bytes.items
    c.put_body.new.bytes.items c.rows-count.result (search rules) c.in-Ok-put_body.ensures.fits c.in-Ok-with_capacity.ensures.items c.in-Ok-put_body.ensures.written
    (ap length c.deref.ensures.value ∙ sym (c.rows-count.ensures.counted c.in-Ok.rows.items c.in-Ok.ensures))
    (omega (arith, c.rows-count.ensures.count, c.rows-count.ensures.most))
