use Rattle.snapshots.proofs.BodyLemmas.{body-of-parts}
use Rattle.snapshots.proofs.body.put_body.Goals as goal

pub returns-clause-written : goal.returns-clause-written
returns-clause-written c =
    body-of-parts c.args.bytes.now.items _ _ (record { number = c.args.number; tip = c.args.tip; hash = c.args.hash.now; rows = c.args.rows.now })
    c.in_ok-put_head.ensures c.in_ok-put_rows.ensures.written
