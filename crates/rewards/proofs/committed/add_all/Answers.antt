use Rattle.std.proofs.Common.{◌∙◌, refl, arith, false}
use Rattle.std.proofs.lemmas.Option.{slice_get-get_or}
use Rattle.rewards.proofs.CommitLemmas.{or-nothing, one-more-id, all-ids}
use Rattle.rewards.proofs.committed.add_all.Goals as goal

pub ids-init : goal.ids-init
ids-init c id = or-nothing _ false refl

pub ids-preserved : goal.ids-preserved
ids-preserved c id =
    c.in_ok-insert.ensures.updates.0 id
    ∙ one-more-id c.args.ids.now c.ids.i id _ _ _ (slice_get-get_or c.args.ids.now c.ids.i _ (omega (arith, c.ids-test.true))) (c.ids.invariant id)

pub returns : goal.returns
returns c id = all-ids c.args.ids.now c.ids.i id _ _ (omega (arith, c.ids-test.false)) (c.ids.invariant id)
