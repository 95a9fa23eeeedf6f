use Rattle.std.proofs.Common.{sym, subst}
use Rattle.supply_defs.specs.Step.{Step, Moves}
use Rattle.supply.proofs.totals.Totals.after.Goals as goal

pub returns-in_err-made-clause-after : goal.returns-in_err-made-clause-after
returns-in_err-made-clause-after c totals moves at bounded =
    let none = c.in_err-made.ensures.made totals.live (subst (λ (s : Step). Moves s.live c.args.self.now.live totals.live) (sym c.step.view_is) moves.live) bounded.live in
    absurd (cc)

pub returns-in_err-made-2-clause-after : goal.returns-in_err-made-2-clause-after
returns-in_err-made-2-clause-after c totals moves at bounded =
    let none = c.in_err-made-2.ensures.made totals.occupied
    (subst (λ (s : Step). Moves s.occupied c.args.self.now.occupied totals.occupied) (sym c.step.view_is) moves.occupied) bounded.occupied in
    absurd (cc)

pub returns-in_err-made-3-clause-after : goal.returns-in_err-made-3-clause-after
returns-in_err-made-3-clause-after c totals moves at bounded =
    let none = c.in_err-made-3.ensures.made totals.unpaid
    (subst (λ (s : Step). Moves s.unpaid c.args.self.now.unpaid totals.unpaid) (sym c.step.view_is) moves.unpaid) bounded.unpaid in
    absurd (cc)

pub returns-in_err-made-4-clause-after : goal.returns-in_err-made-4-clause-after
returns-in_err-made-4-clause-after c totals moves at bounded =
    let none = c.in_err-made-4.ensures.made totals.burned
    (subst (λ (s : Step). Moves s.burned c.args.self.now.burned totals.burned) (sym c.step.view_is) moves.burned) bounded.burned in
    absurd (cc)
