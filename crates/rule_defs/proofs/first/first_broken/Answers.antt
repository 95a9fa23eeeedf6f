use Rattle.std.proofs.Common.{refl, sym, ◌∙◌, arith}
use Rattle.rule_defs.proofs.FirstBroken.{ends-broken, goes-on, ends-kept}
use Rattle.rule_defs.proofs.first.first_broken.Goals as goal

pub rows-init : goal.rows-init
rows-init c = refl

pub returns-then-not-kept : goal.returns-then-not-kept
returns-then-not-kept c = ends-broken _ c.rows.i _ (omega (arith, c.rows-test.true)) c.if-not-kept.true ∙ sym c.rows.invariant

pub rows-preserved : goal.rows-preserved
rows-preserved c = c.rows.invariant ∙ goes-on _ c.rows.i _ (omega (arith, c.rows-test.true)) c.if-not-kept.false

pub returns : goal.returns
returns c = ends-kept _ c.rows.i (omega (arith, c.rows-test.false)) ∙ sym c.rows.invariant
