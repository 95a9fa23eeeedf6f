use Rattle.std.proofs.Common.{refl, sym}
use Rattle.node_store.proofs.HeldLemmas.{promoted-new, promoted-found, nothing_new-form}
use Rattle.node_store.proofs.cache.Cache.promote.Goals as goal

pub invariant_of-self : goal.invariant_of-self
invariant_of-self c = rw c.promote.ensures.entries (nothing_new-form _ _ (promoted-new c.self.inside.bodies.entries c.args.e) c.self.invariant)

pub returns-clause-still : goal.returns-clause-still
returns-clause-still c = rw c.promote.ensures.entries (promoted-found c.self.inside.bodies.entries c.args.e c.promote.result c.promote.ensures.value)

pub returns-clause-only : goal.returns-clause-only
returns-clause-only c = rw (sym c.self.view_is) (rw c.promote.ensures.entries (promoted-new c.self.inside.bodies.entries c.args.e))

pub returns-clause-order : goal.returns-clause-order
returns-clause-order c = rw (sym c.self.view_is) (rw c.promote.ensures.entries refl)
