use Rattle.std.proofs.Common.{subst, sym}
use Rattle.node_store.specs.Held.{CacheValue, Holds}
use Rattle.node_store.proofs.HeldLemmas.{found-held}
use Rattle.node_store.proofs.cache.Cache.body.Goals as goal

pub returns-clause-holds : goal.returns-clause-holds
returns-clause-holds c =
    subst (λ (cache : CacheValue). Holds cache.held c.args.e c.in-Some.body.now) c.self.view_is
    (found-held c.self.inside.bodies.entries c.args.e c.in-Some.body.now (sym c.in-Some.ensures))

pub returns-clause-form : goal.returns-clause-form
returns-clause-form c = λ later.
    c.self.invariant c.args.e c.in-Some.body.now (found-held c.self.inside.bodies.entries c.args.e c.in-Some.body.now (sym c.in-Some.ensures)) later
