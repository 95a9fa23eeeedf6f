use Rattle.std.proofs.Common.{◌≡◌, ℕ, List, nat_eq, sym, ap, subst, ◌∙◌}
use Rattle.std.specs.Map.{set_value}
use Rattle.chain_tree.specs.Told.{Stored}
use Rattle.node_store.specs.Held.{HaveForm}
use Rattle.node_store.proofs.HeldLemmas.{set-same}
use Rattle.node_store.proofs.cache.Cache.ids.Goals as goal

pub invariant_of-self : goal.invariant_of-self
invariant_of-self c =
    let held : List (ℕ × Stored) = c.self.inside.bodies.entries in
    let same : set_value (nat_eq c.args.e) held c.ids.new.self ≡ held =
    ap (set_value (nat_eq c.args.e) held) c.ids.ensures.same ∙ set-same held c.args.e c.in-Some.body.now (sym c.in-Some.ensures.value) in
    subst HaveForm (sym same) c.self.invariant

pub returns-clause-same : goal.returns-clause-same
returns-clause-same c =
    let held : List (ℕ × Stored) = c.self.inside.bodies.entries in
    let same : set_value (nat_eq c.args.e) held c.ids.new.self ≡ held =
    ap (set_value (nat_eq c.args.e) held) c.ids.ensures.same ∙ set-same held c.args.e c.in-Some.body.now (sym c.in-Some.ensures.value) in
    ap (λ (them : List (ℕ × Stored)). record { held = them; most = c.self.inside.bodies.cap; damages = record { count = c.self.inside.found; last = c.self.inside.last } }) same
    ∙ c.self.view_is
