use Rattle.std.proofs.Common.{ℕ, List, ap, ◌∙◌, subst}
use Rattle.chain_tree.specs.Told.{Stored}
use Rattle.node_store.specs.Held.{OnlyAdds}
use Rattle.node_store.proofs.joining.prepare.Goals as goal

pub returns-clause-only : goal.returns-clause-only
returns-clause-only c b is =
    subst (λ (it : Stored). OnlyAdds c.args.place it c.args.cache.now.held c.put.new.self.held)
    (c.in_ok-held.ensures b is ∙ ap (λ (ext : List ℕ). record { block = b; ext = ext }) c.deref.ensures.value) c.put.ensures.only
