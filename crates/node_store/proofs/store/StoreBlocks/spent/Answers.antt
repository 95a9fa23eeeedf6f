use Rattle.std.proofs.Common.{◌≡◌}
use Rattle.chain_tree.specs.Told.{Stored}
use Rattle.node_store.proofs.StoredLemmas.{held-told}
use Rattle.node_store.proofs.store.StoreBlocks.spent.Goals as goal

pub returns-clause-ext : goal.returns-clause-ext
returns-clause-ext g c =
    held-told _ c.args.self.now.tree.now.entries c.args.self.now.cache.now.held c.args.self.now.hand c.in-Some.e c.body.result.now
    (λ (it : Stored). c.ext.result.now ≡ it.ext) c.args.self.now.kept c.in-Some.is c.body.ensures.holds c.ext.ensures
