use Rattle.std.proofs.Common.{◌≡◌, ℕ, List, length, Option, None, refl, sym, ap, subst}
use Rattle.outside.proofs.Endings.{no_fault}
use Rattle.outside.specs.declared.disk.ReadStop.TheVariants.{DiskFault, Damaged}
use Rattle.chain_tree.specs.Told.{Stored}
use Rattle.chain_tree.proofs.ReadLemmas.{no_stop, finds_none, finds_after}
use Rattle.cell_state.specs.ListBlocks.{ids_of}
use Rattle.cell_state.proofs.ListBlockLemmas.{if_ok-so}
use Rattle.node_store.specs.Held.{CacheValue, IsInHand}
use Rattle.node_store.proofs.StoredLemmas.{kept-counted, hand-told}
use Rattle.node_store.proofs.store.StoreBlocks.ids.Goals as goal

pub invariant_of-self : goal.invariant_of-self
invariant_of-self g c =
    let it = c.args.self.now in
    let held = ap (λ (v : CacheValue). v.held) c.ids.ensures.same in
    record {
      kept = kept-counted _ it.tree.now.entries _ _ held it.kept;
      held = subst (λ (held : List (ℕ × Stored)). IsInHand (length it.tree.now.entries) held it.hand) (sym held) it.held;
    }

pub returns-clause-read : goal.returns-clause-read
returns-clause-read g c =
    let it = c.args.self.now in
    record {
      told = refl;
      count = refl;
      loans = λ i. record { disk = it.disk.ghost_name; cache = it.cache.ghost_name; content = g.D.Disk.content_of it.disk.now; entries = it.tree.now.entries; most = (c.ids.ensures.same i).most };
      damage = λ damage is. absurd (no_stop (Damaged damage) is);
      cause = no_fault _ _ refl (no_stop DiskFault);
      found = finds_after (ap (λ (v : CacheValue). v.damages) c.ids.ensures.same) (finds_none _ (λ damage is. no_stop (Damaged damage) is));
    }

pub returns-clause-ids : goal.returns-clause-ids
returns-clause-ids g c =
    let it = c.args.self.now in
    let there = subst (λ (hand : Option ℕ). IsInHand (length it.tree.now.entries) it.cache.now.held hand) c.in-Some.is it.held in
    if_ok-so c.ids.result _ _ (λ ids is. hand-told _ it.tree.now.entries it.cache.now.held it.hand c.in-Some.e (λ (at : Stored). ids.items ≡ ids_of at.block) it.kept c.in-Some.is there.1 is)
    c.ids.ensures.ids
