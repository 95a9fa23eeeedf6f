use Rattle.std.proofs.Common.{ℕ, List, length, Some, refl, sym, ap, subst}
use Rattle.std.proofs.lemmas.Option.{same_Some}
use Rattle.outside.specs.declared.disk.ReadStop.{ReadStop}
use Rattle.outside.proofs.Endings.{no_fault}
use Rattle.chain_tree.specs.Told.{Stored}
use Rattle.node_store.specs.Held.{IsInHand}
use Rattle.node_store.proofs.StoredLemmas.{kept-counted}
use Rattle.node_store.proofs.store.StoreBlocks.report.Goals as goal

pub invariant_of-self : goal.invariant_of-self
invariant_of-self g c =
    let it = c.args.self.now in
    record {
      kept = kept-counted _ it.tree.now.entries _ _ c.note.ensures.held it.kept;
      held = subst (λ (held : List (ℕ × Stored)). IsInHand (length it.tree.now.entries) held it.hand) (sym c.note.ensures.held) it.held;
    }

pub returns-clause-read : goal.returns-clause-read
returns-clause-read g c =
    let it = c.args.self.now in
    record {
      told = refl;
      count = refl;
      loans = λ i. record { disk = it.disk.ghost_name; cache = it.cache.ghost_name; content = g.D.Disk.content_of it.disk.now; entries = it.tree.now.entries; most = c.note.ensures.most i };
      damage = λ damage is. c.requires.area damage (same_Some _ _ is);
      cause = no_fault _ _ refl (λ is. c.requires.no_fault (same_Some _ _ is));
      found = record {
        named = λ damage is. c.note.ensures.next damage (same_Some _ _ is);
        none = λ other. c.note.ensures.same (λ damage is. other damage (ap (λ (stop : ReadStop). Some stop) is));
      };
    }
