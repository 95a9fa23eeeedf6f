use Rattle.std.proofs.Common.{◌≡◌, Option, Some, None, Err, refl, ap, ◌∙◌}
use Rattle.outside.specs.Image.{Image}
use Rattle.outside.specs.declared.disk.Damage.{Damage}
use Rattle.outside.specs.declared.disk.ReadStop.TheVariants.{Damaged}
use Rattle.chain_tree.specs.Entries.{entry_at}
use Rattle.chain_tree.specs.Reading.{found_next}
use Rattle.chain_tree.proofs.ReadLemmas.{no_stop, finds_none, finds_after}
use Rattle.node_store.specs.Stored.{stored_at, known_by}
use Rattle.node_store.proofs.StoredLemmas.{kept-counted, told-there, of_damage, in_log, failed, stopped, stopped-back, stop-is}
use Rattle.node_store.proofs.store.StoreBlocks.bring.Goals as goal

pub invariant_of-self : goal.invariant_of-self
invariant_of-self g c = record { kept = c.in-Ok.ensures.kept; held = (c.requires.within, c.in-Ok.ensures.held) }

pub invariant_of-self-in-Err : goal.invariant_of-self-in-Err
invariant_of-self-in-Err g c = record {
  kept = kept-counted _ c.args.self.now.tree.now.entries _ _ c.note.ensures.held c.load.ensures.kept;
  held = tt;
}

pub returns-in-Err-clause-read : goal.returns-in-Err-clause-read
returns-in-Err-clause-read g c =
    let it = c.args.self.now in
    let its = c.in-Err.ensures in
    let most = c.note.ensures.most ∙ its.most in
    record {
      told = ap (λ (reads : Option Image). known_by reads it.tree.now.entries) its.same;
      count = refl;
      loans = λ i. record { disk = it.disk.ghost_name; cache = it.cache.ghost_name; content = its.content i; entries = it.tree.now.entries; most = most i };
      damage = λ damage is. in_log (entry_at it.tree.now.entries c.args.e) damage (its.place damage (stopped-back Unit _ _ is));
      cause = record {
        later = its.cause.later;
        rose = λ is. its.cause.rose (stopped-back Unit _ _ is);
        unchanged = λ other. its.cause.unchanged (λ is. other (stopped Unit _ _ is));
      };
      found = record {
        named = λ damage is. c.note.ensures.next damage (stop-is _ _ (stopped-back Unit _ _ is)) ∙ ap (found_next damage) its.damages;
        none = λ other. c.note.ensures.same (λ damage is. other damage (ap (λ stop. Some stop) is)) ∙ its.damages;
      };
    }

pub returns-in-Err-clause-undamaged : goal.returns-in-Err-clause-undamaged
returns-in-Err-clause-undamaged g c = λ told damage is.
    let it = c.args.self.now in
    told-there _ it.tree.now.entries c.args.e c.requires.within told
    (of_damage _ (λ (one : Damage). failed Unit c.in-Err.stop ≡ Err (Damaged one)) (λ image. stored_at image it.tree.now.entries c.args.e ≡ None) damage c.in-Err.ensures.missing is)
