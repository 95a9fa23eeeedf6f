use Rattle.std.proofs.Common.{◌≡◌, ◌+◌, ℕ, List, ◌∷◌, length, refl, ap, sym, ◌∙◌, subst, arith}
use Rattle.std.specs.Prelude.{IsTrue}
use Rattle.outside.proofs.Endings.{handed, no_answer, no_memory, memory_undamaged, fault_undamaged}
use Rattle.outside.proofs.Moments.{started, leaves_also, now_too}
use Rattle.outside.specs.declared.disk.Area.TheVariants.{Log}
use Rattle.chain_defs.proofs.KeptLaws.{place_of-below}
use Rattle.chain_defs.specs.Ext.{ext_bytes, is_ext, count_at}
use Rattle.verdict_defs.specs.Chain.{Chain, chain_after}
use Rattle.store_defs.specs.JoinLaws.{record_over}
use Rattle.log_file.specs.Pieces.{after_gate, block_record}
use Rattle.log_file.specs.Grammar.{record_of}
use Rattle.log_file.proofs.Creating.{others_same}
use Rattle.log_file.proofs.Exits.{fault_counts}
use Rattle.node_store.specs.declared.decision.Decision.TheVariants.{Joins}
use Rattle.node_store.specs.Import.{HasJoined, LeavesEither}
use Rattle.node_store.specs.Judging.{IsReadyItem, IsDecided}
use Rattle.node_store.specs.Steps.{moves_to_join}
use Rattle.node_store.specs.Kept.{KeptValue, kept_with, stored_of}
use Rattle.node_store.specs.Node.{NodeValue, node_of, IsOwnDiskWhereTold, IsOnlyImage}
use Rattle.node_store.proofs.WritingLemmas.{piece_long}
use Rattle.node_store.proofs.ImportLemmas.{can_join, record_is, form_is, is_ext_for, place_limit, is_after, own_after, few_after, within_after}
use Rattle.node_store.proofs.ImportedLemmas.{left-still, inside-parts}
use Rattle.node_store.proofs.DiskLemmas.{counts_none, stands_either, only_after}
use Rattle.node_store.proofs.AppendLemmas.{as-many, place-next, named_by, of_told, of_some, appended-beside, own_there, own_next, adds-here, held_next}
use Rattle.node_store.proofs.KeepingLemmas.{any-here, left_appended}
use Rattle.node_store.proofs.joining.join.Goals as goal

pub prepare-requires : goal.prepare-requires
prepare-requires g c =
    let ready : IsReadyItem c.node.inside.kept.chain c.args.item.now (Joins c.args.joining) =
    subst (λ (v : NodeValue). IsReadyItem v.chain c.args.item.now (Joins c.args.joining)) (sym c.node.view_is) c.requires.ready in
    record { size = c.requires.size; ready = (ready.0, ready.1, ready.2.ready.hashes) }

pub next_rec-rec-requires-clause-limit : goal.next_rec-rec-requires-clause-limit
next_rec-rec-requires-clause-limit g c =
    let ready : IsReadyItem c.node.inside.kept.chain c.args.item.now (Joins c.args.joining) =
    subst (λ (v : NodeValue). IsReadyItem v.chain c.args.item.now (Joins c.args.joining)) (sym c.node.view_is) c.requires.ready in
    place_limit (length c.node.inside.kept.chain.blocks) c.node.inside.log.place c.node.inside.kept.chain.spec.second_from (omega (arith, ready.2.ready.room)) c.node.invariant.within

pub next_rec-rec-requires-clause-filled : goal.next_rec-rec-requires-clause-filled
next_rec-rec-requires-clause-filled g c =
    piece_long (block_record c.args.item.now (ext_bytes c.args.joining.ext)) c.prepare.new.body c.in-Ok.ensures.filled.filled

pub join-requires-clause-canonical : goal.join-requires-clause-canonical
join-requires-clause-canonical g c =
    let ready : IsReadyItem c.node.inside.kept.chain c.args.item.now (Joins c.args.joining) =
    subst (λ (v : NodeValue). IsReadyItem v.chain c.args.item.now (Joins c.args.joining)) (sym c.node.view_is) c.requires.ready in
    (ready.0, ready.1, ready.2.ready)

pub join-requires-clause-ext : goal.join-requires-clause-ext
join-requires-clause-ext g c =
    let ready : IsReadyItem c.node.inside.kept.chain c.args.item.now (Joins c.args.joining) =
    subst (λ (v : NodeValue). IsReadyItem v.chain c.args.item.now (Joins c.args.joining)) (sym c.node.view_is) c.requires.ready in
    is_ext_for c.node.inside.kept.chain c.args.item.now c.deref.result.now c.args.joining ready
    (subst (λ (ext : List ℕ). IsTrue (is_ext ext)) (sym c.deref.ensures.value) c.in-Ok.ensures.filled.form)
    (ap (λ (ext : List ℕ). count_at ext 0) c.deref.ensures.value ∙ c.in-Ok.ensures.filled.fees)

pub append-requires-clause-limit : goal.append-requires-clause-limit
append-requires-clause-limit g c =
    let ready : IsReadyItem c.node.inside.kept.chain c.args.item.now (Joins c.args.joining) =
    subst (λ (v : NodeValue). IsReadyItem v.chain c.args.item.now (Joins c.args.joining)) (sym c.node.view_is) c.requires.ready in
    place_limit (length c.node.inside.kept.chain.blocks) c.node.inside.log.place c.node.inside.kept.chain.spec.second_from (omega (arith, ready.2.ready.room)) c.node.invariant.within

pub append-requires-clause-there : goal.append-requires-clause-there
append-requires-clause-there g c =
    let own : IsOwnDiskWhereTold (node_of c.node.inside.kept c.node.inside.log.place c.node.inside.state c.node.inside.cache) (g.D.Disk.reads_as c.args.disk.now) (g.D.Disk.images c.args.disk.now) =
    subst (λ (v : NodeValue). IsOwnDiskWhereTold v (g.D.Disk.reads_as c.args.disk.now) (g.D.Disk.images c.args.disk.now)) (sym c.node.view_is) c.requires.own in
    own_there (node_of c.node.inside.kept c.node.inside.log.place c.node.inside.state c.node.inside.cache) (g.D.Disk.reads_as c.args.disk.now) (g.D.Disk.images c.args.disk.now) own

pub append-requires-clause-filled : goal.append-requires-clause-filled
append-requires-clause-filled g c =
    piece_long (block_record c.args.item.now (ext_bytes c.args.joining.ext)) c.prepare.new.body c.in-Ok.ensures.filled.filled

pub invariant_of-result : goal.invariant_of-result
invariant_of-result g c =
    let ready : IsReadyItem c.node.inside.kept.chain c.args.item.now (Joins c.args.joining) =
    subst (λ (v : NodeValue). IsReadyItem v.chain c.args.item.now (Joins c.args.joining)) (sym c.node.view_is) c.requires.ready in
    record {
      few = few_after c.node.inside.kept c.in-Ok-join.joined.0 c.node.inside.kept.chain c.args.item.now c.deref.result.now _ c.args.joining refl c.in-Ok-join.ensures.kept ready;
      within = within_after c.node.inside.kept c.in-Ok-join.joined.0 c.node.inside.kept.chain c.args.item.now c.deref.result.now _ c.args.joining refl c.in-Ok-join.ensures.kept ready
          c.node.inside.log.place c.in-Ok-append.log.place (length c.prepare.new.body) c.node.invariant.within c.in-Ok-append.ensures.place c.in-Ok.ensures.filled.short;
      below = c.in-Ok-join.ensures.below c.node.invariant.below;
    }

-- ---- Stopped before the disk was called: memory was wanted

pub returns-in-Err-clause-joined : goal.returns-in-Err-clause-joined
returns-in-Err-clause-joined g c = tt

pub returns-in-Err-clause-left : goal.returns-in-Err-clause-left
returns-in-Err-clause-left g c = left-still g.D.Disk.reads_as g.D.Disk.images g.D.Disk.moment g.D.Disk.left_since g.met.D.Disk.only_now c.args.disk.now _ c.args.node c.args.item.now

pub returns-in-Err-clause-others : goal.returns-in-Err-clause-others
returns-in-Err-clause-others g c = others_same Log (g.D.Disk.reads_as c.args.disk.now)

pub returns-in-Err-clause-beside : goal.returns-in-Err-clause-beside
returns-in-Err-clause-beside g c = λ _. started g.D.Disk.moment g.D.Disk.left_since _ _ (λ image left.
    any-here Log (g.D.Disk.images c.args.disk.now) image (g.met.D.Disk.only_now c.args.disk.now image left))

pub returns-in-Err-clause-untouched : goal.returns-in-Err-clause-untouched
returns-in-Err-clause-untouched g c = λ _. refl

pub returns-in-Err-clause-undamaged : goal.returns-in-Err-clause-undamaged
returns-in-Err-clause-undamaged g c = λ _ _ _ damage e. memory_undamaged damage e

pub returns-in-Err-clause-damage : goal.returns-in-Err-clause-damage
returns-in-Err-clause-damage g c = λ damage e. absurd (memory_undamaged damage e)

pub returns-in-Err-clause-cause : goal.returns-in-Err-clause-cause
returns-in-Err-clause-cause g c = counts_none _ _ refl no_memory

pub returns-in-Err-clause-most : goal.returns-in-Err-clause-most
returns-in-Err-clause-most g c = omega arith

-- ---- Stopped before the disk was called: it was not kept

pub returns-in-Err-join-clause-joined : goal.returns-in-Err-join-clause-joined
returns-in-Err-join-clause-joined g c = tt

pub returns-in-Err-join-clause-left : goal.returns-in-Err-join-clause-left
returns-in-Err-join-clause-left g c = left-still g.D.Disk.reads_as g.D.Disk.images g.D.Disk.moment g.D.Disk.left_since g.met.D.Disk.only_now c.args.disk.now _ c.args.node c.args.item.now

pub returns-in-Err-join-clause-others : goal.returns-in-Err-join-clause-others
returns-in-Err-join-clause-others g c = others_same Log (g.D.Disk.reads_as c.args.disk.now)

pub returns-in-Err-join-clause-beside : goal.returns-in-Err-join-clause-beside
returns-in-Err-join-clause-beside g c = λ _. started g.D.Disk.moment g.D.Disk.left_since _ _ (λ image left.
    any-here Log (g.D.Disk.images c.args.disk.now) image (g.met.D.Disk.only_now c.args.disk.now image left))

pub returns-in-Err-join-clause-untouched : goal.returns-in-Err-join-clause-untouched
returns-in-Err-join-clause-untouched g c = λ _. refl

pub returns-in-Err-join-clause-undamaged : goal.returns-in-Err-join-clause-undamaged
returns-in-Err-join-clause-undamaged g c = λ decided joined live damage same.
    let parts = inside-parts c.node.inside.kept c.node.inside.log.place c.node.inside.state c.node.inside.cache c.args.node c.args.item.now c.args.joining c.node.view_is
    decided joined live in
    c.join.ensures.undamaged parts.decided.0 parts.decided.1 parts.joined.joined parts.decided.2.may parts.live damage (c.in-Err-join.is ∙ handed _ _ same)

pub returns-in-Err-join-clause-damage : goal.returns-in-Err-join-clause-damage
returns-in-Err-join-clause-damage g c = λ damage e. c.in-Err-join.ensures.damage damage (handed _ _ e)

pub returns-in-Err-join-clause-cause : goal.returns-in-Err-join-clause-cause
returns-in-Err-join-clause-cause g c = counts_none _ _ refl (λ e. c.in-Err-join.ensures.reads (handed _ _ e))

pub returns-in-Err-join-clause-most : goal.returns-in-Err-join-clause-most
returns-in-Err-join-clause-most g c = c.join.ensures.most

-- ---- Its record was not put on the disk

pub returns-in-Err-append-clause-joined : goal.returns-in-Err-append-clause-joined
returns-in-Err-append-clause-joined g c = tt

pub returns-in-Err-append-clause-left : goal.returns-in-Err-append-clause-left
returns-in-Err-append-clause-left g c =
    let own : IsOwnDiskWhereTold (node_of c.node.inside.kept c.node.inside.log.place c.node.inside.state c.node.inside.cache) (g.D.Disk.reads_as c.args.disk.now) (g.D.Disk.images c.args.disk.now) =
    subst (λ (v : NodeValue). IsOwnDiskWhereTold v (g.D.Disk.reads_as c.args.disk.now) (g.D.Disk.images c.args.disk.now)) (sym c.node.view_is) c.requires.own in
    subst (λ (v : NodeValue). LeavesEither g.D.Disk.reads_as g.D.Disk.images g.D.Disk.moment g.D.Disk.left_since c.args.disk.now c.append.new.disk
    (IsDecided v.chain c.args.item.now (Joins c.args.joining)) v c.args.item.now) c.node.view_is (record {
      moments = λ decided only.
          let of = of_told (node_of c.node.inside.kept c.node.inside.log.place c.node.inside.state c.node.inside.cache) (g.D.Disk.reads_as c.args.disk.now) (g.D.Disk.images c.args.disk.now) only.now only.told own in
          let records = record_of 1 of.read.specification ∷ of.read.records in
          let can = can_join c.node.inside.kept.chain c.args.item.now c.args.joining decided in
          let form = form_is c.node.inside.kept.chain c.args.item.now c.in-Ok.ext.items c.args.joining decided c.in-Ok.ensures.filled.of_ext c.in-Ok.ensures.filled.form in
          let filled : c.prepare.new.body ≡ after_gate (record_over c.node.inside.kept.chain c.args.item.now) =
          c.in-Ok.ensures.filled.filled ∙ ap after_gate (record_is c.node.inside.kept.chain c.args.item.now c.args.joining decided) in
          leaves_also g.D.Disk.moment g.D.Disk.left_since _ _ _ _
          (c.append.ensures.moments records (record_over c.node.inside.kept.chain c.args.item.now) filled of.settled)
          (stands_either c.node.inside.kept.chain (g.D.Disk.reads_as c.args.disk.now) (g.D.Disk.images c.args.disk.now) only c.node.inside.log.place records of.settled c.args.item.now can c.requires.size form);
      keeps = λ records settled.
          leaves_also g.D.Disk.moment g.D.Disk.left_since _ _ _ _
          (c.append.ensures.moments records (block_record c.args.item.now (ext_bytes c.args.joining.ext)) c.in-Ok.ensures.filled.filled settled)
          (left_appended c.node.inside.log.place records c.args.item.now (ext_bytes c.args.joining.ext) (g.D.Disk.images c.args.disk.now));
    })

pub returns-in-Err-append-clause-others : goal.returns-in-Err-append-clause-others
returns-in-Err-append-clause-others g c = c.append.ensures.others

pub returns-in-Err-append-clause-beside : goal.returns-in-Err-append-clause-beside
returns-in-Err-append-clause-beside g c = λ told.
    let own : IsOwnDiskWhereTold (node_of c.node.inside.kept c.node.inside.log.place c.node.inside.state c.node.inside.cache) (g.D.Disk.reads_as c.args.disk.now) (g.D.Disk.images c.args.disk.now) =
    subst (λ (v : NodeValue). IsOwnDiskWhereTold v (g.D.Disk.reads_as c.args.disk.now) (g.D.Disk.images c.args.disk.now)) (sym c.node.view_is) c.requires.own in
    let of = of_some (node_of c.node.inside.kept c.node.inside.log.place c.node.inside.state c.node.inside.cache) (g.D.Disk.reads_as c.args.disk.now) (g.D.Disk.images c.args.disk.now) told own in
    leaves_also g.D.Disk.moment g.D.Disk.left_since _ _ _ _
    (c.append.ensures.moments (record_of 1 of.read.specification ∷ of.read.records) (block_record c.args.item.now (ext_bytes c.args.joining.ext)) c.in-Ok.ensures.filled.filled of.settled)
    (appended-beside c.node.inside.log.place _ _ (g.D.Disk.images c.args.disk.now))

pub returns-in-Err-append-clause-untouched : goal.returns-in-Err-append-clause-untouched
returns-in-Err-append-clause-untouched g c = λ other. absurd (other refl)

pub returns-in-Err-append-clause-undamaged : goal.returns-in-Err-append-clause-undamaged
returns-in-Err-append-clause-undamaged g c = λ _ _ _ damage e. fault_undamaged damage e

pub returns-in-Err-append-clause-damage : goal.returns-in-Err-append-clause-damage
returns-in-Err-append-clause-damage g c = λ damage e. absurd (fault_undamaged damage e)

pub returns-in-Err-append-clause-cause : goal.returns-in-Err-append-clause-cause
returns-in-Err-append-clause-cause g c = fault_counts _ _ _ _ c.in-Err-append.ensures.cause

pub returns-in-Err-append-clause-most : goal.returns-in-Err-append-clause-most
returns-in-Err-append-clause-most g c = c.join.ensures.most

-- ---- It joined

pub returns-in-Ok-append-clause-left : goal.returns-in-Ok-append-clause-left
returns-in-Ok-append-clause-left g c =
    let own : IsOwnDiskWhereTold (node_of c.node.inside.kept c.node.inside.log.place c.node.inside.state c.node.inside.cache) (g.D.Disk.reads_as c.args.disk.now) (g.D.Disk.images c.args.disk.now) =
    subst (λ (v : NodeValue). IsOwnDiskWhereTold v (g.D.Disk.reads_as c.args.disk.now) (g.D.Disk.images c.args.disk.now)) (sym c.node.view_is) c.requires.own in
    subst (λ (v : NodeValue). LeavesEither g.D.Disk.reads_as g.D.Disk.images g.D.Disk.moment g.D.Disk.left_since c.args.disk.now c.append.new.disk
    (IsDecided v.chain c.args.item.now (Joins c.args.joining)) v c.args.item.now) c.node.view_is (record {
      moments = λ decided only.
          let of = of_told (node_of c.node.inside.kept c.node.inside.log.place c.node.inside.state c.node.inside.cache) (g.D.Disk.reads_as c.args.disk.now) (g.D.Disk.images c.args.disk.now) only.now only.told own in
          let records = record_of 1 of.read.specification ∷ of.read.records in
          let can = can_join c.node.inside.kept.chain c.args.item.now c.args.joining decided in
          let form = form_is c.node.inside.kept.chain c.args.item.now c.in-Ok.ext.items c.args.joining decided c.in-Ok.ensures.filled.of_ext c.in-Ok.ensures.filled.form in
          let filled : c.prepare.new.body ≡ after_gate (record_over c.node.inside.kept.chain c.args.item.now) =
          c.in-Ok.ensures.filled.filled ∙ ap after_gate (record_is c.node.inside.kept.chain c.args.item.now c.args.joining decided) in
          leaves_also g.D.Disk.moment g.D.Disk.left_since _ _ _ _
          (c.append.ensures.moments records (record_over c.node.inside.kept.chain c.args.item.now) filled of.settled)
          (stands_either c.node.inside.kept.chain (g.D.Disk.reads_as c.args.disk.now) (g.D.Disk.images c.args.disk.now) only c.node.inside.log.place records of.settled c.args.item.now can c.requires.size form);
      keeps = λ records settled.
          leaves_also g.D.Disk.moment g.D.Disk.left_since _ _ _ _
          (c.append.ensures.moments records (block_record c.args.item.now (ext_bytes c.args.joining.ext)) c.in-Ok.ensures.filled.filled settled)
          (left_appended c.node.inside.log.place records c.args.item.now (ext_bytes c.args.joining.ext) (g.D.Disk.images c.args.disk.now));
    })

pub returns-in-Ok-append-clause-others : goal.returns-in-Ok-append-clause-others
returns-in-Ok-append-clause-others g c = c.append.ensures.others

pub returns-in-Ok-append-clause-beside : goal.returns-in-Ok-append-clause-beside
returns-in-Ok-append-clause-beside g c = λ told.
    let own : IsOwnDiskWhereTold (node_of c.node.inside.kept c.node.inside.log.place c.node.inside.state c.node.inside.cache) (g.D.Disk.reads_as c.args.disk.now) (g.D.Disk.images c.args.disk.now) =
    subst (λ (v : NodeValue). IsOwnDiskWhereTold v (g.D.Disk.reads_as c.args.disk.now) (g.D.Disk.images c.args.disk.now)) (sym c.node.view_is) c.requires.own in
    let of = of_some (node_of c.node.inside.kept c.node.inside.log.place c.node.inside.state c.node.inside.cache) (g.D.Disk.reads_as c.args.disk.now) (g.D.Disk.images c.args.disk.now) told own in
    leaves_also g.D.Disk.moment g.D.Disk.left_since _ _ _ _
    (c.append.ensures.moments (record_of 1 of.read.specification ∷ of.read.records) (block_record c.args.item.now (ext_bytes c.args.joining.ext)) c.in-Ok.ensures.filled.filled of.settled)
    (appended-beside c.node.inside.log.place _ _ (g.D.Disk.images c.args.disk.now))

pub returns-in-Ok-append-clause-untouched : goal.returns-in-Ok-append-clause-untouched
returns-in-Ok-append-clause-untouched g c = tt

pub returns-in-Ok-append-clause-undamaged : goal.returns-in-Ok-append-clause-undamaged
returns-in-Ok-append-clause-undamaged g c = λ _ _ _ _ e. no_answer _ _ e

pub returns-in-Ok-append-clause-damage : goal.returns-in-Ok-append-clause-damage
returns-in-Ok-append-clause-damage g c = λ _ e. absurd (no_answer _ _ e)

pub returns-in-Ok-append-clause-cause : goal.returns-in-Ok-append-clause-cause
returns-in-Ok-append-clause-cause g c = counts_none _ _ (c.in-Ok-append.ensures.cause.unchanged refl) (λ e. no_answer _ _ e)

pub returns-in-Ok-append-clause-most : goal.returns-in-Ok-append-clause-most
returns-in-Ok-append-clause-most g c = c.join.ensures.most

pub returns-in-Ok-append-clause-joined : goal.returns-in-Ok-append-clause-joined
returns-in-Ok-append-clause-joined g c =
    let own : IsOwnDiskWhereTold (node_of c.node.inside.kept c.node.inside.log.place c.node.inside.state c.node.inside.cache) (g.D.Disk.reads_as c.args.disk.now) (g.D.Disk.images c.args.disk.now) =
    subst (λ (v : NodeValue). IsOwnDiskWhereTold v (g.D.Disk.reads_as c.args.disk.now) (g.D.Disk.images c.args.disk.now)) (sym c.node.view_is) c.requires.own in
    let ready : IsReadyItem c.node.inside.kept.chain c.args.item.now (Joins c.args.joining) =
    subst (λ (v : NodeValue). IsReadyItem v.chain c.args.item.now (Joins c.args.joining)) (sym c.node.view_is) c.requires.ready in
    let ext = c.in-Ok.ext.items in
    let below = place_of-below c.node.inside.kept.chain.blocks ready.0.header.parent_hash c.args.joining.entry.parent ready.2.ready.entry.on_kept in
    let filled : c.prepare.new.body ≡ after_gate (block_record c.args.item.now ext) =
    c.in-Ok.ensures.filled.filled ∙ ap (λ (bytes : List ℕ). after_gate (block_record c.args.item.now bytes)) (sym c.in-Ok.ensures.filled.of_ext) in
    let kept = c.in-Ok-join.ensures.kept ready.0 ready.1 ∙ ap (λ (bytes : List ℕ). kept_with c.node.inside.kept ready.0 bytes (named_by c.args.joining.entry c.next_rec-rec.result)) c.deref.ensures.value in
    let at : c.len-place.result ≡ length c.node.inside.kept.chain.blocks = place-next c.kept.inside.spec c.kept.inside.blocks.stored c.kept.inside.tree.entries c.node.inside.kept c.len-place.result c.kept.view_is c.kept.invariant.indexed
    c.len-place.ensures.len in
    let after = is_after c.node.inside.kept c.in-Ok-join.joined.0 c.node.inside.kept.chain c.args.item.now c.deref.result.now _ c.args.joining refl c.in-Ok-join.ensures.kept in
    subst (λ (v : NodeValue). HasJoined v (node_of c.in-Ok-join.joined.0 c.in-Ok-append.log.place c.in-Ok-join.joined.1 c.prepare.new.cache) c.args.item.now c.args.joining
    (g.D.Disk.reads_as c.args.disk.now) (g.D.Disk.reads_as c.append.new.disk) (g.D.Disk.images c.args.disk.now) (g.D.Disk.images c.append.new.disk)) c.node.view_is (record {
      own =
          own_next c.node.inside.kept c.in-Ok-join.joined.0 ready.0 c.args.item.now ext (named_by c.args.joining.entry c.next_rec-rec.result) c.next_rec-rec.result c.node.inside.log.place
          c.node.inside.cache c.prepare.new.cache kept
          (as-many c.kept.inside.spec c.kept.inside.blocks.stored c.kept.inside.tree.entries c.node.inside.kept c.kept.view_is) (omega (arith, below)) ready.1
          c.in-Ok.ensures.filled.form c.in-Ok.ensures.filled.fits (c.next_rec-rec.ensures (block_record c.args.item.now ext) filled) refl refl
          (adds-here c.len-place.result (length c.node.inside.kept.chain.blocks) _ _ c.node.inside.cache.held c.prepare.new.cache.held at refl (c.in-Ok.ensures.only ready.0 ready.1))
          c.node.inside.state c.in-Ok-join.joined.1 c.in-Ok-append.log.place (g.D.Disk.reads_as c.args.disk.now) (g.D.Disk.reads_as c.append.new.disk) (g.D.Disk.images c.args.disk.now) (g.D.Disk.images c.append.new.disk)
          (λ records settled. c.in-Ok-append.ensures.settled records (block_record c.args.item.now ext) filled settled) own c.append.ensures.others;
      kept = after;
      exts = λ decided have.
          own_after c.node.inside.kept c.in-Ok-join.joined.0 c.node.inside.kept.chain c.args.item.now c.deref.result.now _ c.args.joining refl c.in-Ok-join.ensures.kept decided
          (c.deref.ensures.value ∙ c.in-Ok.ensures.filled.of_ext) c.node.inside.kept.exts refl have;
      live = c.in-Ok-join.ensures.live;
      image = λ decided only.
          let of = of_told (node_of c.node.inside.kept c.node.inside.log.place c.node.inside.state c.node.inside.cache) (g.D.Disk.reads_as c.args.disk.now) (g.D.Disk.images c.args.disk.now) only.now only.told own in
          let records = record_of 1 of.read.specification ∷ of.read.records in
          let can = can_join c.node.inside.kept.chain c.args.item.now c.args.joining decided in
          let form = form_is c.node.inside.kept.chain c.args.item.now c.in-Ok.ext.items c.args.joining decided c.in-Ok.ensures.filled.of_ext c.in-Ok.ensures.filled.form in
          let filled : c.prepare.new.body ≡ after_gate (record_over c.node.inside.kept.chain c.args.item.now) =
          c.in-Ok.ensures.filled.filled ∙ ap after_gate (record_is c.node.inside.kept.chain c.args.item.now c.args.joining decided) in
          subst (λ (chain : Chain). IsOnlyImage chain (g.D.Disk.reads_as c.append.new.disk) (g.D.Disk.images c.append.new.disk)) (sym (after decided))
          (only_after c.node.inside.kept.chain (g.D.Disk.reads_as c.args.disk.now) (g.D.Disk.images c.args.disk.now) only c.node.inside.log.place records of.settled
          c.args.item.now can c.requires.size form c.in-Ok-append.log.place (g.D.Disk.reads_as c.append.new.disk) (g.D.Disk.images c.append.new.disk)
          (c.in-Ok-append.ensures.settled records (record_over c.node.inside.kept.chain c.args.item.now) filled of.settled) c.append.ensures.others
          (now_too g.D.Disk.moment g.D.Disk.left_since g.D.Disk.images g.met.D.Disk.counts_now _ _ _
          (c.append.ensures.moments records (record_over c.node.inside.kept.chain c.args.item.now) filled of.settled)));
      settled = λ records settled.
          c.in-Ok-append.ensures.settled records (block_record c.args.item.now (ext_bytes c.args.joining.ext)) c.in-Ok.ensures.filled.filled settled;
      spec = ap (λ (k : KeptValue). k.chain.spec) (c.in-Ok-join.ensures.kept ready.0 ready.1);
      holds = held_next c.prepare.new.cache.held c.len-place.result (length c.node.inside.kept.chain.blocks) _ at (c.in-Ok.ensures.held ready.0 ready.1);
      room = c.prepare.ensures.most;
      found = c.prepare.ensures.damages;
    })

-- ---- How many steps

pub returns-in-Err-clause-exactly : goal.returns-in-Err-clause-exactly
returns-in-Err-clause-exactly g c = tt

pub returns-in-Err-join-clause-exactly : goal.returns-in-Err-join-clause-exactly
returns-in-Err-join-clause-exactly g c = tt

pub returns-in-Err-append-clause-exactly : goal.returns-in-Err-append-clause-exactly
returns-in-Err-append-clause-exactly g c = tt

pub returns-in-Ok-append-clause-exactly : goal.returns-in-Ok-append-clause-exactly
returns-in-Ok-append-clause-exactly g c =
    subst (λ (v : NodeValue). c.join.new.steps ≡ c.args.steps.now + moves_to_join v.chain.blocks c.args.joining) c.node.view_is c.in-Ok-join.ensures.exactly
