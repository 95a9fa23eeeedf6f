use Rattle.std.proofs.Common.{List, refl, sym, ap, ◌∙◌, subst}
use Rattle.std.specs.Prelude.{IfSome}
use Rattle.outside.proofs.Moments.{now_too}
use Rattle.log_file.proofs.Exits.{fault_counts, stop_counts, counts_on, memory_not_fault, answer_counts, answer_still, damage_also, damage_named, named_no_fault, in_log_also}
use Rattle.chain_tree.specs.declared.entry.Entry.{Entry}
use Rattle.node_store.specs.Kept.{KeptValue}
use Rattle.node_store.specs.Opening.{NameItsBodies}
use Rattle.node_store.proofs.OpenLemmas.{leaves_synced, leaves_read, is_bounded, opened_read, not_sound, none_from, names_its_bodies, unfit_from, not_joined, one_after, opened_only, if_some_also, same_stop, ok_err, not_ok, counts_none}
use Rattle.node_store.proofs.node.read_store.Goals as goal

pub open-requires : goal.open-requires
open-requires g c = c.new-gathering.ensures

pub into_kept-requires : goal.into_kept-requires
into_kept-requires g c = c.in-Ok-open.ensures.blocks

pub returns-in-Err-clause-left : goal.returns-in-Err-clause-left
returns-in-Err-clause-left g c =
    leaves_synced g.D.Disk.reads_as g.D.Disk.images g.D.Disk.moment g.D.Disk.left_since _ _ c.in-Err.ensures.same c.in-Err.ensures.images c.in-Err.ensures.moments

pub returns-in-Err-clause-not_a_store : goal.returns-in-Err-clause-not_a_store
returns-in-Err-clause-not_a_store g c = tt

pub returns-in-Err-clause-cause : goal.returns-in-Err-clause-cause
returns-in-Err-clause-cause g c = fault_counts _ _ _ _ c.in-Err.ensures.cause

pub returns-in-Err-open-clause-left : goal.returns-in-Err-open-clause-left
returns-in-Err-open-clause-left g c =
    leaves_read g.D.Disk.reads_as g.D.Disk.images g.D.Disk.moment g.D.Disk.left_since _ _ _ c.in-Ok.ensures.same c.in-Ok.ensures.images c.in-Ok.ensures.moments
    c.in-Ok.ensures.snap_a c.in-Ok.ensures.snap_b c.open.ensures.no_log c.open.ensures.rests c.open.ensures.moments c.open.ensures.others

pub returns-in-Err-open-clause-not_a_store : goal.returns-in-Err-open-clause-not_a_store
returns-in-Err-open-clause-not_a_store g c =
    damage_also _ _ c.in-Err-open.stop (λ damage wrong. not_sound _ _ damage.at c.in-Ok.ensures.same wrong.at) c.in-Err-open.ensures.not_a_store

pub returns-in-Err-open-clause-cause : goal.returns-in-Err-open-clause-cause
returns-in-Err-open-clause-cause g c = counts_on _ _ _ (c.in-Ok.ensures.cause.unchanged refl) (stop_counts _ _ _ _ c.in-Err-open.ensures.cause)

pub returns-in-Err-into_kept-clause-left : goal.returns-in-Err-into_kept-clause-left
returns-in-Err-into_kept-clause-left g c =
    leaves_read g.D.Disk.reads_as g.D.Disk.images g.D.Disk.moment g.D.Disk.left_since _ _ _ c.in-Ok.ensures.same c.in-Ok.ensures.images c.in-Ok.ensures.moments
    c.in-Ok.ensures.snap_a c.in-Ok.ensures.snap_b c.open.ensures.no_log c.open.ensures.rests c.open.ensures.moments c.open.ensures.others

pub returns-in-Err-into_kept-clause-not_a_store : goal.returns-in-Err-into_kept-clause-not_a_store
returns-in-Err-into_kept-clause-not_a_store g c =
    damage_named _ _ c.in-Err-into_kept.stop (λ _ _.
    not_joined _ _ c.in-Ok-open.opened.spec c.open.new.visitor.stored c.in-Ok-open.opened.tree.entries c.in-Ok.ensures.same c.in-Ok-open.ensures.opened c.in-Ok-open.ensures.blocks
    (λ rated counted. not_ok c.into_kept.result _ c.in-Err-into_kept.is (c.into_kept.ensures.right rated counted))) c.in-Err-into_kept.ensures.stop

pub returns-in-Err-into_kept-clause-cause : goal.returns-in-Err-into_kept-clause-cause
returns-in-Err-into_kept-clause-cause g c =
    counts_none _ _ _ (c.in-Ok.ensures.cause.unchanged refl) c.open.ensures.cause (λ fault. ok_err _ _ (sym c.in-Ok-open.is ∙ fault))
    (λ fault. named_no_fault _ c.in-Err-into_kept.stop c.in-Err-into_kept.ensures.stop (same_stop _ _ fault))

pub returns-in-Err-new-clause-left : goal.returns-in-Err-new-clause-left
returns-in-Err-new-clause-left g c =
    leaves_read g.D.Disk.reads_as g.D.Disk.images g.D.Disk.moment g.D.Disk.left_since _ _ _ c.in-Ok.ensures.same c.in-Ok.ensures.images c.in-Ok.ensures.moments
    c.in-Ok.ensures.snap_a c.in-Ok.ensures.snap_b c.open.ensures.no_log c.open.ensures.rests c.open.ensures.moments c.open.ensures.others

pub returns-in-Err-new-clause-not_a_store : goal.returns-in-Err-new-clause-not_a_store
returns-in-Err-new-clause-not_a_store g c = tt

pub returns-in-Err-new-clause-cause : goal.returns-in-Err-new-clause-cause
returns-in-Err-new-clause-cause g c =
    counts_none _ _ _ (c.in-Ok.ensures.cause.unchanged refl) c.open.ensures.cause (λ fault. ok_err _ _ (sym c.in-Ok-open.is ∙ fault)) memory_not_fault

pub invariant_of-result : goal.invariant_of-result
invariant_of-result g c =
    is_bounded c.in-Ok-into_kept.kept.0 c.in-Ok-open.opened.spec c.open.new.visitor.stored c.in-Ok-open.opened.tree.entries c.in-Ok-open.opened.log.place
    c.in-Ok-into_kept.kept.1 c.in-Ok-into_kept.ensures.kept c.in-Ok-open.ensures.blocks.few c.in-Ok-open.ensures.place c.in-Ok-into_kept.ensures.below

pub returns-in-Ok-new-clause-left : goal.returns-in-Ok-new-clause-left
returns-in-Ok-new-clause-left g c =
    leaves_read g.D.Disk.reads_as g.D.Disk.images g.D.Disk.moment g.D.Disk.left_since _ _ _ c.in-Ok.ensures.same c.in-Ok.ensures.images c.in-Ok.ensures.moments
    c.in-Ok.ensures.snap_a c.in-Ok.ensures.snap_b c.open.ensures.no_log c.open.ensures.rests c.open.ensures.moments c.open.ensures.others

pub returns-in-Ok-new-clause-read : goal.returns-in-Ok-new-clause-read
returns-in-Ok-new-clause-read g c =
    opened_read _ _ c.in-Ok-open.opened.spec c.open.new.visitor.stored c.in-Ok-open.opened.tree.entries c.in-Ok.ensures.same c.in-Ok-open.ensures.opened c.in-Ok-open.ensures.blocks
    c.in-Ok-into_kept.kept.0 c.in-Ok-into_kept.ensures.kept c.in-Ok-new.cache c.in-Ok-new.ensures.empty c.in-Ok-open.opened.log.place c.in-Ok-into_kept.kept.1 _ _ c.in-Ok-open.ensures.settled

pub returns-in-Ok-new-clause-not_a_store : goal.returns-in-Ok-new-clause-not_a_store
returns-in-Ok-new-clause-not_a_store g c = tt

pub returns-in-Ok-new-clause-one_image : goal.returns-in-Ok-new-clause-one_image
returns-in-Ok-new-clause-one_image g c =
    one_after _ _ _ _ c.in-Ok-open.opened.log.place c.in-Ok.ensures.snap_a c.in-Ok.ensures.snap_b c.open.ensures.others c.in-Ok-open.ensures.settled
    (if_some_also _ _ _ c.open.ensures.moments (λ now left. now_too g.D.Disk.moment g.D.Disk.left_since g.D.Disk.images g.met.D.Disk.counts_now _ _ _ left))

pub returns-in-Ok-new-clause-image : goal.returns-in-Ok-new-clause-image
returns-in-Ok-new-clause-image g c sound =
    opened_only _ _ sound _ _ _ c.in-Ok-open.opened.log.place c.in-Ok-into_kept.kept.0 c.in-Ok-open.opened.spec c.open.new.visitor.stored c.in-Ok-open.opened.tree.entries
    c.in-Ok-into_kept.ensures.kept (g.met.D.Disk.reads_image c.args.disk.now) c.in-Ok.ensures.same c.in-Ok-open.ensures.opened c.open.ensures.others c.in-Ok-open.ensures.settled
    (one_after _ _ _ _ c.in-Ok-open.opened.log.place c.in-Ok.ensures.snap_a c.in-Ok.ensures.snap_b c.open.ensures.others c.in-Ok-open.ensures.settled
    (if_some_also _ _ _ c.open.ensures.moments (λ now left. now_too g.D.Disk.moment g.D.Disk.left_since g.D.Disk.images g.met.D.Disk.counts_now _ _ _ left)))

pub returns-in-Ok-new-clause-cause : goal.returns-in-Ok-new-clause-cause
returns-in-Ok-new-clause-cause g c =
    counts_on _ _ _ (c.in-Ok.ensures.cause.unchanged refl) (answer_counts _ _ _ _ (answer_still _ _ _ _ c.in-Ok-open.ensures.cause))

pub returns-in-Err-clause-found : goal.returns-in-Err-clause-found
returns-in-Err-clause-found g c = tt

pub returns-in-Err-open-clause-found : goal.returns-in-Err-open-clause-found
returns-in-Err-open-clause-found g c = tt

pub returns-in-Err-into_kept-clause-found : goal.returns-in-Err-into_kept-clause-found
returns-in-Err-into_kept-clause-found g c = tt

pub returns-in-Err-new-clause-found : goal.returns-in-Err-new-clause-found
returns-in-Err-new-clause-found g c = tt

pub returns-in-Ok-new-clause-found : goal.returns-in-Ok-new-clause-found
returns-in-Ok-new-clause-found g c = c.in-Ok-new.ensures.undamaged

pub returns-in-Err-clause-room : goal.returns-in-Err-clause-room
returns-in-Err-clause-room g c = tt

pub returns-in-Err-open-clause-room : goal.returns-in-Err-open-clause-room
returns-in-Err-open-clause-room g c = tt

pub returns-in-Err-into_kept-clause-room : goal.returns-in-Err-into_kept-clause-room
returns-in-Err-into_kept-clause-room g c = tt

pub returns-in-Err-new-clause-room : goal.returns-in-Err-new-clause-room
returns-in-Err-new-clause-room g c = tt

pub returns-in-Ok-new-clause-room : goal.returns-in-Ok-new-clause-room
returns-in-Ok-new-clause-room g c = c.in-Ok-new.ensures.most

pub returns-in-Err-clause-damage : goal.returns-in-Err-clause-damage
returns-in-Err-clause-damage g c = tt

pub returns-in-Err-new-clause-damage : goal.returns-in-Err-new-clause-damage
returns-in-Err-new-clause-damage g c = tt

pub returns-in-Ok-new-clause-damage : goal.returns-in-Ok-new-clause-damage
returns-in-Ok-new-clause-damage g c = tt

pub returns-in-Err-clause-named : goal.returns-in-Err-clause-named
returns-in-Err-clause-named g c = tt

pub returns-in-Err-open-clause-named : goal.returns-in-Err-open-clause-named
returns-in-Err-open-clause-named g c = tt

pub returns-in-Err-into_kept-clause-named : goal.returns-in-Err-into_kept-clause-named
returns-in-Err-into_kept-clause-named g c = tt

pub returns-in-Err-new-clause-named : goal.returns-in-Err-new-clause-named
returns-in-Err-new-clause-named g c = tt

pub returns-in-Err-open-clause-damage : goal.returns-in-Err-open-clause-damage
returns-in-Err-open-clause-damage g c =
    in_log_also _ _ _ _ c.in-Err-open.stop (λ at wrong. none_from _ _ at c.in-Ok.ensures.same wrong) c.in-Err-open.ensures.not_a_store

pub returns-in-Err-into_kept-clause-damage : goal.returns-in-Err-into_kept-clause-damage
returns-in-Err-into_kept-clause-damage g c =
    damage_named _ _ c.in-Err-into_kept.stop (λ damage unfit. record {
      area = unfit.0;
      at = unfit_from _ _ c.in-Ok-open.opened.spec c.open.new.visitor.stored c.in-Ok-open.opened.tree.entries c.in-Ok.ensures.same c.in-Ok-open.ensures.opened
          c.in-Ok-open.ensures.blocks damage.at unfit.1;
    }) c.in-Err-into_kept.ensures.stop

pub returns-in-Ok-new-clause-named : goal.returns-in-Ok-new-clause-named
returns-in-Ok-new-clause-named g c =
    subst (λ (es : List Entry). IfSome (g.D.Disk.reads_as c.args.disk.now) (λ now. NameItsBodies now.log es)) (ap (λ (k : KeptValue). k.entries) (sym c.in-Ok-into_kept.ensures.kept))
    (names_its_bodies _ _ c.in-Ok-open.opened.spec c.open.new.visitor.stored c.in-Ok-open.opened.tree.entries c.in-Ok.ensures.same c.in-Ok-open.ensures.opened c.in-Ok-open.ensures.blocks)
