use Rattle.std.proofs.Common.{ap, subst}
use Rattle.std.specs.Prelude.{Err, IfSome}
use Rattle.outside.specs.declared.disk.Area.TheVariants.{Log}
use Rattle.node_store.proofs.KeepingLemmas.{known_as_before}
use Rattle.outside.proofs.Endings.{no_fault, counts-as, no_answer}
use Rattle.log_file.specs.Stops.{IfDamage}
use Rattle.store_defs.specs.Store.{IsSound}
use Rattle.report_defs.specs.Status.{IsOneOf}
use Rattle.run_text.specs.Store.{opening_stops}
use Rattle.run_text.proofs.Exits.{same_stop}
use Rattle.run_store.proofs.store.open.Goals as goal

pub returns-in-Ok-clause-one_of : goal.returns-in-Ok-clause-one_of
returns-in-Ok-clause-one_of g c = λ status e. absurd (no_answer _ _ e)

pub returns-in-Ok-clause-not_a_store : goal.returns-in-Ok-clause-not_a_store
returns-in-Ok-clause-not_a_store g c = λ e. absurd (no_answer _ _ e)

pub returns-in-Ok-clause-cause : goal.returns-in-Ok-clause-cause
returns-in-Ok-clause-cause g c = no_fault _ _ (c.in-Ok.ensures.cause.unchanged (no_answer _ _)) (no_answer _ _)

pub returns-in-Err-clause-one_of : goal.returns-in-Err-clause-one_of
returns-in-Err-clause-one_of g c = λ status e. subst (λ s. IsOneOf opening_stops s) (same_stop _ _ e) c.status_of_opening.ensures.one_of

pub returns-in-Err-clause-kept : goal.returns-in-Err-clause-kept
returns-in-Err-clause-kept g c = tt

pub returns-in-Err-clause-on : goal.returns-in-Err-clause-on
returns-in-Err-clause-on g c = λ _. tt

pub returns-in-Err-clause-cause : goal.returns-in-Err-clause-cause
returns-in-Err-clause-cause g c =
    counts-as c.in-Err.ensures.cause
    (λ e. ap Err (c.status_of_opening.ensures.fault.0 (same_stop _ _ e))) (λ e. ap Err (c.status_of_opening.ensures.fault.1 (same_stop _ _ e)))

pub returns-in-Ok-clause-left : goal.returns-in-Ok-clause-left
returns-in-Ok-clause-left g c = c.in-Ok.ensures.left

pub returns-in-Err-clause-left : goal.returns-in-Err-clause-left
returns-in-Err-clause-left g c = c.in-Err.ensures.left

pub returns-in-Ok-clause-most : goal.returns-in-Ok-clause-most
returns-in-Ok-clause-most g c = c.in-Ok.ensures.most

pub returns-in-Err-clause-most : goal.returns-in-Err-clause-most
returns-in-Err-clause-most g c = c.in-Err.ensures.most

pub returns-in-Ok-clause-own : goal.returns-in-Ok-clause-own
returns-in-Ok-clause-own g c = c.in-Ok.ensures.opened.own

pub returns-in-Err-clause-own : goal.returns-in-Err-clause-own
returns-in-Err-clause-own g c = tt

pub returns-in-Ok-clause-sound : goal.returns-in-Ok-clause-sound
returns-in-Ok-clause-sound g c = c.in-Ok.ensures.opened.sound

pub returns-in-Err-clause-sound : goal.returns-in-Err-clause-sound
returns-in-Err-clause-sound g c = λ _ _ _. tt

pub returns-in-Ok-clause-told : goal.returns-in-Ok-clause-told
returns-in-Ok-clause-told g c = known_as_before Log _ _ c.in-Ok.ensures.left.others

pub returns-in-Err-clause-told : goal.returns-in-Err-clause-told
returns-in-Err-clause-told g c = known_as_before Log _ _ c.in-Err.ensures.left.others

pub returns-in-Ok-clause-settled : goal.returns-in-Ok-clause-settled
returns-in-Ok-clause-settled g c = c.in-Ok.ensures.opened.settled

pub returns-in-Err-clause-settled : goal.returns-in-Err-clause-settled
returns-in-Err-clause-settled g c = tt

pub returns-in-Err-clause-not_a_store : goal.returns-in-Err-clause-not_a_store
returns-in-Err-clause-not_a_store g c = λ e.
    let found = c.status_of_opening.ensures.none.0 (same_stop _ _ e) in
    subst (IfDamage (λ _. IfSome (g.D.Disk.reads_as c.args.disk.now) (λ now. IsSound now → ⊥))) found.1 c.in-Err.ensures.not_a_store

pub returns-in-Ok-clause-kept : goal.returns-in-Ok-clause-kept
returns-in-Ok-clause-kept g c = c.in-Ok.ensures.opened.kept

pub returns-in-Ok-clause-on : goal.returns-in-Ok-clause-on
returns-in-Ok-clause-on g c = c.in-Ok.ensures.opened.on
