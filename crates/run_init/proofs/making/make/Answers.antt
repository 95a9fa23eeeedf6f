use Rattle.std.proofs.Common.{inl, inr, [], ◌∷◌, refl, ap, sym, subst}
use Rattle.std.specs.Prelude.{Err}
use Rattle.outside.proofs.Endings.{no_fault, counts-as, no_answer}
use Rattle.report_defs.specs.declared.status.Status.TheVariants.{DiskFault, NoMemory}
use Rattle.report_defs.specs.Status.{IsOneOf}
use Rattle.run_text.proofs.Exits.{same_stop}
use Rattle.run_text.proofs.Faults.{IsMemory}
use Rattle.run_init.proofs.InitLemmas.{alone_of}
use Rattle.run_init.proofs.making.make.Goals as goal

pub returns-in-Err-clause-stop : goal.returns-in-Err-clause-stop
returns-in-Err-clause-stop g c = λ status e. inr (inl (c.refusal.ensures.memory status e))

pub returns-in-Err-clause-cause : goal.returns-in-Err-clause-cause
returns-in-Err-clause-cause g c = no_fault _ _ refl (λ e. subst IsMemory (sym (c.refusal.ensures.memory DiskFault e)) tt)

pub returns-in-Err-genesis_line-clause-text : goal.returns-in-Err-genesis_line-clause-text
returns-in-Err-genesis_line-clause-text g c = tt

pub returns-in-Err-genesis_line-clause-status : goal.returns-in-Err-genesis_line-clause-status
returns-in-Err-genesis_line-clause-status g c = tt

pub returns-in-Err-genesis_line-clause-one_of : goal.returns-in-Err-genesis_line-clause-one_of
returns-in-Err-genesis_line-clause-one_of g c = tt

pub returns-in-Err-genesis_line-clause-unmade : goal.returns-in-Err-genesis_line-clause-unmade
returns-in-Err-genesis_line-clause-unmade g c = tt

pub returns-in-Err-genesis_line-clause-made : goal.returns-in-Err-genesis_line-clause-made
returns-in-Err-genesis_line-clause-made g c = λ _. tt

pub returns-in-Err-create-clause-text : goal.returns-in-Err-create-clause-text
returns-in-Err-create-clause-text g c = tt

pub returns-in-Err-create-clause-status : goal.returns-in-Err-create-clause-status
returns-in-Err-create-clause-status g c = tt

pub returns-in-Err-create-clause-one_of : goal.returns-in-Err-create-clause-one_of
returns-in-Err-create-clause-one_of g c = tt

pub returns-in-Err-create-clause-unmade : goal.returns-in-Err-create-clause-unmade
returns-in-Err-create-clause-unmade g c = tt

pub returns-in-Err-create-clause-made : goal.returns-in-Err-create-clause-made
returns-in-Err-create-clause-made g c = λ _. tt

pub returns-in-Err-genesis_line-clause-stop : goal.returns-in-Err-genesis_line-clause-stop
returns-in-Err-genesis_line-clause-stop g c = λ status e. inr (inl (sym (same_stop _ _ e)))

pub returns-in-Err-genesis_line-clause-cause : goal.returns-in-Err-genesis_line-clause-cause
returns-in-Err-genesis_line-clause-cause g c = no_fault _ _ refl (λ e. subst IsMemory (same_stop _ _ e) tt)

pub returns-in-Err-create-clause-stop : goal.returns-in-Err-create-clause-stop
returns-in-Err-create-clause-stop g c = λ status e.
    subst (λ s. IsOneOf (DiskFault ∷ NoMemory ∷ []) s) (same_stop _ _ e) c.status_of_writing.ensures.one_of

pub returns-in-Err-create-clause-cause : goal.returns-in-Err-create-clause-cause
returns-in-Err-create-clause-cause g c =
    counts-as c.in-Err-create.ensures.cause
    (λ e. ap Err (c.status_of_writing.ensures.fault.0 (same_stop _ _ e))) (λ e. ap Err (c.status_of_writing.ensures.fault.1 (same_stop _ _ e)))

pub returns-in-Ok-create-clause-one_of : goal.returns-in-Ok-create-clause-one_of
returns-in-Ok-create-clause-one_of g c = inl refl

pub returns-in-Ok-create-clause-stop : goal.returns-in-Ok-create-clause-stop
returns-in-Ok-create-clause-stop g c = λ status e. absurd (no_answer _ _ e)

pub returns-in-Ok-create-clause-cause : goal.returns-in-Ok-create-clause-cause
returns-in-Ok-create-clause-cause g c = no_fault _ _ (c.in-Ok-create.ensures.cause.unchanged (no_answer _ _)) (no_answer _ _)

pub returns-in-Ok-create-clause-made : goal.returns-in-Ok-create-clause-made
returns-in-Ok-create-clause-made g c = λ some done.
    alone_of c.args.specification.now c.args.genesis.now _ _ _ _ c.in-Ok.ensures.both (c.in-Ok-create.ensures.made some)

pub returns-in-Err-clause-told : goal.returns-in-Err-clause-told
returns-in-Err-clause-told g c = refl

pub returns-in-Err-genesis_line-clause-told : goal.returns-in-Err-genesis_line-clause-told
returns-in-Err-genesis_line-clause-told g c = refl

pub returns-in-Err-create-clause-told : goal.returns-in-Err-create-clause-told
returns-in-Err-create-clause-told g c = c.in-Err-create.ensures.told

pub returns-in-Ok-create-clause-told : goal.returns-in-Ok-create-clause-told
returns-in-Ok-create-clause-told g c = c.in-Ok-create.ensures.told
