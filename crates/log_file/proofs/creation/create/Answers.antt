use Rattle.std.proofs.Common.{◌+◌, ◌-◌, length, refl, ap, ◌∙◌, arith}
use Rattle.std.specs.Option.{option_map}
use Rattle.outside.specs.declared.disk.Area.TheVariants.{Log}
use Rattle.outside.specs.Image.{with_content}
use Rattle.outside.proofs.Moments.{started, leaves_also}
use Rattle.log_file.proofs.Creating.{memory_is_no_fault, fault_is_no_memory, others_same, up_to_there, no_longer, new_length, settles_new}
use Rattle.log_file.proofs.Exits.{no_error, fault_counts, no_fault_counts, answer_counts}
use Rattle.log_file.proofs.creation.create.Goals as goal

pub returns-in-Err-clause-made : goal.returns-in-Err-clause-made
returns-in-Err-clause-made g c = tt

pub returns-in-Err-clause-others : goal.returns-in-Err-clause-others
returns-in-Err-clause-others g c = others_same Log (g.D.Disk.reads_as c.args.disk.now)

pub returns-in-Err-clause-settled : goal.returns-in-Err-clause-settled
returns-in-Err-clause-settled g c = λ _. tt

pub returns-in-Err-clause-place : goal.returns-in-Err-clause-place
returns-in-Err-clause-place g c = tt

pub returns-in-Err-clause-unchanged : goal.returns-in-Err-clause-unchanged
returns-in-Err-clause-unchanged g c = λ _. refl

pub returns-in-Err-clause-cause : goal.returns-in-Err-clause-cause
returns-in-Err-clause-cause g c = no_fault_counts _ memory_is_no_fault

pub returns-in-Err-clause-moments : goal.returns-in-Err-clause-moments
returns-in-Err-clause-moments g c = started g.D.Disk.moment g.D.Disk.left_since _ _ (λ image left.
    no_longer _ _ _ image refl (up_to_there _ (g.D.Disk.images c.args.disk.now) image (g.met.D.Disk.only_now c.args.disk.now image left)))

pub returns-clause-made : goal.returns-clause-made
returns-clause-made g c = tt

pub returns-clause-settled : goal.returns-clause-settled
returns-clause-settled g c = λ _. tt

pub returns-clause-place : goal.returns-clause-place
returns-clause-place g c = tt

pub returns-clause-others : goal.returns-clause-others
returns-clause-others g c = c.replace_log.ensures.others

pub returns-clause-unchanged : goal.returns-clause-unchanged
returns-clause-unchanged g c = λ e. absurd (fault_is_no_memory e)

pub returns-clause-cause : goal.returns-clause-cause
returns-clause-cause g c = fault_counts _ _ _ _ c.in-Err-replace_log.ensures.cause

pub returns-clause-moments : goal.returns-clause-moments
returns-clause-moments g c = leaves_also g.D.Disk.moment g.D.Disk.left_since _ _ _ _ c.replace_log.ensures.moments (λ image.
    no_longer (20 + length c.args.spec.now + length c.args.genesis.now) _ _ image (ap length (c.deref.ensures.value ∙ c.in-Ok.ensures) ∙ new_length c.args.spec.now c.args.genesis.now))

pub returns-in-Ok-replace_log-clause-made : goal.returns-in-Ok-replace_log-clause-made
returns-in-Ok-replace_log-clause-made g c =
    c.in-Ok-replace_log.ensures.written ∙ ap (λ bytes. option_map (with_content Log bytes) (g.D.Disk.reads_as c.args.disk.now)) (c.deref.ensures.value ∙ c.in-Ok.ensures)

pub returns-in-Ok-replace_log-clause-settled : goal.returns-in-Ok-replace_log-clause-settled
returns-in-Ok-replace_log-clause-settled g c = λ some.
    settles_new (c.len.result - 1) c.args.spec.now c.args.genesis.now c.deref.result.now _ _ _ some c.requires.spec c.requires.genesis (c.deref.ensures.value ∙ c.in-Ok.ensures)
    (omega (arith, c.len.ensures, ap length c.deref.ensures.value)) c.in-Ok-replace_log.ensures.written
    c.in-Ok-replace_log.ensures.durable

pub returns-in-Ok-replace_log-clause-unchanged : goal.returns-in-Ok-replace_log-clause-unchanged
returns-in-Ok-replace_log-clause-unchanged g c = λ e. absurd (no_error _ _ e)

pub returns-in-Ok-replace_log-clause-cause : goal.returns-in-Ok-replace_log-clause-cause
returns-in-Ok-replace_log-clause-cause g c = answer_counts _ _ _ _ (c.in-Ok-replace_log.ensures.cause.unchanged refl)

pub returns-in-Ok-replace_log-clause-others : goal.returns-in-Ok-replace_log-clause-others
returns-in-Ok-replace_log-clause-others g c = c.replace_log.ensures.others

pub returns-in-Ok-replace_log-clause-moments : goal.returns-in-Ok-replace_log-clause-moments
returns-in-Ok-replace_log-clause-moments g c = leaves_also g.D.Disk.moment g.D.Disk.left_since _ _ _ _ c.replace_log.ensures.moments (λ image.
    no_longer (20 + length c.args.spec.now + length c.args.genesis.now) _ _ image (ap length (c.deref.ensures.value ∙ c.in-Ok.ensures) ∙ new_length c.args.spec.now c.args.genesis.now))
