use Rattle.std.proofs.Common.{ap, ◌∙◌}
use Rattle.std.specs.Prelude.{Err}
use Rattle.outside.proofs.Endings.{no_answer, handed}
use Rattle.verdict_defs.specs.declared.trial.Trial.{Trial}
use Rattle.report_defs.specs.Text.{trial_line}
use Rattle.report_defs.specs.Report.{status_of_trial}
use Rattle.run_text.proofs.Exits.{same_stop}
use Rattle.run_store.proofs.LookLemmas.{looks_as, looks_well, memory_is_no_fault}
use Rattle.run_store.proofs.DamageLemmas.{none_then, said_as}
use Rattle.run_question.proofs.questions.check.Goals as goal

-- ---- Damage that was found

pub returns-in-Err-clause-damage : goal.returns-in-Err-clause-damage
returns-in-Err-clause-damage g c = said_as c.in-Err.ensures.damage (handed _ _)

pub returns-in-Ok-answer_of_trial-clause-damage : goal.returns-in-Ok-answer_of_trial-clause-damage
returns-in-Ok-answer_of_trial-clause-damage g c = none_then c.in-Ok.ensures.damage (no_answer _ _)

pub returns-in-Err-answer_of_trial-clause-damage : goal.returns-in-Err-answer_of_trial-clause-damage
returns-in-Err-answer_of_trial-clause-damage g c = none_then c.in-Ok.ensures.damage (no_answer _ _)

-- ---- The other clauses

pub returns-in-Ok-answer_of_trial-clause-disk : goal.returns-in-Ok-answer_of_trial-clause-disk
returns-in-Ok-answer_of_trial-clause-disk g c = looks_well c.in-Ok.ensures.disk (no_answer _ _) (no_answer _ _)

pub returns-in-Ok-answer_of_trial-clause-answer : goal.returns-in-Ok-answer_of_trial-clause-answer
returns-in-Ok-answer_of_trial-clause-answer g c = λ sound. record {
  text_is = c.in-Ok-answer_of_trial.ensures.text ∙ ap (λ (t : Trial). trial_line t) (c.in-Ok.ensures.trial sound);
  status_is = c.in-Ok-answer_of_trial.ensures.status ∙ ap (λ (t : Trial). status_of_trial t) (c.in-Ok.ensures.trial sound);
}

pub returns-in-Err-answer_of_trial-clause-disk : goal.returns-in-Err-answer_of_trial-clause-disk
returns-in-Err-answer_of_trial-clause-disk g c = looks_well c.in-Ok.ensures.disk (no_answer _ _) memory_is_no_fault

pub returns-in-Err-clause-disk : goal.returns-in-Err-clause-disk
returns-in-Err-clause-disk g c = looks_as c.in-Err.ensures.disk (handed _ _) (handed _ _)

pub returns-in-Err-clause-stop : goal.returns-in-Err-clause-stop
returns-in-Err-clause-stop g c = λ status is. c.in-Err.ensures.stop status (ap Err (same_stop _ _ is))

pub returns-in-Err-clause-sound : goal.returns-in-Err-clause-sound
returns-in-Err-clause-sound g c = λ sound is. c.in-Err.ensures.sound sound (ap Err (same_stop _ _ is))
