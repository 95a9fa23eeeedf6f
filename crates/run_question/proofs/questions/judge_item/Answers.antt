use Rattle.std.proofs.Common.{ap, sym, ◌∙◌}
use Rattle.std.specs.Prelude.{Some, None, Err}
use Rattle.outside.proofs.Endings.{no_answer}
use Rattle.block_judge.specs.Stops.{stop_in}
use Rattle.block_judge.specs.declared.stop.JudgeStop.TheVariants.{Read}
use Rattle.verdict_defs.specs.declared.trial.Trial.TheVariants.{Refused}
use Rattle.run_text.proofs.Exits.{same_stop}
use Rattle.run_store.proofs.KeepLemmas.{keeps_all, keeps_left}
use Rattle.run_store.proofs.LookLemmas.{looks_not, looks_found, looks_judged, looks_stopped_judging}
use Rattle.run_question.proofs.QuestionLemmas.{trial_of_bytes}
use Rattle.run_store.proofs.DamageLemmas.{none_met, none_found, none_judged, judged_said}
use Rattle.run_question.proofs.questions.judge_item.Goals as goal

-- ---- Damage that was found

pub returns-in_default-clause-damage : goal.returns-in_default-clause-damage
returns-in_default-clause-damage g c = none_met c.args.node.now

pub returns-in-Ok-clause-damage : goal.returns-in-Ok-clause-damage
returns-in-Ok-clause-damage g c = none_found c.in-Ok.ensures.left

pub returns-in-Err-Broken-clause-damage : goal.returns-in-Err-Broken-clause-damage
returns-in-Err-Broken-clause-damage g c = none_judged c.in-Err-Broken.ensures.left (ap stop_in c.in-Err-Broken.field-0-is)

pub returns-in-Err-Read-clause-damage : goal.returns-in-Err-Read-clause-damage
returns-in-Err-Read-clause-damage g c =
    judged_said c.in-Err-Read.stop c.status_of_reading.result c.in-Err-Read.ensures.left (ap stop_in c.in-Err-Read.field-0-is) c.status_of_reading.ensures.damaged

-- ---- No transaction

pub returns-in_default-clause-disk : goal.returns-in_default-clause-disk
returns-in_default-clause-disk g c = looks_not c.args.disk.now (no_answer _ _)

pub returns-in_default-clause-trial : goal.returns-in_default-clause-trial
returns-in_default-clause-trial g c = λ sound. trial_of_bytes c.args.node.now.chain c.args.item.now None (sym c.in_default.is ∙ c.read.ensures.value)

-- ---- It passes

pub returns-in-Ok-clause-disk : goal.returns-in-Ok-clause-disk
returns-in-Ok-clause-disk g c = looks_found c.in-Ok.ensures.left (no_answer _ _)

pub returns-in-Ok-clause-trial : goal.returns-in-Ok-clause-trial
returns-in-Ok-clause-trial g c = λ sound.
    sym (c.in-Ok.ensures.passes sound) ∙ trial_of_bytes c.args.node.now.chain c.args.item.now (Some c.in-Some.tx) (sym c.in-Some.is ∙ c.read.ensures.value)

-- ---- It is refused

pub returns-in-Err-Broken-clause-disk : goal.returns-in-Err-Broken-clause-disk
returns-in-Err-Broken-clause-disk g c = looks_judged c.in-Err-Broken.ensures.left (ap stop_in c.in-Err-Broken.field-0-is) (no_answer _ _)

pub returns-in-Err-Broken-clause-trial : goal.returns-in-Err-Broken-clause-trial
returns-in-Err-Broken-clause-trial g c = λ sound.
    ap Refused c.number.ensures ∙ sym (c.in-Err-Broken.ensures.broken sound c.in-Err-Broken.rule (ap Err c.in-Err-Broken.field-0-is))
    ∙ trial_of_bytes c.args.node.now.chain c.args.item.now (Some c.in-Some.tx) (sym c.in-Some.is ∙ c.read.ensures.value)

-- ---- It was not judged

pub returns-in-Err-Read-clause-disk : goal.returns-in-Err-Read-clause-disk
returns-in-Err-Read-clause-disk g c =
    looks_stopped_judging c.in-Err-Read.stop c.status_of_reading.result c.in-Err-Read.ensures.left (ap stop_in c.in-Err-Read.field-0-is)
    c.status_of_reading.ensures.fault

pub returns-in-Err-Read-clause-sound : goal.returns-in-Err-Read-clause-sound
returns-in-Err-Read-clause-sound g c = λ sound is.
    let none = c.status_of_reading.ensures.none (same_stop _ _ is) in
    c.in-Err-Read.ensures.undamaged sound none.0 (ap Err (c.in-Err-Read.field-0-is ∙ ap Read none.1))

pub returns-in_default-clause-node : goal.returns-in_default-clause-node
returns-in_default-clause-node g c = keeps_all c.args.node.now (g.D.Disk.reads_as c.args.disk.now) (g.D.Disk.images c.args.disk.now) c.requires.own

pub returns-in-Ok-clause-node : goal.returns-in-Ok-clause-node
returns-in-Ok-clause-node g c = keeps_left c.in-Ok.ensures.left

pub returns-in-Err-Broken-clause-node : goal.returns-in-Err-Broken-clause-node
returns-in-Err-Broken-clause-node g c = keeps_left c.in-Err-Broken.ensures.left

pub returns-in-Err-Read-clause-node : goal.returns-in-Err-Read-clause-node
returns-in-Err-Read-clause-node g c = keeps_left c.in-Err-Read.ensures.left
