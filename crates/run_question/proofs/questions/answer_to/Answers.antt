use Rattle.std.proofs.Common.{map, drop, sym, subst, string_bytes}
use Rattle.std.specs.Prelude.{IfOk}
use Rattle.report_defs.specs.declared.command.Question.{Question}
use Rattle.run_question.specs.Question.{IsAnswerTo}
use Rattle.run_question.proofs.AssemblyLemmas.{first-and-rest}
use Rattle.run_question.proofs.QuestionLemmas.{first_decides}
use Rattle.run_question.proofs.questions.answer_to.Goals as goal

pub returns-in-Check-clause-answer : goal.returns-in-Check-clause-answer
returns-in-Check-clause-answer g c = λ sound.
    subst (λ (q : Question). IfOk c.check.result
    (λ answer. IsAnswerTo q c.args.node.now.chain (map (λ item. item.items) c.args.items.now) (string_bytes answer.text) answer.status)) (sym c.in-Check.is)
    (first_decides c.args.node.now.chain c.deref.result.now (map (λ item. item.items) (drop 1 c.args.items.now)) (map (λ item. item.items) c.args.items.now) c.check.result
    (first-and-rest c.args.items.now c.index-items-0.result c.deref.result.now c.requires.some c.index-items-0.is c.deref.ensures.value) (c.check.ensures.answer sound))
