use Rattle.std.proofs.Common.{rules}
use Rattle.run_question.proofs.questions.answer_of_trial.Goals as goal

pub returns-clause-status : goal.returns-clause-status
returns-clause-status c = search rules
