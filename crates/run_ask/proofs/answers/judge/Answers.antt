use Rattle.outside.proofs.Endings.{no_answer}
use Rattle.run_store.proofs.LookLemmas.{looks_well}
use Rattle.run_ask.proofs.answers.judge.Goals as goal

pub returns-in-Ok-clause-disk : goal.returns-in-Ok-clause-disk
returns-in-Ok-clause-disk g c = looks_well c.in-Ok.ensures.disk (no_answer _ _) (no_answer _ _)
