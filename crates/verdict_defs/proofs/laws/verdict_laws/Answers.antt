use Rattle.verdict_defs.proofs.VerdictLaws.{joins-exactly, keeps-what-joins, keeping-keeps, kept-stays, joins-on-its-branch}
use Rattle.verdict_defs.proofs.AnswerLaws.{answers-exactly}
use Rattle.verdict_defs.proofs.laws.verdict_laws.Goals as goal

pub returns-clause-joins_exactly : goal.returns-clause-joins_exactly
returns-clause-joins_exactly c = joins-exactly

pub returns-clause-keeps_what_joins : goal.returns-clause-keeps_what_joins
returns-clause-keeps_what_joins c = keeps-what-joins

pub returns-clause-keeping_keeps : goal.returns-clause-keeping_keeps
returns-clause-keeping_keeps c = keeping-keeps

pub returns-clause-kept_stays : goal.returns-clause-kept_stays
returns-clause-kept_stays c = kept-stays

pub returns-clause-joins_on_its_branch : goal.returns-clause-joins_on_its_branch
returns-clause-joins_on_its_branch c = joins-on-its-branch

pub returns-clause-answers_exactly : goal.returns-clause-answers_exactly
returns-clause-answers_exactly c = answers-exactly
