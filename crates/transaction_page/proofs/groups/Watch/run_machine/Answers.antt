use Rattle.std.proofs.Common.{rules}
use Rattle.transaction_page.proofs.TraceLemmas.{read-cause, read-finds}
use Rattle.transaction_page.proofs.groups.Watch.run_machine.Goals as goal

pub returns-in-Err-Read-clause-cause : goal.returns-in-Err-Read-clause-cause
returns-in-Err-Read-clause-cause g c = read-cause _ _ c.in-Err-Read.stop c.trace-came.result (search rules) c.trace-came.ensures.cause

pub returns-in-Err-Read-clause-answered : goal.returns-in-Err-Read-clause-answered
returns-in-Err-Read-clause-answered g c = read-finds _ _ c.in-Err-Read.stop c.trace-came.result (search rules) c.trace-came.ensures.answered
