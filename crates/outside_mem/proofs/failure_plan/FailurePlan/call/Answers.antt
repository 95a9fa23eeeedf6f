use Rattle.std.proofs.Common.{rules}
use Rattle.outside_mem.proofs.failure_plan.FailurePlan.call.Goals as goal

pub returns-then-fails-clause-listed : goal.returns-then-fails-clause-listed
returns-then-fails-clause-listed c = search rules

pub returns-then-fails-clause-counted : goal.returns-then-fails-clause-counted
returns-then-fails-clause-counted c = search rules

pub returns-clause-listed : goal.returns-clause-listed
returns-clause-listed c = search rules

pub returns-clause-counted : goal.returns-clause-counted
returns-clause-counted c = search rules
