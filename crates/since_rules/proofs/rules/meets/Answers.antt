use Rattle.std.proofs.Common.{rules}
use Rattle.since_rules.proofs.rules.meets.Goals as goal

pub returns-then-is_met-clause-met : goal.returns-then-is_met-clause-met
returns-then-is_met-clause-met c = search rules

pub returns-else-is_met-clause-refused : goal.returns-else-is_met-clause-refused
returns-else-is_met-clause-refused c = search rules
