use Rattle.std.proofs.Common.{rules}
use Rattle.since_rules.proofs.rules.is_passed.Goals as goal

pub returns-in-Epoch : goal.returns-in-Epoch
returns-in-Epoch c = search rules

pub returns-in-Timestamp : goal.returns-in-Timestamp
returns-in-Timestamp c = search rules
