use Rattle.std.proofs.Common.{rules}
use Rattle.uncle_rules.proofs.rule.is_beside.Goals as goal

pub returns-then-parts : goal.returns-then-parts
returns-then-parts c = search rules
