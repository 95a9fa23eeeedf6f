use Rattle.std.proofs.Common.{rules}
use Rattle.uncle_rules.proofs.rule.is_new.Goals as goal

pub returns : goal.returns
returns c = search rules
