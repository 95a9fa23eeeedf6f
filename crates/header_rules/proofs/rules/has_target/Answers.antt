use Rattle.std.proofs.Common.{rules}
use Rattle.header_rules.proofs.rules.has_target.Goals as goal

pub returns : goal.returns
returns c = search rules
