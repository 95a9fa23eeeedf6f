use Rattle.std.proofs.Common.{rules}
use Rattle.header_rules.proofs.rules.is_later.Goals as goal

pub returns : goal.returns
returns c = search rules
