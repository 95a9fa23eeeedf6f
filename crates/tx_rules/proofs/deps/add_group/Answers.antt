use Rattle.std.proofs.Common.{rules}
use Rattle.tx_rules.proofs.deps.add_group.Goals as goal

pub returns : goal.returns
returns g c = search rules
