use Rattle.std.proofs.Common.{rules}
use Rattle.tx_rules.proofs.form.has_parts.Goals as goal

pub returns-then-outputs-gt0 : goal.returns-then-outputs-gt0
returns-then-outputs-gt0 c = search rules
