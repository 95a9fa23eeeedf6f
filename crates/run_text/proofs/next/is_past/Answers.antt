use Rattle.std.proofs.Common.{rules}
use Rattle.run_text.proofs.next.is_past.Goals as goal

pub returns-in-Some : goal.returns-in-Some
returns-in-Some c = search rules
