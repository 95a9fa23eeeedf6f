use Rattle.std.proofs.Common.{rules}
use Rattle.run_text.proofs.next.has_more.Goals as goal

pub returns-in-Ok-clause-more : goal.returns-in-Ok-clause-more
returns-in-Ok-clause-more g c = search rules
