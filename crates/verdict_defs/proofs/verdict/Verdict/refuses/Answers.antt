use Rattle.std.proofs.Common.{rules}
use Rattle.verdict_defs.proofs.verdict.Verdict.refuses.Goals as goal

pub returns-in-Full : goal.returns-in-Full
returns-in-Full c = search rules
