use Rattle.std.proofs.Common.{refl}
use Rattle.script_run.proofs.running.executed.Goals as goal

pub returns-in-Spent-clause-exact : goal.returns-in-Spent-clause-exact
returns-in-Spent-clause-exact c = rw (c.in-Ended.is, c.in-Spent.is) refl
