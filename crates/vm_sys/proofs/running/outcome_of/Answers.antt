use Rattle.std.proofs.Common.{refl}
use Rattle.vm_sys.proofs.running.outcome_of.Goals as goal

pub returns-in-Spent : goal.returns-in-Spent
returns-in-Spent c = rw c.in-Spent.is refl
