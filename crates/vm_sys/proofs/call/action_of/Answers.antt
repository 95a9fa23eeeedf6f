use Rattle.std.proofs.Common.{refl}
use Rattle.machine_defs.specs.SyscallTable.{action_of, syscalls}
use Rattle.vm_sys.proofs.call.action_of.Goals as goal

pub returns-in-2072 : goal.returns-in-2072
unfolding action_of syscalls
returns-in-2072 c = rw c.in-2072.is refl
