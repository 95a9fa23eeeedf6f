-- Memory that a machine lends.
use Rattle.std.specs.Borrow.{Lends, MutBor, Fml}
use Rattle.vm_mem.specs.Paged.{PagedMemory}
use Rattle.vm_mem.specs.contracts.memory.Memory.{the_row as memory_row}
use Rattle.vm_step.specs.Running.{RunningMachine}
use Rattle.vm_step.specs.contracts.machine.Machine.{the_row}

abbrev pub with_memory : RunningMachine → PagedMemory → RunningMachine
with_memory running memory =
    record running { machine = record running.machine { memory = memory.memory }; allocated = memory.allocated }

-- the machine ends with the memory that the reference leaves, and is else as it was
abbrev pub LendsMemory : MutBor RunningMachine → MutBor PagedMemory → Fml
LendsMemory machine lent = Lends the_row memory_row machine lent (with_memory machine.now)
