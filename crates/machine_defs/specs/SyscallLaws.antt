-- What the syscalls keep (docs/MACHINE.md, "Syscalls").
use Rattle.std.specs.Prelude.{◌≡◌}
use Rattle.machine_defs.specs.Step.{Machine}
use Rattle.machine_defs.specs.Program.{KeepsAccount}
use Rattle.machine_defs.specs.Alone.{answer_ecall}
use Rattle.machine_defs.specs.World.{Items, nothing}
use Rattle.machine_defs.specs.Answer.{syscall}

-- Law: where nothing is shown a syscall does what it does for a program that runs alone.
abbrev pub RunsAlone : Type 0
RunsAlone = (machine : Machine) → syscall nothing machine ≡ answer_ecall machine

-- Law: whatever surrounds a script, a syscall leaves the budget, takes no cycles back, and goes on within the budget alone. So the laws of a run
-- hold with it.
abbrev pub SyscallsKeepAccount : Type 0
SyscallsKeepAccount = (items : Items) → KeepsAccount (syscall items)
