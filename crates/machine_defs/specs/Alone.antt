-- The syscalls of a program that runs alone, as `exec` runs it: those of RFC 0009 that ask for nothing outside of the
-- machine.
use Rattle.std.specs.Prelude.{ℕ, ◌%◌, ◌==◌, ℤ, Some, None, if◌then◌else◌}
use Rattle.std.specs.Int.{w8}
use Rattle.machine_defs.specs.Alu.{signed}
use Rattle.machine_defs.specs.declared.outcome.Outcome.TheVariants.{Exit, Fault}
use Rattle.machine_defs.specs.Step.{Machine, register}
use Rattle.machine_defs.specs.Program.{Answer}

-- the number of the syscall, in a7, and its first argument, in a0
abbrev pub syscall_number : Machine → ℕ
syscall_number machine = register machine 17

abbrev pub first_argument : Machine → ℕ
first_argument machine = register machine 10

-- the low byte of a register, signed
abbrev pub exit_code : ℕ → ℤ
exit_code n = signed w8 (n % 256)

-- 93 ends the program with the low byte of its argument, and 2177 (debug) changes nothing. Any other is fault 5.
abbrev pub answer_ecall : Answer
answer_ecall machine =
    if syscall_number machine == 93 then (Some (Exit (exit_code (first_argument machine))), machine)
    else if syscall_number machine == 2177 then (None, machine)
    else (Some (Fault 5), machine)
