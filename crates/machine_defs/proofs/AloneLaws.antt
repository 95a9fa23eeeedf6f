-- Where nothing is shown a syscall is one of a program that runs alone: by cases on its number, which is that of a row or of none.
use Rattle.std.proofs.Common.{◌≡◌, ℕ, ◌==◌, Bool, true, false, Some, None, refl, subst, arith, eqb-true}
use Rattle.std.specs.Prelude.{if◌then◌else◌}
use Rattle.std.proofs.lemmas.Bool.Decides.{nat_tests}
use Rattle.machine_defs.specs.declared.outcome.Outcome.TheVariants.{Exit, Fault}
use Rattle.machine_defs.specs.Step.{Machine}
use Rattle.machine_defs.specs.Alone.{exit_code, first_argument, syscall_number}
use Rattle.machine_defs.specs.SyscallTable.{syscalls, action_of}
use Rattle.machine_defs.specs.World.{nothing}
use Rattle.machine_defs.specs.Answer.{Answered, does_any, syscall}
use Rattle.machine_defs.specs.SyscallLaws.{RunsAlone}

-- a number is another, or neither test finds them equal
is_or : (P : ℕ → Type 0) (row number : ℕ) → P row → ((row == number) ≡ false → (number == row) ≡ false → P number) → P number
is_or P row number found other = by_test (row == number) refl
  where
    by_test : (b : Bool) → (row == number) ≡ b → P number
    by_test true is = subst P (eqb-true row number is) found
    by_test false is = other is (grind (arith, nat_tests))

-- what a program that runs alone is answered for a number
abbrev alone : Machine → ℕ → Answered
alone machine number =
    if number == 93 then (Some (Exit (exit_code (first_argument machine))), machine)
    else if number == 2177 then (None, machine)
    else (Some (Fault 5), machine)

abbrev IsAlone : Machine → ℕ → Type 0
IsAlone machine number = does_any nothing machine (action_of number) ≡ alone machine number

number-alone : (machine : Machine) (number : ℕ) → IsAlone machine number
unfolding action_of syscalls
number-alone machine number =
    is_or P 93 number refl (λ r0 exits.
    is_or P 2051 number refl (λ r1 o1.
    is_or P 2052 number refl (λ r2 o2.
    is_or P 2061 number refl (λ r3 o3.
    is_or P 2062 number refl (λ r4 o4.
    is_or P 2071 number refl (λ r5 o5.
    is_or P 2072 number refl (λ r6 o6.
    is_or P 2073 number refl (λ r7 o7.
    is_or P 2074 number refl (λ r8 o8.
    is_or P 2081 number refl (λ r9 o9.
    is_or P 2082 number refl (λ r10 o10.
    is_or P 2083 number refl (λ r11 o11.
    is_or P 2091 number refl (λ r12 o12.
    is_or P 2092 number refl (λ r13 o13.
    is_or P 2177 number refl (λ r14 debugs.
    rw (r0, r1, r2, r3, r4, r5, r6, r7, r8, r9, r10, r11, r12, r13, r14, exits, debugs) refl)))))))))))))))
  where
    P : ℕ → Type 0
    P = IsAlone machine

pub runs-alone : RunsAlone
unfolding syscall
runs-alone machine = number-alone machine (syscall_number machine)
