-- A program from its first step to its end (RFC 0003; RFC 0014 for the cycles). What an ECALL does is a parameter of a
-- run, its answer: a program runs alone (specs/Alone.antt), or with the syscalls that a chain offers to it.
use Rattle.std.specs.Prelude.{◌≡◌, ◌≢◌, ℕ, zero, suc, ◌<◌, ◌≤◌, ◌+◌, ◌-◌, ◌/◌, List, replicate, slice_set, Option, Some, None, Result, Ok, Err, if◌then◌else◌}
use Rattle.machine_defs.specs.declared.step.Step.{Step}
use Rattle.machine_defs.specs.declared.step.Step.TheVariants as step
use Rattle.machine_defs.specs.declared.outcome.Outcome.{Outcome}
use Rattle.machine_defs.specs.declared.outcome.Outcome.TheVariants.{Fault, Spent}
use Rattle.machine_defs.specs.Memory.{Memory}
use Rattle.machine_defs.specs.Step.{Machine, step_of, charged, is_spent}
use Rattle.machine_defs.specs.Elf as elf

-- ---- the start: all registers are 0 but the stack pointer, 16 bytes below the end of memory

abbrev pub initial_stack_pointer : ℕ
initial_stack_pointer = 0x3ffff0

unfoldable pub initial_registers : List ℕ
initial_registers = slice_set (replicate 32 0) 2 initial_stack_pointer

unfoldable pub new_machine : Memory → ℕ → ℕ → Machine
new_machine memory pc budget =
    record { pc = pc; registers = initial_registers; memory = memory; cycles = 0; budget = budget }

-- what bytes cost that are loaded: a cycle for four of them, rounded up
abbrev pub loading_cycles : ℕ → ℕ
loading_cycles count = (count + 3) / 4

-- ---- the first step whose answer is not Went

-- Steps follow a step that went.
abbrev pub followed : (Machine → Step × Machine) → Step → Machine → Step × Machine
followed continue step.Went machine = continue machine
followed continue answer machine = (answer, machine)

-- at most so many steps (Where each of them goes, the value is not used: `stop_of` has steps enough.)
unfoldable pub stop_within : ℕ → Machine → Step × Machine
stop_within zero machine = (step.Spent, machine)
stop_within (suc steps) machine = let next = step_of machine in followed (stop_within steps) next.0 next.1

-- Each step that goes costs a cycle at least, so there are at most as many of those as the budget has cycles left, and
-- one that does not (proofs/ProgramLaws).
abbrev pub stop_of : Machine → Step × Machine
stop_of machine = stop_within (suc (machine.budget - machine.cycles)) machine

-- So many steps, each of which went, lead from one machine to another.
abbrev pub Leads : ℕ → Machine → Machine → Type 0
Leads zero from to = to ≡ from
Leads (suc steps) from to = (last : Machine) × Leads steps from last × ((step.Went, to) ≡ step_of last)

-- ---- a run

-- What an ECALL does: how it ends the program, if it does, and the machine after it.
abbrev pub Answer : Type 0
Answer = Machine → Option Outcome × Machine

-- the same of a step, whose ECALL is answered
abbrev pub answered : Answer → Step → Machine → Option Outcome × Machine
answered answer step.Went machine = (None, machine)
answered answer step.Ecall machine = answer machine
answered answer (step.Fault number) machine = (Some (Fault number), machine)
answered answer step.Spent machine = (Some Spent, machine)
-- no step by the definitions ends so (`StepHasMemory`)
answered answer step.NoMemory machine = (Some Spent, machine)

abbrev pub advance : Answer → Machine → Option Outcome × Machine
advance answer machine = let next = step_of machine in answered answer next.0 next.1

-- So many steps, with their answers, lead a program from one machine to another.
abbrev pub Reaches : Answer → ℕ → Machine → Machine → Type 0
Reaches answer zero from to = to ≡ from
Reaches answer (suc steps) from to = (last : Machine) × Reaches answer steps from last × ((None, to) ≡ advance answer last)

-- how a program ended, and after how many cycles
abbrev pub Ended : Type 0
Ended = Outcome × ℕ

-- The program has ended, or goes on.
abbrev pub ended_or : (Machine → Ended) → Option Outcome → Machine → Ended
ended_or continue (Some outcome) machine = (outcome, machine.cycles)
ended_or continue None machine = continue machine

-- The machine goes step by step, at most so many, until one ends the program. (Where none of them does, the value is
-- not used: `run` has steps enough.)
unfoldable pub run_for : Answer → ℕ → Machine → Ended
run_for answer zero machine = (Spent, machine.cycles)
run_for answer (suc steps) machine = let next = advance answer machine in ended_or (run_for answer steps) next.0 next.1

-- There are steps enough, as for `stop_of`.
abbrev pub run : Answer → Machine → Ended
run answer machine = run_for answer (suc (machine.budget - machine.cycles)) machine

-- ---- what a run keeps

-- An answer keeps the account: it leaves the budget, takes no cycles back, and goes on within the budget alone.
pub record KeepsAccount (answer : Answer) : Type 0 where
  pub budget : (machine : Machine) → (answer machine).1.budget ≡ machine.budget
  pub cycles : (machine : Machine) → machine.cycles ≤ (answer machine).1.cycles
  pub within : (machine : Machine) → machine.cycles ≤ machine.budget → (answer machine).0 ≡ None
      → (answer machine).1.cycles ≤ machine.budget

-- No step is out of memory: that is an answer of a machine that is run, and not of the definitions.
abbrev pub StepHasMemory : Type 0
StepHasMemory = (machine : Machine) → (step_of machine).0 ≢ step.NoMemory

-- No step takes cycles back, or changes the budget.
abbrev pub StepKeepsAccount : Type 0
StepKeepsAccount = (machine : Machine) → let next = (step_of machine).1 in
    (machine.cycles ≤ next.cycles) × (next.budget ≡ machine.budget)

-- A step after which the program goes on has raised the cycles, by 1 at least, within a budget that stays.
abbrev pub GoesOnWithinBudget : Answer → Type 0
GoesOnWithinBudget answer = (machine : Machine) → let next = advance answer machine in
    next.0 ≡ None → (machine.cycles < next.1.cycles) × (next.1.cycles ≤ next.1.budget) × (next.1.budget ≡ machine.budget)

-- More steps than a run has do not change it.
abbrev pub HasStepsEnough : Answer → Type 0
HasStepsEnough answer = (steps : ℕ) (machine : Machine) → machine.budget - machine.cycles < steps
    → run_for answer steps machine ≡ run answer machine

-- A run is one step and, where that goes on, the run from there.
abbrev pub RunsStepByStep : Answer → Type 0
RunsStepByStep answer = (machine : Machine) → let next = advance answer machine in
    run answer machine ≡ ended_or (run answer) next.0 next.1

-- It is also the first step that does not go by itself, what comes of that, and the run from there.
abbrev pub RunsStopByStop : Answer → Type 0
RunsStopByStop answer = (machine : Machine) → let stop = stop_of machine in let next = answered answer stop.0 stop.1 in
    run answer machine ≡ ended_or (run answer) next.0 next.1

-- The first step that does not go is this one, or that from the next machine.
abbrev pub StopsStepByStep : Type 0
StopsStepByStep = (machine : Machine) → let next = step_of machine in stop_of machine ≡ followed stop_of next.0 next.1

-- ---- a program from its file

-- a run that is paid for before its first step
abbrev pub run_after : Answer → ℕ → Machine → Ended
run_after answer cost machine =
    let paid = charged machine cost in if is_spent paid then (Spent, paid.cycles) else run answer paid

-- The cost of loading comes before the first step.
abbrev pub run_loaded : Answer → ℕ → elf.Program → Ended
run_loaded answer budget program =
    run_after answer (loading_cycles program.file_bytes) (new_machine program.memory program.pc budget)

-- what came of a file: its program ended, or the number of the condition that the file meets
abbrev pub Execution : Type 0
Execution = Result Ended ℕ

abbrev pub executed : Answer → ℕ → Result elf.Program ℕ → Execution
executed answer budget (Ok program) = Ok (run_loaded answer budget program)
executed answer budget (Err condition) = Err condition

-- within a budget
unfoldable pub execution : Answer → ℕ → List ℕ → Execution
execution answer budget file = executed answer budget (elf.load_elf file)
