-- What a file begins as, what came of it, and where its run wants memory (docs/MACHINE.md, "A run").
use Rattle.std.specs.Prelude.{◌≡◌, ℕ, ◌<◌, ◌≤◌, List, Result, Ok, Err, true}
use Rattle.machine_defs.specs.Alone.{answer_ecall}
use Rattle.machine_defs.specs.Elf.{Program, Segment}
use Rattle.machine_defs.specs.Program as programs
use Rattle.machine_defs.specs.Program.{loading_cycles, new_machine}
use Rattle.machine_defs.specs.Step.{charged}
use Rattle.machine_defs.specs.World.{Items}
use Rattle.vm_mem.specs.Pages.{IsAllocated}
use Rattle.vm_step.specs.Running.{RunningMachine}
use Rattle.vm_sys.specs.Running.{IsWithin, RunWants, RunWantsPage}
use Rattle.elf_load.specs.Placing.{HoldsBytes}
use Rattle.program_run.specs.declared.program.Execution.{Execution}
use Rattle.program_run.specs.declared.program.Execution.TheVariants.{Ended, BadElf}
use Rattle.program_run.specs.declared.program.Started.{Started}
use Rattle.program_run.specs.declared.program.Started.TheVariants as started

-- A machine before the first step of its program: the bytes of the file lie in memory, their pages have memory, and the
-- budget has paid for them.
pub record IsReady (budget : ℕ) (segments : List Segment) (program : Program) (ready : RunningMachine) : Type 0 where
  pub machine : ready.machine ≡ charged (new_machine program.memory program.pc budget) (loading_cycles program.file_bytes)
  pub paid : loading_cycles program.file_bytes ≤ budget
  pub goes_on : ready.goes_on ≡ true
  pub allocated : (page : ℕ) → HoldsBytes page segments → IsAllocated ready.allocated page

-- what a file begins as, of its segments and of the program that it holds or the condition that it meets
abbrev pub IsStarted : ℕ → List Segment → Result Program ℕ → Started → Type 0
IsStarted budget segments (Ok program) (started.Ready ready) = IsReady budget segments program ready
IsStarted budget segments (Ok program) (started.Spent cycles) =
    (cycles ≡ loading_cycles program.file_bytes) × (budget < cycles)
IsStarted budget segments (Ok program) (started.BadElf condition) = ⊥
IsStarted budget segments (Err expected) (started.Ready ready) = ⊥
IsStarted budget segments (Err expected) (started.Spent cycles) = ⊥
IsStarted budget segments (Err expected) (started.BadElf condition) = condition ≡ expected

abbrev pub execution_of : Execution → programs.Execution
execution_of (Ended outcome cycles) = Ok (outcome, cycles)
execution_of (BadElf condition) = Err condition

-- A file is no program where it meets a condition, and its answer is that condition's number.
abbrev pub IsJudged : Result Program ℕ → Execution → Type 0
IsJudged (Ok program) (Ended outcome cycles) = Unit {0}
IsJudged (Ok program) (BadElf condition) = ⊥
IsJudged (Err expected) (Ended outcome cycles) = ⊥
IsJudged (Err expected) (BadElf condition) = condition ≡ expected

-- the cycles of a program that exited are within the budget
abbrev pub KeepsBudget : ℕ → Execution → Type 0
KeepsBudget budget (Ended outcome cycles) = IsWithin budget outcome cycles
KeepsBudget budget (BadElf condition) = Unit {0}

-- the budget pays for the loading of the program that a file holds
abbrev pub PaysForLoading : ℕ → Result Program ℕ → Type 0
PaysForLoading budget (Ok program) = loading_cycles program.file_bytes ≤ budget
PaysForLoading budget (Err condition) = ⊥

-- The run of the program that a file holds comes to a step that stores to a page without memory. At the start the pages have memory that bytes
-- of the file went to, with one of its segments.
abbrev pub ProgramWantsPage : ℕ → List Segment → Result Program ℕ → Type 0
ProgramWantsPage budget segments (Ok program) =
    RunWantsPage answer_ecall (λ page. HoldsBytes page segments)
    (charged (new_machine program.memory program.pc budget) (loading_cycles program.file_bytes))
ProgramWantsPage budget segments (Err condition) = ⊥

-- It does that among what surrounds the script, or comes to a syscall that loads an item.
abbrev pub ProgramWants : Items → ℕ → List Segment → Result Program ℕ → Type 0
ProgramWants items budget segments (Ok program) =
    RunWants items (λ page. HoldsBytes page segments)
    (charged (new_machine program.memory program.pc budget) (loading_cycles program.file_bytes))
ProgramWants items budget segments (Err condition) = ⊥
