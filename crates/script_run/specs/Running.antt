-- The answers of the code beside those of the definitions.
use Rattle.std.specs.Prelude.{◌≡◌, ⊤, ℕ, ◌≤◌, Option, Some, None, Result, Ok, Err}
use Rattle.outside.specs.declared.disk.ReadStop.{ReadStop}
use Rattle.machine_defs.specs.declared.outcome.Outcome.TheVariants as outcome
use Rattle.program_run.specs.declared.program.Execution.{Execution}
use Rattle.program_run.specs.declared.program.Execution.TheVariants.{Ended, BadElf}
use Rattle.verdict_defs.specs.declared.failure.Failure.{Failure}
use Rattle.script_run.specs.declared.stop.ScriptStop.{ScriptStop}
use Rattle.script_run.specs.declared.stop.ScriptStop.TheVariants.{Failed, Read}

-- Cycles, or a failure, as is expected. What could not be read, and want of memory, is no answer.
abbrev pub IsOutcome : Result ℕ Failure → Result ℕ ScriptStop → Type 0
IsOutcome expected (Ok cycles) = expected ≡ Ok cycles
IsOutcome expected (Err (Failed failure)) = expected ≡ Err failure
IsOutcome expected (Err (Read stop)) = ⊤

-- what comes of a group is an answer
abbrev pub answer_of : Result ℕ Failure → Result ℕ ScriptStop
answer_of (Ok cycles) = Ok cycles
answer_of (Err failure) = Err (Failed failure)

-- a program that exited took no more cycles than the budget
abbrev pub ExitsWithin : ℕ → Execution → Type 0
ExitsWithin budget (Ended (outcome.Exit code) cycles) = cycles ≤ budget
ExitsWithin budget (Ended (outcome.Fault number) cycles) = ⊤
ExitsWithin budget (Ended outcome.Spent cycles) = ⊤
ExitsWithin budget (BadElf condition) = ⊤

-- why kept blocks were not read to a good end, where they were not
abbrev pub read_stop_of : Result ℕ ScriptStop → Option ReadStop
read_stop_of (Ok cycles) = None
read_stop_of (Err (Failed failure)) = None
read_stop_of (Err (Read stop)) = Some stop
