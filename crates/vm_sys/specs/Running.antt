-- A run under a world: what leads to its end, and where it wants memory (docs/MACHINE.md, "A run").
use Rattle.std.specs.Prelude.{◌≡◌, ◌≢◌, ◌⊎◌, ℕ, ◌<◌, ◌≤◌, true, Option, Some, None, Result, Ok, Err}
use Rattle.outside.specs.declared.disk.ReadStop.{ReadStop}
use Rattle.machine_defs.specs.declared.outcome.Outcome.{Outcome}
use Rattle.machine_defs.specs.declared.outcome.Outcome.TheVariants as outcome
use Rattle.machine_defs.specs.declared.step.Step.TheVariants.{Went, Ecall}
use Rattle.machine_defs.specs.Alone.{syscall_number}
use Rattle.machine_defs.specs.Program.{Answer, Reaches, answered, stop_of}
use Rattle.machine_defs.specs.Step.{Machine, step_of}
use Rattle.vm_step.specs.Running.{RunningMachine, Touches, next_range}
use Rattle.machine_defs.specs.SyscallTable as table
use Rattle.machine_defs.specs.SyscallTable.{action_of}
use Rattle.machine_defs.specs.World.{Item, Items, Unknown}
use Rattle.machine_defs.specs.Answer.{asks, syscall}
use Rattle.vm_sys.specs.declared.syscall.Sys.{Sys}
use Rattle.vm_sys.specs.declared.syscall.Sys.TheVariants.{Done, Exit, Fault, Spent, Stop}

-- ---- where a run wants memory

-- the deed loads an item, from a source and of a field that there is
abbrev pub LoadsBy : Items → Machine → Option table.Action → Type 0
LoadsBy items machine (Some table.Loads) = items (asks machine table.Loads) ≢ Unknown
LoadsBy items machine (Some table.LoadsField) = items (asks machine table.LoadsField) ≢ Unknown
LoadsBy items machine (Some table.LoadsCode) = items (asks machine table.LoadsCode) ≢ Unknown
LoadsBy items machine (Some table.Exits) = ⊥
LoadsBy items machine (Some table.Debugs) = ⊥
LoadsBy items machine None = ⊥

-- the syscall that the machine makes does
abbrev pub LoadsItem : Items → Machine → Type 0
LoadsItem items machine = LoadsBy items machine (action_of (syscall_number machine))

-- one of so many first steps of a run stores to the page
pub record IsStoredBefore (answer : Answer) (end : ℕ) (start : Machine) (page : ℕ) : Type 0 where
  pub steps : ℕ
  pub before : steps < end
  pub reached : Machine
  pub reaches : Reaches answer steps start reached
  pub goes : (step_of reached).0 ≡ Went
  pub touches : Touches (next_range reached) page

-- A run comes to a step that would go, and that stores to a page without memory: one that had none at the start, and
-- that no step before stored to.
pub record RunWantsPage (answer : Answer) (HasMemory : ℕ → Type 0) (start : Machine) : Type 0 where
  pub steps : ℕ
  pub reached : Machine
  pub reaches : Reaches answer steps start reached
  pub goes : (step_of reached).0 ≡ Went
  pub new_page : ((page : ℕ) → Touches (next_range reached) page → HasMemory page ⊎ IsStoredBefore answer steps start page) → ⊥

-- It comes to a syscall that loads an item, from a source and of a field that there is.
pub record RunLoadsItem (items : Items) (start : Machine) : Type 0 where
  pub steps : ℕ
  pub reached : Machine
  pub reaches : Reaches (syscall items) steps start reached
  pub calls : (step_of reached).0 ≡ Ecall
  pub item : LoadsItem items (step_of reached).1

-- It wants memory: of the machine for a page, or of the world or the machine for an item.
abbrev pub RunWants : Items → (ℕ → Type 0) → Machine → Type 0
RunWants items HasMemory start = RunWantsPage (syscall items) HasMemory start ⊎ RunLoadsItem items start

-- ---- up to one stop

-- how the answer to a syscall ends the program, if it does
abbrev pub outcome_of : Sys → Result (Option Outcome) ReadStop
outcome_of Done = Ok None
outcome_of (Exit code) = Ok (Some (outcome.Exit code))
outcome_of (Fault number) = Ok (Some (outcome.Fault number))
outcome_of Spent = Ok (Some outcome.Spent)
outcome_of (Stop stop) = Err stop

-- the first step that does not go by itself, with its answer
abbrev pub stopped : Answer → Machine → Option Outcome × Machine
stopped answer machine = let stop = stop_of machine in answered answer stop.0 stop.1

-- The machine ran to such a step, which ended the program so, or after which the machine goes on. At an end memory may hold a part of what a
-- syscall stores.
pub record Advances (answer : Answer) (old new : RunningMachine) (end : Option Outcome) : Type 0 where
  pub ended : end ≡ (stopped answer old.machine).0
  pub cycles : new.machine.cycles ≡ (stopped answer old.machine).1.cycles
  pub machine : end ≡ None → new.machine ≡ (stopped answer old.machine).1
  pub goes_on : end ≡ None → new.goes_on ≡ true

-- The step was answered with some item, as also where a world tells of none.
abbrev pub AdvancesBySome : RunningMachine → RunningMachine → Option Outcome → Type 0
AdvancesBySome old new end = (item : Item) × Advances (syscall (λ call. item)) old new end

-- that step is a syscall which loads an item
abbrev pub StopLoadsItem : Items → Machine → Type 0
StopLoadsItem items machine = let stop = stop_of machine in (stop.0 ≡ Ecall) × LoadsItem items stop.1

-- ---- its end

-- the cycles of a program that exited are within the budget
abbrev pub IsWithin : ℕ → Outcome → ℕ → Type 0
IsWithin budget (outcome.Exit code) cycles = cycles ≤ budget
IsWithin budget (outcome.Fault number) cycles = Unit {0}
IsWithin budget outcome.Spent cycles = Unit {0}
