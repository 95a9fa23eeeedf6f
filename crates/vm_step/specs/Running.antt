-- A machine that runs: what contracts see of it, and what a step of it does.
use Rattle.std.specs.Prelude.{◌≡◌, ◌≢◌, ◌⊎◌, ℕ, ◌+◌, ◌-◌, ◌%◌, ◌^◌, ◌<◌, ◌≤◌, ℤ, Bool, true, false, List, Option, Some, None, IfSome, Result, Ok, Err, if◌then◌else◌}
use Rattle.machine_defs.specs.declared.ins.Ins.{Ins}
use Rattle.machine_defs.specs.declared.ins.Ins.TheVariants.{Sb, Sh, Sw, Sd}
use Rattle.machine_defs.specs.declared.memory.MemFault.{MemFault}
use Rattle.machine_defs.specs.declared.step.Step.{Step}
use Rattle.machine_defs.specs.declared.step.Step.TheVariants.{Went, Ecall, Fault, Spent, NoMemory}
use Rattle.machine_defs.specs.Code.{instruction_at}
use Rattle.machine_defs.specs.Program.{Leads, stop_of}
use Rattle.machine_defs.specs.Step.{Machine, charged, is_spent, moved, register, step_of}
use Rattle.vm_step.specs.declared.place.Place.{Place}
use Rattle.vm_mem.specs.Pages.{IsAllocated, AreAllocated, ReachesPage}

-- the machine, which of its pages are allocated, whether it may make another step, and what the last one answered
pub record RunningMachine : Type 0 where
  pub machine : Machine
  pub allocated : List Bool
  pub goes_on : Bool
  pub last : Step

-- The cycles so far, from what is left of the budget: the difference modulo 2^64, since what is left wraps below 0.
unfoldable pub cycles_of : ℕ → ℕ → ℕ
cycles_of budget left = (budget + (2 ^ 64 - left % 2 ^ 64)) % 2 ^ 64

-- a machine whose program counter and cycles are kept apart from it
abbrev pub placed : Machine → Place → Machine
placed machine place = record machine { pc = place.pc; cycles = cycles_of machine.budget place.left }

abbrev pub with_place : RunningMachine → Place → RunningMachine
with_place running place = record running { machine = placed running.machine place }

abbrev pub machine_at : RunningMachine → Place → Machine
machine_at running place = placed running.machine place

-- A machine that ran: as long as its steps went its place is kept apart from it, and after any other answer it has it again.
abbrev pub stands_after : Step → RunningMachine → Place → RunningMachine
stands_after Went running place = with_place running place
stands_after Ecall running place = running
stands_after (Fault number) running place = running
stands_after Spent running place = running
stands_after NoMemory running place = running

abbrev pub stands : RunningMachine → Place → RunningMachine
stands running place = stands_after running.last running place

-- the answers of a step after which the machine goes on
abbrev pub goes_on_after : Step → Bool
goes_on_after Went = true
goes_on_after Ecall = true
goes_on_after (Fault number) = false
goes_on_after Spent = false
goes_on_after NoMemory = false

-- What a step is: what the definitions make of the machine, the machine before and after, and the answer. Where a page that is
-- stored to could not be made, the instruction is paid for, and has no effect.
abbrev pub IsStep : Step × Machine → Machine → Machine → Step → Type 0
IsStep expected old new Went = (Went, new) ≡ expected
IsStep expected old new Ecall = (Ecall, new) ≡ expected
IsStep expected old new (Fault number) = (Fault number, new) ≡ expected
IsStep expected old new Spent = (Spent, new) ≡ expected
IsStep expected old new NoMemory = (expected.0 ≡ Went) × (new ≡ record old { cycles = expected.1.cycles })

-- An instruction is paid for before it has the effect that is expected of it.
abbrev pub paying : ℕ → Machine → Step × Machine → Step × Machine
paying cost machine expected =
    let paid = charged machine cost in if is_spent paid then (Spent, paid) else expected

-- ---- room for a store

pub record ByteRange : Type 0 where
  pub at : ℕ
  pub count : ℕ

abbrev pub range_at : Machine → ℕ → ℤ → ℕ → Option ByteRange
range_at machine rs1 imm count = Some (record { at = moved (register machine rs1) imm; count = count })

-- the bytes that an instruction stores to
abbrev pub stored_range : Machine → Ins → Option ByteRange
stored_range machine (Sb rs1 rs2 imm) = range_at machine rs1 imm 1
stored_range machine (Sh rs1 rs2 imm) = range_at machine rs1 imm 2
stored_range machine (Sw rs1 rs2 imm) = range_at machine rs1 imm 4
stored_range machine (Sd rs1 rs2 imm) = range_at machine rs1 imm 8
stored_range machine _ = None

abbrev pub found_range : Machine → Result (Option (Ins × ℕ)) MemFault → Option ByteRange
found_range machine (Ok (Some decoded)) = stored_range machine decoded.0
found_range machine (Ok None) = None
found_range machine (Err fault) = None

-- those of the instruction at the program counter
unfoldable pub next_range : Machine → Option ByteRange
next_range machine = found_range machine (instruction_at machine.memory machine.pc)

-- the pages of the bytes, if any are stored to, are allocated
abbrev pub HasRoom : List Bool → Option ByteRange → Type 0
HasRoom allocated range = IfSome range (λ bytes. AreAllocated allocated bytes.at bytes.count)

-- one of the bytes, if any are stored to, lies in the page
abbrev pub Touches : Option ByteRange → ℕ → Type 0
Touches (Some bytes) page = ReachesPage page bytes.at bytes.count
Touches None page = ⊥

-- ---- steps up to one that does not go

-- the steps of a machine come to one that stores to the page
pub record IsStoredTo (machine : Machine) (page : ℕ) : Type 0 where
  pub steps : ℕ
  pub reached : Machine
  pub leads : Leads steps machine reached
  pub touches : Touches (next_range reached) page

-- one of so many first steps does
pub record IsStoredBefore (end : ℕ) (machine : Machine) (page : ℕ) : Type 0 where
  pub steps : ℕ
  pub before : steps < end
  pub reached : Machine
  pub leads : Leads steps machine reached
  pub touches : Touches (next_range reached) page

-- They were made up to one that stores to a page which could not be made: the machine that they lead to, whose step
-- would have gone, and what is left of it. Not all of its pages were allocated, at the start or by a step before it.
pub record WantsPage (old : RunningMachine) (new : Machine) : Type 0 where
  pub steps : ℕ
  pub reached : Machine
  pub leads : Leads steps old.machine reached
  pub stores : IsStep (step_of reached) reached new NoMemory
  pub new_page : ((page : ℕ) → Touches (next_range reached) page → IsAllocated old.allocated page ⊎ IsStoredBefore steps old.machine page) → ⊥

-- The pages are allocated that a step stored to, of those that went.
abbrev pub LeavesRoom : Machine → List Bool → Type 0
LeavesRoom machine allocated = (steps : ℕ) (last : Machine) → Leads steps machine last → (step_of last).0 ≡ Went
    → HasRoom allocated (next_range last)

-- The machine before and after, and the answer to the last step.
abbrev pub Stops : RunningMachine → Machine → Step → Type 0
Stops old new Went = ⊥
Stops old new Ecall = (Ecall, new) ≡ stop_of old.machine
Stops old new (Fault number) = (Fault number, new) ≡ stop_of old.machine
Stops old new Spent = (Spent, new) ≡ stop_of old.machine
Stops old new NoMemory = WantsPage old new

-- ---- one instruction

-- Where the next instruction is looked up: after a step that went at the program counter, and after any other nowhere, which
-- is an odd address. So a run ends only where no slot is found.
abbrev pub IsNext : Step → RunningMachine → ℕ → Type 0
IsNext Went new next = next ≡ new.machine.pc
IsNext Ecall new next = next % 2 ≡ 1
IsNext (Fault number) new next = next % 2 ≡ 1
IsNext Spent new next = next % 2 ≡ 1
IsNext NoMemory new next = next % 2 ≡ 1

-- An instruction: what it is to do, the bytes that it stores to, the machine before and after, the answer, and where the
-- next one is looked up.
pub record Executes (expected : Step × Machine) (range : Option ByteRange) (old new : RunningMachine) (answer : Step) (next : ℕ) : Type 0 where
  pub machine : IsStep expected old.machine new.machine answer
  pub room : HasRoom old.allocated range → answer ≢ NoMemory
  pub allocated : answer ≡ Went → HasRoom new.allocated range
  pub pages_kept : (page : ℕ) → IsAllocated old.allocated page → IsAllocated new.allocated page
  pub pages_added : (page : ℕ) → IsAllocated new.allocated page → IsAllocated old.allocated page ⊎ Touches range page
  pub goes_on : new.goes_on ≡ goes_on_after answer
  pub follows : IsNext answer new next

-- A step of a run: the machine before and after, the answer, and where the next instruction is looked up.
pub record IsOneStep (old new : RunningMachine) (answer : Step) (next : ℕ) : Type 0 where
  pub steps : IsStep (step_of old.machine) old.machine new.machine answer
  pub goes_on : new.goes_on ≡ goes_on_after answer
  pub within : new.goes_on ≡ true → new.machine.cycles ≤ new.machine.budget
  pub room : HasRoom old.allocated (next_range old.machine) → answer ≢ NoMemory
  pub allocated : answer ≡ Went → HasRoom new.allocated (next_range old.machine)
  pub pages_kept : (page : ℕ) → IsAllocated old.allocated page → IsAllocated new.allocated page
  pub pages_added : (page : ℕ) → IsAllocated new.allocated page → IsAllocated old.allocated page ⊎ Touches (next_range old.machine) page
  pub follows : IsNext answer new next
