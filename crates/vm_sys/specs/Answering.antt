-- How the machine answers a syscall.
use Rattle.std.specs.Prelude.{◌≡◌, ◌⊎◌, ◌≤◌, ⊤, ℕ, Bool, true, false, List, drop, length, take, Option, Some, None, Result, Ok, Err}
use Rattle.outside.specs.declared.disk.ReadStop.TheVariants as read_stop
use Rattle.machine_defs.specs.declared.outcome.Outcome.{Outcome}
use Rattle.machine_defs.specs.declared.outcome.Outcome.TheVariants as outcome
use Rattle.machine_defs.specs.Memory.{Memory, bytes_of, load, set_code, store}
use Rattle.machine_defs.specs.declared.memory.MemFault.{MemFault}
use Rattle.machine_defs.specs.Step.{Machine, fault_number}
use Rattle.vm_mem.specs.declared.stop.MemStop.{MemStop}
use Rattle.vm_mem.specs.declared.stop.MemStop.TheVariants as mem_stop
use Rattle.vm_mem.specs.Pages.{IsAllocated, ReachesPage}
use Rattle.vm_step.specs.Running.{RunningMachine}
use Rattle.machine_defs.specs.SyscallTable as table
use Rattle.machine_defs.specs.SyscallTable.{action_of}
use Rattle.machine_defs.specs.World.{Item, Items, Here, NoIndex, Missing, Unknown}
use Rattle.machine_defs.specs.Answer.{Answered, argument, asks}
use Rattle.machine_defs.specs.Alone.{syscall_number}
use Rattle.vm_sys.specs.declared.syscall.Sys.{Sys}
use Rattle.vm_sys.specs.declared.syscall.Sys.TheVariants.{Done, Exit, Fault, Spent, Stop}

-- What the definitions make of the machine, the machine after the call, and the answer. At a fault memory may hold a part of what the call
-- stores. A call that was stopped, for want of memory or by a world that cannot be read, is not answered.
abbrev pub Answers : Sys → Option Outcome → Machine → Machine → Type 0
Answers Done None next new = new ≡ next
Answers Done (Some ended) next new = ⊥
Answers (Exit code) None next new = ⊥
Answers (Exit code) (Some (outcome.Exit expected)) next new = (code ≡ expected) × (new ≡ next)
Answers (Exit code) (Some (outcome.Fault number)) next new = ⊥
Answers (Exit code) (Some outcome.Spent) next new = ⊥
Answers (Fault number) None next new = ⊥
Answers (Fault number) (Some (outcome.Exit code)) next new = ⊥
Answers (Fault number) (Some (outcome.Fault expected)) next new = (number ≡ expected) × (new ≡ record next { memory = new.memory })
Answers (Fault number) (Some outcome.Spent) next new = ⊥
Answers Spent None next new = ⊥
Answers Spent (Some (outcome.Exit code)) next new = ⊥
Answers Spent (Some (outcome.Fault number)) next new = ⊥
Answers Spent (Some outcome.Spent) next new = new ≡ next
Answers (Stop stop) expected next new = ⊤

abbrev pub IsAnswer : Answered → Machine → Sys → Type 0
IsAnswer expected new result = Answers result expected.0 expected.1 new

-- ---- a call that does not come to its end

-- memory with a word stored at a1, as the length word is
abbrev pub HasWord : Machine → Memory → Type 0
HasWord machine memory = (word : ℕ) × (store machine.memory (argument machine 1) (bytes_of 8 word) ≡ Ok memory)

-- memory with bytes stored at an address, no more than so many
abbrev pub HasBytes : Memory → ℕ → ℕ → Memory → Type 0
HasBytes before at most memory = (bytes : List ℕ) × (length bytes ≤ most) × (store before at bytes ≡ Ok memory)

-- All but memory is as it was. So is memory, or it holds a part of what the call stores: the length word, or bytes at a0, no more than a1 says.
pub record HoldsPart (old new : Machine) : Type 0 where
  pub rest : new ≡ record old { memory = new.memory }
  pub part : (new.memory ≡ old.memory) ⊎ (HasWord old new.memory ⊎ HasBytes old.memory (argument old 0) (argument old 1) new.memory)

-- P holds where the call faulted, or was stopped.
abbrev pub WhereCutOff : Sys → Type 0 → Type 0
WhereCutOff (Fault number) P = P
WhereCutOff (Stop stop) P = P
WhereCutOff Done P = ⊤
WhereCutOff (Exit code) P = ⊤
WhereCutOff Spent P = ⊤

-- ---- pages

-- A byte that a load in part stores lies in the page: one of the length word, or of the part.
abbrev pub PartTouches : Machine → List ℕ → ℕ → Type 0
PartTouches machine item page = ReachesPage page (argument machine 1) 8
    ⊎ ((word : ℕ) × (load machine.memory (argument machine 1) 8 ≡ Ok word)
    × ReachesPage page (argument machine 0) (length (take word (drop (argument machine 2) item))))

-- One of the content that is loaded as code does. The zeros after it take no memory.
abbrev pub ContentTouches : Machine → ℕ → Type 0
ContentTouches machine page = ReachesPage page (argument machine 0) (argument machine 3)

abbrev pub BytesTouch : table.Action → Machine → List ℕ → ℕ → Type 0
BytesTouch table.Loads machine item page = PartTouches machine item page
BytesTouch table.LoadsField machine item page = PartTouches machine item page
BytesTouch table.LoadsCode machine item page = ContentTouches machine page
BytesTouch table.Exits machine item page = ⊥
BytesTouch table.Debugs machine item page = ⊥

abbrev pub ItemTouches : table.Action → Machine → Item → ℕ → Type 0
ItemTouches deed machine (Here item) page = BytesTouch deed machine item page
ItemTouches deed machine NoIndex page = ⊥
ItemTouches deed machine Missing page = ⊥
ItemTouches deed machine Unknown page = ⊥

abbrev pub ActionTouches : Items → Machine → Option table.Action → ℕ → Type 0
ActionTouches items machine (Some deed) page = ItemTouches deed machine (items (asks machine deed)) page
ActionTouches items machine None page = ⊥

-- a byte that the syscall stores lies in the page
abbrev pub CallTouches : Items → Machine → ℕ → Type 0
CallTouches items machine page = ActionTouches items machine (action_of (syscall_number machine)) page

-- no page is allocated but those that were and those that are touched
abbrev pub AddsPages : List Bool → List Bool → (ℕ → Type 0) → Type 0
AddsPages old new Touches = (page : ℕ) → IsAllocated new page → IsAllocated old page ⊎ Touches page

-- the answers after which the machine goes on
abbrev pub goes_on_of : Sys → Bool
goes_on_of Done = true
goes_on_of (Exit code) = true
goes_on_of (Fault number) = true
goes_on_of Spent = false
goes_on_of (Stop stop) = true

-- a store that was not made, as an answer
abbrev pub IsStopped : MemStop → Sys → Type 0
IsStopped (mem_stop.Fault fault) result = result ≡ Fault (fault_number fault)
IsStopped mem_stop.NoMemory result = result ≡ Stop read_stop.NoMemory

-- Code that is placed: the answer, what the bytes are to make of memory, where they are stored and of how many pages, and memory after it.
abbrev pub IsCodePlaced : Result (Unit {0}) MemStop → Result Memory MemFault → ℕ → ℕ → Memory → Type 0
IsCodePlaced (Ok done) (Ok written) at pages new = set_code written at pages ≡ Ok new
IsCodePlaced (Ok done) (Err expected) at pages new = ⊥
IsCodePlaced (Err (mem_stop.Fault fault)) (Ok written) at pages new = set_code written at pages ≡ Err fault
IsCodePlaced (Err (mem_stop.Fault fault)) (Err expected) at pages new = fault ≡ expected
IsCodePlaced (Err mem_stop.NoMemory) expected at pages new = ⊤

-- the answer is that of some item, as also where a world tells of none
abbrev pub IsAnswerOfSome : (Item → Answered) → Machine → Sys → Type 0
IsAnswerOfSome answer new result = (item : Item) × IsAnswer (answer item) new result

-- a machine with other memory
abbrev pub with_memory : RunningMachine → Memory → List Bool → RunningMachine
with_memory running memory allocated = record running { machine = record running.machine { memory = memory }; allocated = allocated }
