-- What a syscall does to the machine, over the item that it asks for (RFC 0009; docs/MACHINE.md, "Syscalls"). The arguments are in a0 to a5,
-- and the result comes into a0. The program counter is past the ECALL.
use Rattle.std.specs.Prelude.{ℕ, ◌+◌, ◌-◌, ◌/◌, ◌%◌, ◌==◌, ◌||◌, not, nat_lt, List, ◌++◌, length, take, drop, replicate, slice_range, Option, Some, None, Result, Ok, Err, if◌then◌else◌}
use Rattle.machine_defs.specs.declared.outcome.Outcome.{Outcome}
use Rattle.machine_defs.specs.declared.outcome.Outcome.TheVariants.{Exit, Fault, Spent}
use Rattle.machine_defs.specs.declared.memory.MemFault.{MemFault}
use Rattle.machine_defs.specs.Memory.{Memory, page_size}
use Rattle.machine_defs.specs.Memory as memory
use Rattle.machine_defs.specs.Step.{Machine, register, with_register, charged, is_spent, fault_number}
use Rattle.machine_defs.specs.Program.{Answer, loading_cycles}
use Rattle.machine_defs.specs.Alone.{exit_code, syscall_number}
use Rattle.machine_defs.specs.SyscallTable.{Action, Exits, Debugs, Loads, LoadsField, LoadsCode, action_of}
use Rattle.machine_defs.specs.World.{Call, Item, Here, NoIndex, Missing, Unknown, Items}

-- ---- arguments

abbrev pub argument : Machine → ℕ → ℕ
argument machine i = register machine (10 + i)

-- what a call asks for: the index in a3, the source in a4, the field in a5; for code the index in a4 and the source in a5
abbrev pub asks : Machine → Action → Call
asks machine LoadsField = record { number = syscall_number machine; index = argument machine 3; source = argument machine 4; field = argument machine 5 }
asks machine LoadsCode = record { number = syscall_number machine; index = argument machine 4; source = argument machine 5; field = 0 }
asks machine Loads = record { number = syscall_number machine; index = argument machine 3; source = argument machine 4; field = 0 }
asks machine Exits = record { number = syscall_number machine; index = 0; source = 0; field = 0 }
asks machine Debugs = record { number = syscall_number machine; index = 0; source = 0; field = 0 }

-- ---- results

abbrev pub Answered : Type 0
Answered = Option Outcome × Machine

-- a result in a0, with which the program goes on
abbrev pub results : Machine → ℕ → Answered
results machine n = (None, with_register machine 10 n)

-- loaded bytes are paid for, a cycle for four of them, and the result is 0; where the budget does not pay for them a0 is as it was
abbrev pub paid_for : ℕ → Machine → Answered
paid_for count machine = let paid = charged machine (loading_cycles count) in if is_spent paid then (Some Spent, paid) else results paid 0

-- a fault of an access to memory
abbrev pub faults : Machine → MemFault → Answered
faults machine fault = (Some (Fault (fault_number fault)), machine)

-- ---- loading in part: to the address in a0, as many bytes as the length word at a1 says, from the offset in a2 on

-- bytes that are stored; none touch nothing
abbrev pub stored : Memory → ℕ → List ℕ → Result Memory MemFault
stored before at bytes = if length bytes == 0 then Ok before else memory.store before at bytes

abbrev pub with_part : Machine → List ℕ → Result Memory MemFault → Answered
with_part machine part (Err fault) = faults machine fault
with_part machine part (Ok written) = paid_for (length part) (record machine { memory = written })

abbrev pub with_length : Machine → List ℕ → Result Memory MemFault → Answered
with_length machine part (Err fault) = faults machine fault
with_length machine part (Ok written) = with_part machine part (stored written (argument machine 0) part)

abbrev pub within_word : Machine → List ℕ → Result ℕ MemFault → Answered
within_word machine rest (Err fault) = faults machine fault
within_word machine rest (Ok word) =
    with_length machine (take word rest) (memory.store machine.memory (argument machine 1) (memory.bytes_of 8 (length rest)))

-- The word at a1 is read, and becomes the count of bytes from the offset on; then as many of them as it said are stored, and paid for. An
-- offset past the end counts as the end.
unfoldable pub loads_part : Machine → List ℕ → Answered
loads_part machine item = within_word machine (drop (argument machine 2) item) (memory.load machine.memory (argument machine 1) 8)

-- ---- loading as code: to the address in a0, pages of so many bytes as a1 says, with so many bytes of content as a3 says, from the offset in a2 on

-- the content, and zeros after it
abbrev pub code_bytes : Machine → List ℕ → List ℕ
code_bytes machine item =
    slice_range item (argument machine 2) (argument machine 2 + argument machine 3) ++ replicate (argument machine 1 - argument machine 3) 0

abbrev pub with_code : Machine → Result Memory MemFault → Answered
with_code machine (Err fault) = faults machine fault
with_code machine (Ok written) = paid_for (argument machine 1) (record machine { memory = written })

abbrev pub with_content : Machine → Result Memory MemFault → Answered
with_content machine (Err fault) = faults machine fault
with_content machine (Ok written) = with_code machine (memory.set_code written (argument machine 0) (argument machine 1 / page_size))

-- The content lies within the item and fits, the pages are whole; then they are written, which none of code may be, and become code.
unfoldable pub loads_code : Machine → List ℕ → Answered
loads_code machine item =
    if nat_lt (length item) (argument machine 2 + argument machine 3) || nat_lt (argument machine 1) (argument machine 3) then results machine 3
    else if not (argument machine 0 % page_size == 0) || not (argument machine 1 % page_size == 0) then (Some (Fault 6), machine)
    else with_content machine (memory.store machine.memory (argument machine 0) (code_bytes machine item))

-- ---- all syscalls

-- what is done with an item that is there
abbrev pub with_bytes : Action → Machine → List ℕ → Answered
with_bytes LoadsCode machine item = loads_code machine item
with_bytes Loads machine item = loads_part machine item
with_bytes LoadsField machine item = loads_part machine item
with_bytes Exits machine item = (None, machine)
with_bytes Debugs machine item = (None, machine)

-- with what a call is answered; where there is no item memory is not touched
abbrev pub with_item : Action → Machine → Item → Answered
with_item deed machine Unknown = (Some (Fault 5), machine)
with_item deed machine NoIndex = results machine 1
with_item deed machine Missing = results machine 2
with_item deed machine (Here item) = with_bytes deed machine item

abbrev pub does : Items → Machine → Action → Answered
does items machine Exits = (Some (Exit (exit_code (argument machine 0))), machine)
does items machine Debugs = (None, machine)
does items machine Loads = with_item Loads machine (items (asks machine Loads))
does items machine LoadsField = with_item LoadsField machine (items (asks machine LoadsField))
does items machine LoadsCode = with_item LoadsCode machine (items (asks machine LoadsCode))

abbrev pub does_any : Items → Machine → Option Action → Answered
does_any items machine None = (Some (Fault 5), machine)
does_any items machine (Some deed) = does items machine deed

-- What a syscall does over what surrounds the script.
unfoldable pub syscall : Items → Answer
syscall items machine = does_any items machine (action_of (syscall_number machine))
