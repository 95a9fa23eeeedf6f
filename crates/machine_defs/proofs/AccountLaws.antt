-- A syscall keeps the account, whatever it is answered.
use Rattle.std.proofs.Common.{◌≡◌, ℕ, ◌+◌, ◌%◌, ◌≤◌, ◌==◌, nat_lt, ◌||◌, Bool, true, false, cond, ℤ, List, length, take, drop, Option, Some, None, Result, Ok, Err, refl, arith}
use Rattle.std.specs.Prelude.{not}
use Rattle.std.proofs.lemmas.Bool.Decides.{nat_tests}
use Rattle.machine_defs.specs.declared.outcome.Outcome.{Outcome}
use Rattle.machine_defs.specs.declared.outcome.Outcome.TheVariants.{Exit, Fault, Spent}
use Rattle.machine_defs.specs.declared.memory.MemFault.{MemFault}
use Rattle.machine_defs.specs.Memory.{Memory, page_size}
use Rattle.machine_defs.specs.Memory as memory
use Rattle.machine_defs.specs.Step.{Machine, with_register, charged, is_spent}
use Rattle.machine_defs.specs.Program.{KeepsAccount, loading_cycles}
use Rattle.machine_defs.specs.Alone.{syscall_number}
use Rattle.machine_defs.specs.SyscallTable.{Action, Exits, Debugs, Loads, LoadsField, LoadsCode, action_of}
use Rattle.machine_defs.specs.World.{Item, Here, NoIndex, Missing, Unknown, Items}
use Rattle.machine_defs.specs.Answer.{Answered, argument, results, paid_for, with_part, with_length, within_word, loads_part, code_bytes, with_code, with_content, loads_code, with_bytes, with_item, does, does_any, syscall}
use Rattle.machine_defs.specs.SyscallLaws.{SyscallsKeepAccount}

-- ---- what one answer keeps

pub record Keeps (machine : Machine) (next : Answered) : Type 0 where
  pub budget : next.1.budget ≡ machine.budget
  pub cycles : machine.cycles ≤ next.1.cycles
  pub within : machine.cycles ≤ machine.budget → next.0 ≡ None → next.1.cycles ≤ machine.budget
  -- an exit costs nothing
  pub exits : (code : ℤ) → next.0 ≡ Some (Exit code) → next.1.cycles ≡ machine.cycles

same-keeps : (machine : Machine) (outcome : Option Outcome) → Keeps machine (outcome, machine)
same-keeps machine outcome = record { budget = refl; cycles = omega arith; within = λ inside none. inside; exits = λ code exit. refl }

either-keeps : (b : Bool) (machine : Machine) (one other : Answered) → Keeps machine one → Keeps machine other → Keeps machine (cond b one other)
either-keeps true machine one other keeps keeps' = keeps
either-keeps false machine one other keeps keeps' = keeps'

either-register : (b : Bool) (machine one other : Machine) → Keeps machine (None, one) → Keeps machine (None, other)
    → Keeps machine (None, cond b one other)
either-register true machine one other keeps keeps' = keeps
either-register false machine one other keeps keeps' = keeps'

-- a register is not in the account
register-keeps : (machine paid : Machine) (i n : ℕ) → Keeps machine (None, paid) → Keeps machine (None, with_register paid i n)
unfolding with_register
register-keeps machine paid i n keeps =
    either-register (i == 0) machine paid _ keeps (record { budget = keeps.budget; cycles = keeps.cycles; within = keeps.within; exits = λ code exit. cc })

results-keeps : (machine : Machine) (n : ℕ) → Keeps machine (results machine n)
results-keeps machine n = register-keeps machine machine 10 n (same-keeps machine None)

-- ---- what is charged

paid-keeps : (count : ℕ) (machine : Machine) → Keeps machine (paid_for count machine)
paid-keeps count machine = by_test (is_spent paid) refl
  where
    paid : Machine
    paid = charged machine (loading_cycles count)

    by_test : (spent : Bool) → is_spent paid ≡ spent → Keeps machine (cond spent (Some Spent, paid) (results paid 0))
    by_test true is = record { budget = refl; cycles = omega arith; within = λ inside none. cc; exits = λ code exit. cc }
    by_test false is =
        let fits : machine.cycles + loading_cycles count ≤ machine.budget = grind (arith, nat_tests) in
        register-keeps machine paid 10 0 (record { budget = refl; cycles = omega arith; within = λ inside none. fits; exits = λ code exit. cc })

-- with other memory
paid-after : (count : ℕ) (machine : Machine) (memory : Memory) → Keeps machine (paid_for count (record machine { memory = memory }))
paid-after count machine memory =
    let keeps = paid-keeps count (record machine { memory = memory }) in
    record { budget = keeps.budget; cycles = keeps.cycles; within = keeps.within; exits = keeps.exits }

-- ---- loading in part

part-keeps : (machine : Machine) (part : List ℕ) (result : Result Memory MemFault) → Keeps machine (with_part machine part result)
part-keeps machine part (Ok written) = paid-after (length part) machine written
part-keeps machine part (Err fault) = same-keeps machine _

length-keeps : (machine : Machine) (part : List ℕ) (result : Result Memory MemFault) → Keeps machine (with_length machine part result)
length-keeps machine part (Ok written) = part-keeps machine part _
length-keeps machine part (Err fault) = same-keeps machine _

word-keeps : (machine : Machine) (rest : List ℕ) (result : Result ℕ MemFault) → Keeps machine (within_word machine rest result)
word-keeps machine rest (Ok word) = length-keeps machine (take word rest) _
word-keeps machine rest (Err fault) = same-keeps machine _

loads_part-keeps : (machine : Machine) (item : List ℕ) → Keeps machine (loads_part machine item)
unfolding loads_part
loads_part-keeps machine item = word-keeps machine (drop (argument machine 2) item) _

-- ---- loading as code

code-keeps : (machine : Machine) (result : Result Memory MemFault) → Keeps machine (with_code machine result)
code-keeps machine (Ok written) = paid-after (argument machine 1) machine written
code-keeps machine (Err fault) = same-keeps machine _

content-keeps : (machine : Machine) (result : Result Memory MemFault) → Keeps machine (with_content machine result)
content-keeps machine (Ok written) = code-keeps machine _
content-keeps machine (Err fault) = same-keeps machine _

loads_code-keeps : (machine : Machine) (item : List ℕ) → Keeps machine (loads_code machine item)
unfolding loads_code
loads_code-keeps machine item =
    either-keeps leaves machine _ _ (results-keeps machine 3)
    (either-keeps unaligned machine _ _ (same-keeps machine (Some (Fault 6))) (content-keeps machine stored))
  where
    leaves : Bool
    leaves = nat_lt (length item) (argument machine 2 + argument machine 3) || nat_lt (argument machine 1) (argument machine 3)

    unaligned : Bool
    unaligned = not (argument machine 0 % page_size == 0) || not (argument machine 1 % page_size == 0)

    stored : Result Memory MemFault
    stored = memory.store machine.memory (argument machine 0) (code_bytes machine item)

-- ---- all syscalls

bytes-keep : (deed : Action) (machine : Machine) (item : List ℕ) → Keeps machine (with_bytes deed machine item)
bytes-keep LoadsCode machine item = loads_code-keeps machine item
bytes-keep Loads machine item = loads_part-keeps machine item
bytes-keep LoadsField machine item = loads_part-keeps machine item
bytes-keep Exits machine item = same-keeps machine None
bytes-keep Debugs machine item = same-keeps machine None

item-keeps : (deed : Action) (machine : Machine) (item : Item) → Keeps machine (with_item deed machine item)
item-keeps deed machine Unknown = same-keeps machine _
item-keeps deed machine NoIndex = results-keeps machine 1
item-keeps deed machine Missing = results-keeps machine 2
item-keeps deed machine (Here item) = bytes-keep deed machine item

deed-keeps : (items : Items) (machine : Machine) (deed : Option Action) → Keeps machine (does_any items machine deed)
deed-keeps items machine None = same-keeps machine _
deed-keeps items machine (Some Exits) = same-keeps machine _
deed-keeps items machine (Some Debugs) = same-keeps machine None
deed-keeps items machine (Some Loads) = item-keeps Loads machine _
deed-keeps items machine (Some LoadsField) = item-keeps LoadsField machine _
deed-keeps items machine (Some LoadsCode) = item-keeps LoadsCode machine _

pub syscall-keeps : (items : Items) (machine : Machine) → Keeps machine (syscall items machine)
unfolding syscall
syscall-keeps items machine = deed-keeps items machine (action_of (syscall_number machine))

pub syscalls-keep-account : SyscallsKeepAccount
syscalls-keep-account items = record {
  budget = λ machine. (syscall-keeps items machine).budget;
  cycles = λ machine. (syscall-keeps items machine).cycles;
  within = λ machine. (syscall-keeps items machine).within;
}
