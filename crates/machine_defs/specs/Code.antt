-- What is run: the instruction at an address, and that it stays as it is, since no page is written and run (RFC 0003,
-- "W^X Memory").
use Rattle.std.specs.Prelude.{◌≡◌, ℕ, List, length, Option, Result, Ok, Err}
use Rattle.machine_defs.specs.declared.ins.Ins.{Ins}
use Rattle.machine_defs.specs.Decode.{decode}
use Rattle.machine_defs.specs.declared.memory.MemFault.{MemFault}
use Rattle.machine_defs.specs.Memory.{Memory, memory_size, page_count, fetch, store, set_code}

abbrev pub decoded : Result ℕ MemFault → Result (Option (Ins × ℕ)) MemFault
decoded (Ok word) = Ok (decode word)
decoded (Err fault) = Err fault

-- the instruction at an address with its length, or none where the word there encodes none
unfoldable pub instruction_at : Memory → ℕ → Result (Option (Ins × ℕ)) MemFault
instruction_at memory at = decoded (fetch memory at)

-- each byte is there, and the kind of each page
pub record IsWhole (memory : Memory) : Type 0 where
  pub bytes : length memory.bytes ≡ memory_size
  pub kinds : length memory.kinds ≡ page_count

-- A word that can be fetched is the same after any store.
abbrev pub StoreKeepsCode : Type 0
StoreKeepsCode = (old new : Memory) (at word place : ℕ) (bytes : List ℕ) → IsWhole old → fetch old at ≡ Ok word
    → store old place bytes ≡ Ok new → fetch new at ≡ Ok word

-- and after any set_code
abbrev pub SetCodeKeepsCode : Type 0
SetCodeKeepsCode = (old new : Memory) (at word place pages : ℕ) → IsWhole old → fetch old at ≡ Ok word
    → set_code old place pages ≡ Ok new → fetch new at ≡ Ok word
