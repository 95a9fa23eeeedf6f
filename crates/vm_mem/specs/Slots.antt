-- Instructions that were decoded. Code is never written again, so that one stays right for the life of the memory.
use Rattle.std.specs.Prelude.{◌≡◌, ◌≢◌, ◌⊎◌, ℕ, ◌+◌, ◌/◌, ◌%◌, ◌≤◌, List, length, slice_index_or, Some, Ok, bit_and}
use Rattle.machine_defs.specs.Instruction.{HasRegisters}
use Rattle.machine_defs.specs.Memory.{Memory}
use Rattle.machine_defs.specs.Code.{IsWhole, instruction_at}
use Rattle.vm_mem.specs.Kept.{instruction_of}
use Rattle.vm_mem.specs.declared.slot.Slot.{Slot}

-- Slots, and the place of the last of them.
pub record Table : Type 0 where
  pub slots : List Slot
  pub mask : ℕ

-- The slot that an address falls to: slots are as many as a power of two, so that the last one's place masks a number.
abbrev pub slot_of : ℕ → ℕ → ℕ
slot_of mask at = bit_and (at / 2) mask

-- There are so many slots, and each of them is as said of its place.
pub record AreSlots (Is : ℕ → Slot → Type 0) (table : Table) : Type 0 where
  pub count : length table.slots ≡ table.mask + 1
  pub each : (i : ℕ) (other : Slot) → i ≤ table.mask → Is i (slice_index_or table.slots i other)

-- A slot whose address falls to another is empty.
abbrev pub AreEmpty : Table → Type 0
AreEmpty table = AreSlots (λ i slot. slot_of table.mask slot.at ≢ i) table

-- A slot has the instruction at its address, which is even, and the instruction's length.
pub record IsKept (memory : Memory) (slot : Slot) : Type 0 where
  pub even : slot.at % 2 ≡ 0
  pub is : instruction_at memory slot.at ≡ Ok (Some (instruction_of slot.kept, slot.length))
  pub registers : HasRegisters (instruction_of slot.kept)
  pub length : (slot.length ≡ 2) ⊎ (slot.length ≡ 4)

-- One that is not empty has what is at its address.
abbrev pub Holds : Memory → ℕ → ℕ → Slot → Type 0
Holds memory mask i slot = slot_of mask slot.at ≡ i → IsKept memory slot

-- A memory that is whole, and slots that are right for it.
pub record Holding (memory : Memory) (table : Table) : Type 0 where
  pub whole : IsWhole memory
  pub held : AreSlots (Holds memory table.mask) table
