-- Loads and stores beside one another (RISC-V Unprivileged ISA, "Load and Store Instructions").
use Rattle.std.specs.Prelude.{◌≡◌, ◌⊎◌, ℕ, ◌+◌, ◌%◌, ◌^◌, ◌≤◌, List, length, Ok}
use Rattle.machine_defs.specs.Memory.{Memory, bytes_of, load, memory_size, store}

-- A load gives back what was stored at the same place: the low bytes of the number.
abbrev pub LoadsWhatWasStored : Type 0
LoadsWhatWasStored = (old new : Memory) (at count number : ℕ) → length old.bytes ≡ memory_size
    → store old at (bytes_of count number) ≡ Ok new → load new at count ≡ Ok (number % 256 ^ count)

-- A load elsewhere, before the bytes that were stored or after them, gives what it gave.
abbrev pub StoreLeavesTheRest : Type 0
StoreLeavesTheRest = (old new : Memory) (at : ℕ) (bytes : List ℕ) (place count : ℕ) → length old.bytes ≡ memory_size
    → store old at bytes ≡ Ok new → (place + count ≤ at) ⊎ (at + length bytes ≤ place) → load new place count ≡ load old place count
