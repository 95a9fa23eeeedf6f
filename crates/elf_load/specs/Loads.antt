-- What loading answers.
use Rattle.std.specs.Prelude.{◌≡◌, ℕ, ◌<◌, Bool, List, Result, Ok, Err}
use Rattle.machine_defs.specs.Memory.{Memory, page_count}
use Rattle.machine_defs.specs.Elf.{Program}
use Rattle.vm_mem.specs.Pages.{IsAllocated}
use Rattle.elf_load.specs.declared.loader.Entry.{Entry}
use Rattle.elf_load.specs.declared.stop.ElfStop.{ElfStop}
use Rattle.elf_load.specs.declared.stop.ElfStop.TheVariants.{Bad, NoMemory}

-- What the file holds, by the definitions; memory afterwards; the answer. Out of memory comes only where the file holds
-- a program with bytes to be placed.
abbrev pub Loads : Result Program ℕ → Memory → Result Entry ElfStop → Type 0
Loads (Ok program) memory (Ok entry) =
    (program.memory ≡ memory) × (program.pc ≡ entry.pc) × (program.file_bytes ≡ entry.file_bytes)
Loads (Ok program) memory (Err NoMemory) = 0 < program.file_bytes
Loads (Ok program) memory (Err (Bad number)) = ⊥
Loads (Err condition) memory (Ok entry) = ⊥
Loads (Err condition) memory (Err NoMemory) = ⊥
Loads (Err condition) memory (Err (Bad number)) = number ≡ condition

-- each page is allocated
abbrev pub AllAllocated : List Bool → Type 0
AllAllocated allocated = (page : ℕ) → page < page_count → IsAllocated allocated page
