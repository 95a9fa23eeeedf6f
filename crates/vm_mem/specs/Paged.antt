-- What contracts see of a `Memory`: the machine's memory, and which of its pages are allocated.
use Rattle.std.specs.Prelude.{◌≡◌, ℕ, ◌+◌, ◌/◌, ◌%◌, ◌<◌, ◌≤◌, Bool, List, slice_index_or, Result, Ok, Err}
use Rattle.machine_defs.specs.Memory.{Memory, memory_size, page_size}
use Rattle.machine_defs.specs.declared.memory.PageKind.TheVariants.{Data}
use Rattle.machine_defs.specs.declared.memory.MemFault.{MemFault}
use Rattle.vm_mem.specs.declared.stop.MemStop.{MemStop}
use Rattle.vm_mem.specs.declared.stop.MemStop.TheVariants.{Fault, NoMemory}
use Rattle.vm_mem.specs.Pages.{IsAllocated}

pub record PagedMemory : Type 0 where
  pub memory : Memory
  pub allocated : List Bool

-- A store: what the machine's memory is to become, or the fault; memory before and after; the answer. A
-- fault is found before memory is taken, and a refused store leaves each byte as it was.
abbrev pub Stores : Result Memory MemFault → Memory → Memory → Result (Unit {0}) MemStop → Type 0
Stores (Ok stored) old new (Ok done) = new ≡ stored
Stores (Ok stored) old new (Err NoMemory) = new ≡ old
Stores (Ok stored) old new (Err (Fault fault)) = ⊥
Stores (Err expected) old new (Ok done) = ⊥
Stores (Err expected) old new (Err NoMemory) = ⊥
Stores (Err expected) old new (Err (Fault fault)) = (fault ≡ expected) × (new ≡ old)

-- Bytes at an address that lie in one page of data that is allocated.
pub record IsReady (paged : PagedMemory) (at count : ℕ) : Type 0 where
  pub inside : at < memory_size
  pub within : at % page_size + count ≤ page_size
  pub data_page : slice_index_or paged.memory.kinds (at / page_size) Data ≡ Data
  pub allocated : IsAllocated paged.allocated (at / page_size)
