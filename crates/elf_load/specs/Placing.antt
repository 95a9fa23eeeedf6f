-- A segment in memory, and the pages that segments take.
use Rattle.std.specs.Prelude.{◌≡◌, ◌↔◌, ◌⊎◌, ℕ, ◌<◌, Bool, List, [], ◌∷◌, length, slice_index_or}
use Rattle.std.specs.List.{list_any}
use Rattle.machine_defs.specs.declared.memory.PageKind.TheVariants.{Data}
use Rattle.machine_defs.specs.Memory.{Memory, is_code, overwritten, page_count}
use Rattle.machine_defs.specs.Elf.{Segment, contents, kinds_with}
use Rattle.vm_mem.specs.Pages.{IsAllocated, ReachesPage}
use Rattle.elf_load.specs.Judging.{makes_code}

-- memory has the pages of code of the segments, and no other
pub record HasCode (memory : Memory) (segments : List Segment) : Type 0 where
  pub size : length memory.kinds ≡ page_count
  pub code : (page : ℕ) → page < page_count → is_code (slice_index_or memory.kinds page Data) ≡ list_any (makes_code page) segments

-- memory with the bytes of a segment, and with its pages as code where it can run
abbrev pub with_contents : List ℕ → Memory → Segment → Memory
with_contents file memory segment =
    record memory { bytes = overwritten memory.bytes segment.address (contents file segment) }

abbrev pub with_code : Memory → Segment → Memory
with_code memory segment = record memory { kinds = kinds_with memory.kinds segment }

-- bytes of the file go to the page with one of the segments; the zeros after them do not count
abbrev pub HoldsBytes : ℕ → List Segment → Type 0
HoldsBytes page [] = ⊥
HoldsBytes page (segment ∷ later) = ReachesPage page segment.address segment.file_size ⊎ HoldsBytes page later

-- Those pages are allocated beside the ones that were, and no other.
abbrev pub Allocates : List Segment → List Bool → List Bool → Type 0
Allocates segments old new = (page : ℕ) → IsAllocated new page ↔ (IsAllocated old page ⊎ HoldsBytes page segments)
