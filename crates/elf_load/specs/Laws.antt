-- What stands in memory after a file was loaded (ELF-64 Object File Format, "Program Header Table": segments in the order
-- of their headers).
use Rattle.std.specs.Prelude.{◌≡◌, ℕ, ◌+◌, ◌-◌, ◌<◌, nat_lt, nat_le, ◌&&◌, Bool, List, [], ◌∷◌, slice_index_or, Option, Some, None, Ok, if◌then◌else◌}
use Rattle.machine_defs.specs.Memory.{memory_size}
use Rattle.machine_defs.specs.Elf.{Program, Segment, load_elf, segments}

-- the segment has a byte at an address
abbrev pub covers : ℕ → Segment → Bool
covers at segment = nat_le segment.address at && nat_lt at (segment.address + segment.memory_size)

-- that byte: one of the file, or zero after those
abbrev pub byte_of : List ℕ → ℕ → Segment → ℕ
byte_of file at segment =
    if nat_lt (at - segment.address) segment.file_size then slice_index_or file (segment.offset + (at - segment.address)) 0 else 0

-- the last segment that covers an address
abbrev pub last_covering : ℕ → List Segment → Option Segment
last_covering at [] = None
last_covering at (segment ∷ later) =
    elim (last_covering at later) [ Some last ↦ Some last | None ↦ if covers at segment then Some segment else None ]

-- the byte of a segment, or what stands there if there is none
abbrev pub byte_or : ℕ → List ℕ → ℕ → Option Segment → ℕ
byte_or byte file at (Some segment) = byte_of file at segment
byte_or byte file at None = byte

-- Each byte of a program's memory is that of the last segment that covers it, and zero where none does.
abbrev pub LastSegmentCounts : Type 0
LastSegmentCounts = (file : List ℕ) (program : Program) (at : ℕ) → load_elf file ≡ Ok program → at < memory_size
    → slice_index_or program.memory.bytes at 0 ≡ byte_or 0 file at (last_covering at (segments file))
