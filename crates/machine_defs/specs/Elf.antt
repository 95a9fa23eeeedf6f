-- A program as an ELF file, and the memory that it is loaded into (ELF-64 Object File Format, "ELF Header" and
-- "Program Header Table"; RFC 0003 for what the machine runs). Numbers are little-endian. What is not named here
-- is not looked at.
use Rattle.std.specs.Prelude.{ℕ, zero, suc, ◌+◌, ◌-◌, ◌*◌, ◌/◌, ◌==◌, nat_lt, nat_le, ◌&&◌, ◌||◌, not, Bool, bit_and, List, [], ◌∷◌, ◌++◌, length, take, replicate, slice_range, sum_by, fold, Option, Some, None, Result, Ok, Err, if◌then◌else◌}
use Rattle.std.specs.List.{list_any}
use Rattle.std.specs.Str.{bytes_eq}
use Rattle.machine_defs.specs.declared.memory.PageKind.{PageKind}
use Rattle.machine_defs.specs.declared.memory.PageKind.TheVariants.{Code}
use Rattle.machine_defs.specs.Memory.{Memory, page_size, number_of, overwritten, is_out_of_range, new_memory}

-- the number in so many bytes of the file from an offset on
unfoldable pub field : List ℕ → ℕ → ℕ → ℕ
field file offset count = number_of (slice_range file offset (offset + count))

-- The end of so many bytes from an offset on is at most the file's. The place is looked at also where they are none.
unfoldable pub is_inside : List ℕ → ℕ → ℕ → Bool
is_inside file offset count = nat_le (offset + count) (length file)

-- ---- the file's header

abbrev pub header_size : ℕ
header_size = 64

abbrev pub magic : List ℕ
magic = 0x7f ∷ 0x45 ∷ 0x4c ∷ 0x46 ∷ []

-- of 64 bits, little-endian, and for RISC-V
abbrev pub is_for_machine : List ℕ → Bool
is_for_machine file = field file 4 1 == 2 && field file 5 1 == 1 && field file 18 2 == 243

abbrev pub e_entry : List ℕ → ℕ
e_entry file = field file 24 8

abbrev pub e_phoff : List ℕ → ℕ
e_phoff file = field file 32 8

abbrev pub e_phentsize : List ℕ → ℕ
e_phentsize file = field file 54 2

abbrev pub e_phnum : List ℕ → ℕ
e_phnum file = field file 56 2

abbrev pub program_header_size : ℕ
program_header_size = 56

-- Program headers have 56 bytes each, if there are any, and their table lies inside the file, also where it has none.
abbrev pub has_table : List ℕ → Bool
has_table file =
    (e_phnum file == 0 || e_phentsize file == program_header_size)
    && is_inside file (e_phoff file) (program_header_size * e_phnum file)

-- ---- segments: what the program headers of type PT_LOAD say

pub record Segment : Type 0 where
  pub flags : ℕ
  -- its bytes in the file
  pub offset : ℕ
  pub file_size : ℕ
  -- its bytes in memory
  pub address : ℕ
  pub memory_size : ℕ

abbrev pub is_loaded : List ℕ → ℕ → Bool
is_loaded file at = field file at 4 == 1

unfoldable pub segment_at : List ℕ → ℕ → Segment
segment_at file at = record {
  flags = field file (at + 4) 4;
  offset = field file (at + 8) 8;
  file_size = field file (at + 32) 8;
  address = field file (at + 16) 8;
  memory_size = field file (at + 40) 8;
}

-- the segments of so many program headers, of which the first is at an offset
unfoldable pub segments_from : ℕ → List ℕ → ℕ → List Segment
segments_from zero file at = []
segments_from (suc count) file at =
    let others = segments_from count file (at + program_header_size) in
    if is_loaded file at then segment_at file at ∷ others else others

abbrev pub segments : List ℕ → List Segment
segments file = segments_from (e_phnum file) file (e_phoff file)

-- the flags PF_X, PF_W and PF_R
abbrev pub has_flag : ℕ → Segment → Bool
has_flag flag segment = not (bit_and segment.flags flag == 0)

abbrev pub can_run : Segment → Bool
can_run segment = has_flag 1 segment

abbrev pub can_be_written : Segment → Bool
can_be_written segment = has_flag 2 segment

abbrev pub can_be_read : Segment → Bool
can_be_read segment = has_flag 4 segment

-- ---- the pages that a segment touches: from that of its first byte to that of its last, and none where it is empty

unfoldable pub first_page : Segment → ℕ
first_page segment = segment.address / page_size

unfoldable pub last_page : Segment → ℕ
last_page segment = (segment.address + segment.memory_size - 1) / page_size

unfoldable pub page_span : Segment → ℕ
page_span segment = if segment.memory_size == 0 then 0 else last_page segment - first_page segment + 1

unfoldable pub share_a_page : Segment → Segment → Bool
share_a_page segment other =
    nat_lt 0 segment.memory_size && nat_lt 0 other.memory_size
    && nat_le (first_page segment) (last_page other) && nat_le (first_page other) (last_page segment)

-- Segments of data may share pages. Code has its pages alone.
abbrev pub clashes : Segment → Segment → Bool
clashes segment earlier = share_a_page segment earlier && (can_run segment || can_run earlier)

-- ---- what is wrong with a file: the number of the first condition that holds, as `bad elf` names it

unfoldable pub broken_header : List ℕ → Option ℕ
broken_header file =
    if nat_lt (length file) header_size then Some 1
    else if not (bytes_eq (take 4 file) magic) then Some 2
    else if not (is_for_machine file) then Some 3
    else if not (has_table file) then Some 4
    else None

-- of a segment after earlier ones
unfoldable pub broken_segment : List ℕ → List Segment → Segment → Option ℕ
broken_segment file earlier segment =
    if not (can_be_read segment) || (can_run segment && can_be_written segment) then Some 5
    else if nat_lt segment.memory_size segment.file_size || not (is_inside file segment.offset segment.file_size) then Some 6
    else if is_out_of_range segment.address segment.memory_size then Some 7
    else if list_any (clashes segment) earlier then Some 8
    else None

abbrev pub first_of : Option ℕ → Option ℕ → Option ℕ
first_of (Some condition) later = Some condition
first_of None later = later

-- of each segment in turn, after earlier ones
unfoldable pub broken_segments : List ℕ → List Segment → List Segment → Option ℕ
broken_segments file earlier [] = None
broken_segments file earlier (segment ∷ later) =
    first_of (broken_segment file earlier segment) (broken_segments file (earlier ++ segment ∷ []) later)

abbrev pub broken_elf : List ℕ → Option ℕ
broken_elf file = first_of (broken_header file) (broken_segments file [] (segments file))

-- ---- what is loaded

-- its bytes in the file, and zeros up to its size in memory
unfoldable pub contents : List ℕ → Segment → List ℕ
contents file segment =
    slice_range file segment.offset (segment.offset + segment.file_size)
    ++ replicate (segment.memory_size - segment.file_size) 0

abbrev pub kinds_with : List PageKind → Segment → List PageKind
kinds_with kinds segment =
    if can_run segment then overwritten kinds (first_page segment) (replicate (page_span segment) Code) else kinds

-- A later segment's bytes stand over those of an earlier one. The pages of one that can run become code.
unfoldable pub with_segment : List ℕ → Memory → Segment → Memory
with_segment file memory segment = record {
  bytes = overwritten memory.bytes segment.address (contents file segment);
  kinds = kinds_with memory.kinds segment;
}

pub record Program : Type 0 where
  pub memory : Memory
  -- where it begins
  pub pc : ℕ
  -- how many bytes its segments have in the file, all together
  pub file_bytes : ℕ

unfoldable pub program_of : List ℕ → Program
program_of file = record {
  memory = fold (with_segment file) new_memory (segments file);
  pc = e_entry file;
  file_bytes = sum_by (λ segment. segment.file_size) (segments file);
}

abbrev pub unless_broken : Option ℕ → Program → Result Program ℕ
unless_broken (Some condition) program = Err condition
unless_broken None program = Ok program

-- the program that a file holds, or the number of the first condition that it meets
unfoldable pub load_elf : List ℕ → Result Program ℕ
load_elf file = unless_broken (broken_elf file) (program_of file)
