-- How a file is judged segment by segment, and what a file that was judged is.
use Rattle.std.specs.Prelude.{◌≡◌, ℕ, ◌<◌, ◌≤◌, ◌^◌, nat_lt, nat_le, ◌&&◌, Bool, true, false, List, [], ◌∷◌, ◌++◌, length, slice_index_or, sum_by, Option, Some, None, Result, Ok, Err, if◌then◌else◌}
use Rattle.std.specs.List.{list_any}
use Rattle.machine_defs.specs.declared.memory.PageKind.{PageKind}
use Rattle.machine_defs.specs.declared.memory.PageKind.TheVariants.{Data, Code}
use Rattle.machine_defs.specs.Memory.{page_count}
use Rattle.machine_defs.specs.Elf.{Program, Segment, broken_elf, broken_segment, broken_segments, can_run, first_page, is_loaded, last_page, program_of, segment_at, segments}

-- the segment of the program header at an offset, if it is one that is loaded
abbrev pub loaded_at : List ℕ → ℕ → Option Segment
loaded_at file at = if is_loaded file at then Some (segment_at file at) else None

-- ---- the pages that segments touch

abbrev pub kind_of : Segment → PageKind
kind_of segment = if can_run segment then Code else Data

abbrev pub touches : ℕ → Segment → Bool
touches page segment = nat_lt 0 segment.memory_size && nat_le (first_page segment) page && nat_le page (last_page segment)

abbrev pub makes_code : ℕ → Segment → Bool
makes_code page segment = touches page segment && can_run segment

-- the kind of a page that segments touch, and none where none does
unfoldable pub kind_after : List Segment → ℕ → Option PageKind
kind_after segments page =
    if list_any (makes_code page) segments then Some Code
    else if list_any (touches page) segments then Some Data
    else None

-- a page of that kind is closed to a further segment, which can run or cannot
abbrev pub is_closed : Bool → Option PageKind → Bool
is_closed can_run None = false
is_closed can_run (Some Data) = can_run
is_closed can_run (Some Code) = true

-- a table by page has the kinds
pub record Marks (table : List (Option PageKind)) (segments : List Segment) : Type 0 where
  pub size : length table ≡ page_count
  pub kinds : (page : ℕ) → page < page_count → slice_index_or table page None ≡ kind_after segments page

-- ---- one segment, and all of them

abbrev pub JudgesSegment : List ℕ → List Segment → Segment → List (Option PageKind) → Result (Unit {0}) ℕ → Type 0
JudgesSegment file earlier segment table (Ok done) =
    (broken_segment file earlier segment ≡ None) × Marks table (earlier ++ segment ∷ [])
JudgesSegment file earlier segment table (Err condition) = broken_segment file earlier segment ≡ Some condition

abbrev pub JudgesSegments : List ℕ → Result ℕ ℕ → Type 0
JudgesSegments file (Ok file_bytes) =
    (broken_segments file [] (segments file) ≡ None) × (file_bytes ≡ sum_by (λ segment. segment.file_size) (segments file))
JudgesSegments file (Err condition) = broken_segments file [] (segments file) ≡ Some condition

-- what contracts see of a file that was judged: the program that it holds, and the segments that make it up
pub record JudgedFile : Type 0 where
  pub program : Program
  pub segments : List Segment

-- the program, or the number of the first condition that the file meets
abbrev pub program_in : Result JudgedFile ℕ → Result Program ℕ
program_in (Ok judged) = Ok judged.program
program_in (Err condition) = Err condition

-- the file holds a program, whose segments have so many bytes in it
pub record IsJudged (file : List ℕ) (file_bytes : ℕ) : Type 0 where
  pub sound : broken_elf file ≡ None
  pub bytes : file_bytes ≡ (program_of file).file_bytes
  pub bound : file_bytes ≤ 2 ^ 38
