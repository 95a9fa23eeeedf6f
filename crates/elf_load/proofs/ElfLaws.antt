-- What stands in memory after a file was loaded.
use Rattle.std.proofs.Common.{◌≡◌, ℕ, ◌+◌, ◌-◌, ◌<◌, ◌≤◌, ltb, Bool, true, false, List, [], ◌∷◌, ◌++◌, length, drop, replicate, get_or, slice_range, fold, Option, Some, None, Ok, if◌then◌else◌, refl, ap, ◌∙◌, arith, inl, inr}
use Rattle.std.proofs.lemmas.Bool.{cases_lt}
use Rattle.std.proofs.lemmas.Bool.Decides.{nat_tests}
use Rattle.std.proofs.lemmas.List.{get_or-append_right, get_or-drop, get_or-replicate, get_or-take, get_or_append_left, length-append, length-replicate}
use Rattle.machine_defs.specs.Memory.{Memory, memory_size, new_memory}
use Rattle.machine_defs.specs.Elf.{Program, Segment, broken_elf, broken_segment, broken_segments, contents, load_elf, program_of, segments, unless_broken, with_segment}
use Rattle.elf_load.specs.Laws.{LastSegmentCounts, byte_of, byte_or, covers, last_covering}
use Rattle.elf_load.proofs.InMemory.{in-memory, length-inside}
use Rattle.machine_defs.proofs.CodeLaws.{get_or-before, get_or-after, get_or-written, length-overwritten}
use Rattle.elf_load.proofs.Segments.{Sound, both-none, sound-of_none, sound-parts}

-- ---- one segment

length-contents : (file : List ℕ) (earlier : List Segment) (s : Segment) → Sound file earlier s → length (contents file s) ≡ s.memory_size
unfolding contents
length-contents file earlier s sound =
    let front = length-inside file s.offset s.file_size sound.in_file in
    let zeros = length-replicate {A = ℕ} (s.memory_size - s.file_size) 0 in
    length-append (slice_range file s.offset (s.offset + s.file_size)) (replicate (s.memory_size - s.file_size) 0)
    ∙ omega (arith, front, zeros, sound.sizes)

-- a byte of the file
in-file : (file : List ℕ) (earlier : List Segment) (s : Segment) (k : ℕ) → Sound file earlier s → k < s.file_size
    → get_or (contents file s) k 0 ≡ get_or file (s.offset + k) 0
unfolding contents
in-file file earlier s k sound below =
    let front = length-inside file s.offset s.file_size sound.in_file in
    let size : s.offset + s.file_size - s.offset ≡ s.file_size = omega arith in
    get_or_append_left (slice_range file s.offset (s.offset + s.file_size)) (replicate (s.memory_size - s.file_size) 0) 0 k (omega (arith, front, below))
    ∙ get_or-take (s.offset + s.file_size - s.offset) (drop s.offset file) k 0 (omega (arith, size, below))
    ∙ get_or-drop s.offset file k 0

-- a zero after them
behind-file : (file : List ℕ) (earlier : List Segment) (s : Segment) (k : ℕ) → Sound file earlier s → s.file_size ≤ k → k < s.memory_size
    → get_or (contents file s) k 0 ≡ 0
unfolding contents
behind-file file earlier s k sound from below =
    get_or-append_right (slice_range file s.offset (s.offset + s.file_size)) (replicate (s.memory_size - s.file_size) 0) s.file_size k 0
    (length-inside file s.offset s.file_size sound.in_file) from
    ∙ get_or-replicate (s.memory_size - s.file_size) (k - s.file_size) 0 0 (omega (arith, from, below))

content-byte : (file : List ℕ) (earlier : List Segment) (s : Segment) (at : ℕ) → Sound file earlier s → s.address ≤ at → at < s.address + s.memory_size
    → get_or (contents file s) (at - s.address) 0 ≡ byte_of file at s
content-byte file earlier s at sound low high = elim (cases_lt (at - s.address) s.file_size) [
  | inl of_file ↦
      let test : ltb (at - s.address) s.file_size ≡ true = grind (arith, nat_tests, of_file) in
      rw test (in-file file earlier s (at - s.address) sound of_file)
  | inr behind ↦
      let test : ltb (at - s.address) s.file_size ≡ false = grind (arith, nat_tests, behind) in
      rw test (behind-file file earlier s (at - s.address) sound behind (omega (arith, low, high)))
]

-- memory with a segment, as long as it was
length-with : (file : List ℕ) (earlier : List Segment) (s : Segment) (memory : Memory) → Sound file earlier s → length memory.bytes ≡ memory_size
    → length (with_segment file memory s).bytes ≡ memory_size
unfolding with_segment memory_size
length-with file earlier s memory sound whole =
    let room = in-memory s.address s.memory_size sound.in_memory in
    let size = length-contents file earlier s sound in
    length-overwritten memory.bytes s.address (contents file s) (omega (arith, room, size, whole)) ∙ whole

byte-with : (file : List ℕ) (earlier : List Segment) (s : Segment) (memory : Memory) (at : ℕ) → Sound file earlier s → length memory.bytes ≡ memory_size
    → get_or (with_segment file memory s).bytes at 0 ≡ (if covers at s then byte_of file at s else get_or memory.bytes at 0)
unfolding with_segment memory_size
byte-with file earlier s memory at sound whole =
    let room = in-memory s.address s.memory_size sound.in_memory in
    let size = length-contents file earlier s sound in
    let start : s.address ≤ length memory.bytes = omega (arith, room, whole) in
    elim (cases_lt at s.address) [
      | inl before ↦
          let test : covers at s ≡ false = grind (arith, nat_tests, before) in
          rw test (get_or-before memory.bytes s.address (contents file s) at 0 start before)
      | inr from ↦ elim (cases_lt at (s.address + s.memory_size)) [
        | inl within ↦
            let test : covers at s ≡ true = grind (arith, nat_tests, from, within) in
            rw test
            (get_or-written memory.bytes s.address (contents file s) at 0 start from (omega (arith, within, size))
            ∙ content-byte file earlier s at sound from within)
        | inr behind ↦
            let test : covers at s ≡ false = grind (arith, nat_tests, behind) in
            rw test (get_or-after memory.bytes s.address (contents file s) at 0 start (omega (arith, behind, size)))
      ]
    ]

-- ---- all of them

-- the last of one segment and later ones
last-of : (file : List ℕ) (at byte first : ℕ) (s : Segment) (later : Option Segment)
    → first ≡ (if covers at s then byte_of file at s else byte)
    → byte_or first file at later
    ≡ byte_or byte file at (elim later [ Some last ↦ Some last | None ↦ if covers at s then Some s else None ])
last-of file at byte first s (Some last) is = refl
last-of file at byte first s None is = is ∙ by-test (covers at s)
  where
    by-test : (test : Bool) → (if test then byte_of file at s else byte) ≡ byte_or byte file at (if test then Some s else None)
    by-test true = refl
    by-test false = refl

byte-folded : (file : List ℕ) (earlier later : List Segment) (memory : Memory) (at : ℕ) → broken_segments file earlier later ≡ None
    → length memory.bytes ≡ memory_size
    → get_or (fold (with_segment file) memory later).bytes at 0 ≡ byte_or (get_or memory.bytes at 0) file at (last_covering at later)
unfolding broken_segments
byte-folded file earlier [] memory at none whole = refl
byte-folded file earlier (s ∷ later) memory at none whole =
    let parts = both-none (broken_segment file earlier s) (broken_segments file (earlier ++ s ∷ []) later) none in
    let sound = sound-of_none file earlier s parts.0 in
    byte-folded file (earlier ++ s ∷ []) later (with_segment file memory s) at parts.1 (length-with file earlier s memory sound whole)
    ∙ last-of file at (get_or memory.bytes at 0) (get_or (with_segment file memory s).bytes at 0) s (last_covering at later)
    (byte-with file earlier s memory at sound whole)

new-size : length new_memory.bytes ≡ memory_size
unfolding new_memory
new-size = length-replicate {A = ℕ} memory_size 0

new-byte : (at : ℕ) → at < memory_size → get_or new_memory.bytes at 0 ≡ 0
unfolding new_memory
new-byte at below = get_or-replicate memory_size at 0 0 below

held : (condition : Option ℕ) (program other : Program) → unless_broken condition program ≡ Ok other → (condition ≡ None) × (other ≡ program)
held (Some condition) program other e = absurd cc
held None program other e = (refl, cc)

loaded : (file : List ℕ) (program : Program) → load_elf file ≡ Ok program → (broken_elf file ≡ None) × (program ≡ program_of file)
unfolding load_elf
loaded file program e = held (broken_elf file) (program_of file) program e

program-bytes : (file : List ℕ) → (program_of file).memory ≡ fold (with_segment file) new_memory (segments file)
unfolding program_of
program-bytes file = refl

pub last-segment-counts : LastSegmentCounts
last-segment-counts file program at loads below =
    let parts = loaded file program loads in
    ap (λ (p : Program). get_or p.memory.bytes at 0) parts.1
    ∙ ap (λ (memory : Memory). get_or memory.bytes at 0) (program-bytes file)
    ∙ byte-folded file [] (segments file) new_memory at (sound-parts file parts.0).1 new-size
    ∙ ap (λ byte. byte_or byte file at (last_covering at (segments file))) (new-byte at below)
