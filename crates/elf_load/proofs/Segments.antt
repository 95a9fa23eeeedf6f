-- The segments of a file, one after another.
use Rattle.std.proofs.Common.{◌≡◌, ℕ, suc, ◌+◌, ◌-◌, ◌*◌, ◌<◌, ◌≤◌, Bool, true, false, ◌||◌, not, nat_lt, List, [], ◌∷◌, ◌++◌, length, Option, Some, None, Ok, Err, if◌then◌else◌, fold, sum_by, refl, sym, ◌∙◌, ap, subst, arith, inl, inr}
use Rattle.std.specs.List.{list_any}
use Rattle.std.proofs.lemmas.Bool.{cases_lt}
use Rattle.std.proofs.lemmas.Bool.Decides.{nat_tests}
use Rattle.std.proofs.lemmas.List.{append-nil, append_assoc}
use Rattle.machine_defs.specs.declared.memory.PageKind.{PageKind}
use Rattle.machine_defs.specs.Memory.{Memory, is_code, is_out_of_range, kinds_under, new_memory, page_count}
use Rattle.machine_defs.specs.Elf.{Segment, broken_elf, broken_header, broken_segment, broken_segments, clashes, first_of, first_page, has_table, header_size, is_inside, is_loaded, last_page, load_elf, page_span, program_header_size, program_of, segment_at, segments, segments_from, with_segment}
use Rattle.elf_load.specs.Judging.{JudgesSegment, JudgesSegments, Marks, loaded_at}
use Rattle.elf_load.specs.Placing.{HasCode}
use Rattle.elf_load.proofs.InMemory.{in-memory, is-zero, ne-zero, no_code-under}
use Rattle.elf_load.proofs.Touching.{code-more, code-none}

-- ---- what a sound segment is

pub record Sound (file : List ℕ) (earlier : List Segment) (s : Segment) : Type 0 where
  pub in_file : is_inside file s.offset s.file_size ≡ true
  pub sizes : s.file_size ≤ s.memory_size
  pub in_memory : is_out_of_range s.address s.memory_size ≡ false
  pub apart : list_any (clashes s) earlier ≡ false

-- the tests of a segment, in their order
abbrev tested : Bool → Bool → Bool → Bool → Bool → Option ℕ
tested flags sizes inside range clash =
    if flags then Some 5 else if sizes || not inside then Some 6 else if range then Some 7 else if clash then Some 8 else None

all-pass : (flags sizes inside range clash : Bool) → tested flags sizes inside range clash ≡ None
    → (sizes ≡ false) × (inside ≡ true) × (range ≡ false) × (clash ≡ false)
all-pass true sizes inside range clash h = absurd cc
all-pass false true inside range clash h = absurd cc
all-pass false false false range clash h = absurd cc
all-pass false false true true clash h = absurd cc
all-pass false false true false true h = absurd cc
all-pass false false true false false h = (refl, refl, refl, refl)

pub sound-of_none : (file : List ℕ) (earlier : List Segment) (s : Segment) → broken_segment file earlier s ≡ None → Sound file earlier s
unfolding broken_segment
sound-of_none file earlier s h =
    let parts = all-pass _ (nat_lt s.memory_size s.file_size) (is_inside file s.offset s.file_size) (is_out_of_range s.address s.memory_size)
    (list_any (clashes s) earlier) h in
    let sizes = parts.0 in
    record { in_file = parts.1; sizes = grind (arith, nat_tests); in_memory = parts.2; apart = parts.3 }

pub pages-within : (s : Segment) → is_out_of_range s.address s.memory_size ≡ false → first_page s + page_span s ≤ page_count
unfolding first_page last_page page_span page_count
pages-within s h =
    let room = in-memory s.address s.memory_size h in
    elim (cases_lt 0 s.memory_size) [
      | inl some ↦ rw (ne-zero s.memory_size some) (omega (arith, room, some))
      | inr none ↦ rw (is-zero s.memory_size none) (omega (arith, room))
    ]

-- ---- the program headers one after another

-- what the next program header adds
pub record IsNext (found : Option Segment) (rest others : List Segment) : Type 0 where
  pub loaded : (s : Segment) → found ≡ Some s → rest ≡ s ∷ others
  pub passed : found ≡ None → rest ≡ others

by-test : (test : Bool) (s : Segment) (others : List Segment) → IsNext (if test then Some s else None) (if test then s ∷ others else others) others
by-test true s others = record { loaded = λ s' is. ap (λ s. s ∷ others) cc; passed = λ is. absurd cc }
by-test false s others = record { loaded = λ s' is. absurd cc; passed = λ is. refl }

rest-next : (file : List ℕ) (count at : ℕ) → IsNext (loaded_at file at) (segments_from (suc count) file at) (segments_from count file (at + program_header_size))
unfolding segments_from
rest-next file count at = by-test (is_loaded file at) (segment_at file at) (segments_from count file (at + program_header_size))

pub both-none : (first later : Option ℕ) → first_of first later ≡ None → (first ≡ None) × (later ≡ None)
both-none (Some condition) later h = absurd cc
both-none None later h = (refl, h)

-- ---- judging

-- how far a file is judged: what is left of it, and what stands of it
pub record Judging (file : List ℕ) (rest : List Segment) (table : List (Option PageKind)) (file_bytes : ℕ) : Type 0 where
  pub earlier : List Segment
  pub marks : Marks table earlier
  pub broken : broken_segments file [] (segments file) ≡ broken_segments file earlier rest
  pub bytes : sum_by (λ s. s.file_size) (segments file) ≡ fold (λ bytes s. bytes + s.file_size) file_bytes rest

pub judging-none : (file : List ℕ) (table : List (Option PageKind)) → Marks table [] → Judging file (segments file) table 0
judging-none file table marks = record { earlier = []; marks = marks; broken = refl; bytes = refl }

pub judging-more : (file : List ℕ) (s : Segment) (rest : List Segment) (table marked : List (Option PageKind)) (file_bytes : ℕ)
    → (j : Judging file (s ∷ rest) table file_bytes) → JudgesSegment file j.earlier s marked (Ok tt) → Judging file rest marked (file_bytes + s.file_size)
unfolding broken_segments
judging-more file s rest table marked file_bytes j sound =
    record {
      earlier = j.earlier ++ s ∷ [];
      marks = sound.1;
      broken = j.broken ∙ ap (λ first. first_of first (broken_segments file (j.earlier ++ s ∷ []) rest)) sound.0;
      bytes = j.bytes;
    }

pub judging-refused : (file : List ℕ) (s : Segment) (rest : List Segment) (table : List (Option PageKind)) (file_bytes condition : ℕ)
    → (j : Judging file (s ∷ rest) table file_bytes) → broken_segment file j.earlier s ≡ Some condition → JudgesSegments file (Err condition)
unfolding broken_segments
judging-refused file s rest table file_bytes condition j first =
    j.broken ∙ ap (λ first. first_of first (broken_segments file (j.earlier ++ s ∷ []) rest)) first

pub judging-all : (file : List ℕ) (table : List (Option PageKind)) (file_bytes : ℕ) → Judging file [] table file_bytes → JudgesSegments file (Ok file_bytes)
unfolding broken_segments
judging-all file table file_bytes j = (j.broken, sym j.bytes)

-- ---- placing

-- a sound segment has the pages that its bytes go to for itself
pub no_code-at : (file : List ℕ) (memory : Memory) (earlier : List Segment) (s : Segment) → HasCode memory earlier → broken_segment file earlier s ≡ None
    → list_any is_code (kinds_under memory s.address s.memory_size) ≡ false
no_code-at file memory earlier s has none = no_code-under memory earlier s has (sound-of_none file earlier s none).apart

-- where all segments are sound, so is each after the earlier ones
pub sound-at : (file : List ℕ) (before earlier : List Segment) (s : Segment) (rest : List Segment)
    → broken_segments file before (earlier ++ s ∷ rest) ≡ None → broken_segment file (before ++ earlier) s ≡ None
unfolding broken_segments
sound-at file before [] s rest sound =
    ap (λ earlier. broken_segment file earlier s) (append-nil before) ∙ (both-none (broken_segment file before s) _ sound).0
sound-at file before (first ∷ others) s rest sound =
    ap (λ earlier. broken_segment file earlier s) (sym (append_assoc before (first ∷ []) others))
    ∙ sound-at file (before ++ first ∷ []) others s rest (both-none (broken_segment file before first) _ sound).1

-- how far a file is placed: what is left of it, and what stands of it
pub record Placing (file : List ℕ) (rest : List Segment) (memory : Memory) : Type 0 where
  pub earlier : List Segment
  pub code : HasCode memory earlier
  pub all : segments file ≡ earlier ++ rest
  pub memory_is : fold (with_segment file) new_memory (segments file) ≡ fold (with_segment file) memory rest

pub placing-none : (file : List ℕ) (memory : Memory) → memory ≡ new_memory → Placing file (segments file) memory
placing-none file memory is = rw is (record { earlier = []; code = code-none; all = refl; memory_is = refl })

pub placing-sound : (file : List ℕ) (s : Segment) (rest : List Segment) (memory : Memory) → (p : Placing file (s ∷ rest) memory)
    → broken_segments file [] (segments file) ≡ None → broken_segment file p.earlier s ≡ None
placing-sound file s rest memory p sound = sound-at file [] p.earlier s rest (ap (broken_segments file []) (sym p.all) ∙ sound)

pub placing-more : (file : List ℕ) (s : Segment) (rest : List Segment) (old new : Memory) → (p : Placing file (s ∷ rest) old)
    → broken_segment file p.earlier s ≡ None → new ≡ with_segment file old s → Placing file rest new
unfolding with_segment
placing-more file s rest old new p none is =
    let sound = sound-of_none file p.earlier s none in
    record {
      earlier = p.earlier ++ s ∷ [];
      code = code-more old new p.earlier s p.code (pages-within s sound.in_memory) (ap (λ memory. memory.kinds) is);
      all = p.all ∙ sym (append_assoc p.earlier (s ∷ []) rest);
      memory_is = p.memory_is ∙ ap (λ memory. fold (with_segment file) memory rest) (sym is);
    }

-- a segment with bytes is one of a file with bytes
at-least : (bytes : ℕ) (xs : List Segment) → bytes ≤ fold (λ bytes s. bytes + s.file_size) bytes xs
at-least bytes [] = omega arith
at-least bytes (x ∷ xs) = let more = at-least (bytes + x.file_size) xs in omega (arith, more)

some-bytes : (bytes : ℕ) (earlier : List Segment) (s : Segment) (rest : List Segment) → 0 < s.file_size
    → 0 < fold (λ bytes s. bytes + s.file_size) bytes (earlier ++ s ∷ rest)
some-bytes bytes [] s rest some = let more = at-least (bytes + s.file_size) rest in omega (arith, more, some)
some-bytes bytes (first ∷ others) s rest some = some-bytes (bytes + first.file_size) others s rest some

pub placing-some : (file : List ℕ) (s : Segment) (rest : List Segment) (memory : Memory) → Placing file (s ∷ rest) memory → 0 < s.file_size
    → 0 < sum_by (λ s. s.file_size) (segments file)
placing-some file s rest memory p some =
    subst (λ all. 0 < fold (λ bytes s. bytes + s.file_size) 0 all) (sym p.all) (some-bytes 0 p.earlier s rest some)

-- ---- the program headers that are left

pub rest-step : (file : List ℕ) (count index at : ℕ) → index < count
    → IsNext (loaded_at file (at + program_header_size * index)) (segments_from (count - index) file (at + program_header_size * index))
    (segments_from (count - (index + 1)) file (at + program_header_size * (index + 1)))
rest-step file count index at h =
    let more : count - index ≡ suc (count - (index + 1)) = omega (arith, h) in
    let place : at + program_header_size * (index + 1) ≡ at + program_header_size * index + program_header_size = omega arith in
    rw (more, place) (rest-next file (count - (index + 1)) (at + program_header_size * index))

pub rest-all : (file : List ℕ) (count index at : ℕ) → count ≤ index → segments_from (count - index) file at ≡ []
unfolding segments_from
rest-all file count index at h =
    let none : count - index ≡ 0 = omega (arith, h) in
    rw none refl

-- a program header that is loaded is the first of what is left
pub rest-at : (file : List ℕ) (count index at : ℕ) → index < count → (found : Option Segment) (s : Segment)
    → found ≡ loaded_at file (at + program_header_size * index) → found ≡ Some s
    → segments_from (count - index) file (at + program_header_size * index) ≡ s ∷ segments_from (count - (index + 1)) file (at + program_header_size * (index + 1))
rest-at file count index at below found s is some = (rest-step file count index at below).loaded s (sym is ∙ some)

pub size-bound : (file : List ℕ) (earlier : List Segment) (s : Segment) → broken_segment file earlier s ≡ None → s.file_size ≤ 4194304
size-bound file earlier s none =
    let sound = sound-of_none file earlier s none in
    let sizes = sound.sizes in
    let room = in-memory s.address s.memory_size sound.in_memory in
    omega (arith, sizes, room)

-- ---- a sound header

pub record SoundHeader (file : List ℕ) : Type 0 where
  pub size : header_size ≤ length file
  pub table : has_table file ≡ true

abbrev tested-header : Bool → Bool → Bool → Bool → Option ℕ
tested-header short magic machine table =
    if short then Some 1 else if not magic then Some 2 else if not machine then Some 3 else if not table then Some 4 else None

all-pass-header : (short magic machine table : Bool) → tested-header short magic machine table ≡ None → (short ≡ false) × (table ≡ true)
all-pass-header true magic machine table h = absurd cc
all-pass-header false false machine table h = absurd cc
all-pass-header false true false table h = absurd cc
all-pass-header false true true false h = absurd cc
all-pass-header false true true true h = (refl, refl)

pub sound-header : (file : List ℕ) → broken_header file ≡ None → SoundHeader file
unfolding broken_header
sound-header file h =
    let parts = all-pass-header (nat_lt (length file) header_size) _ _ (has_table file) h in
    let long = parts.0 in
    record { size = grind (arith, nat_tests); table = parts.1 }

-- ---- the answer

pub sound-parts : (file : List ℕ) → broken_elf file ≡ None → (broken_header file ≡ None) × (broken_segments file [] (segments file) ≡ None)
sound-parts file sound = both-none (broken_header file) _ sound

pub judged-header : (file : List ℕ) (condition : ℕ) → broken_header file ≡ Some condition → Err condition ≡ load_elf file
unfolding load_elf
judged-header file condition h = rw h refl

pub judged-segments : (file : List ℕ) (condition : ℕ) → broken_header file ≡ None → JudgesSegments file (Err condition) → Err condition ≡ load_elf file
unfolding load_elf
judged-segments file condition sound broken = rw (sound, broken) refl

pub judged-sound : (file : List ℕ) → broken_header file ≡ None → broken_segments file [] (segments file) ≡ None → broken_elf file ≡ None
judged-sound file sound rest = rw (sound, rest) refl

pub judged-program : (file : List ℕ) → broken_elf file ≡ None → Ok (program_of file) ≡ load_elf file
unfolding load_elf
judged-program file sound = rw sound refl

pub judged-bytes : (file : List ℕ) (file_bytes : ℕ) → file_bytes ≡ sum_by (λ segment. segment.file_size) (segments file) → file_bytes ≡ (program_of file).file_bytes
unfolding program_of
judged-bytes file file_bytes is = is
