use Rattle.std.proofs.Common.{◌≡◌, ◌+◌, ◌-◌, ◌*◌, ◌<◌, ℕ, List, ◌∷◌, None, sym, ◌∙◌, ap, subst, arith}
use Rattle.elf_load.proofs.placing.place_segments.Goals.{in-Some+in-Ok, in_default}
use Rattle.machine_defs.specs.Elf.{Segment, broken_segment, e_phnum, e_phoff, has_table, program_header_size, segments_from}
use Rattle.elf_load.specs.Judging.{loaded_at}
use Rattle.elf_load.proofs.Segments.{Placing, no_code-at, placing-more, placing-none, placing-some, placing-sound, rest-all, rest-at, rest-step, sound-header, sound-of_none, sound-parts}
use Rattle.elf_load.proofs.Allocating.{Allocating, allocating-all, allocating-more}
use Rattle.elf_load.proofs.placing.place_segments.Goals as goal

-- the segments of the program headers after one
abbrev left : List ℕ → ℕ → List Segment
left file index = segments_from (e_phnum file - (index + 1)) file (e_phoff file + program_header_size * (index + 1))

pub of-header-requires : goal.of-header-requires
of-header-requires c = (sound-header c.args.file.now (sound-parts c.args.file.now c.requires.sound).0).size

pub loop-index-init : goal.loop-index-init
loop-index-init c =
    let file = c.args.file.now in
    let count : e_phnum file - 0 ≡ e_phnum file = omega arith in
    let place : e_phoff file + 0 ≡ e_phoff file = omega arith in
    record {
      placing = rw (count, place) (placing-none file c.args.memory.now.memory c.requires.new);
      allocating = rw (count, place) (λ last all. all);
      pages_kept = λ allocated. allocated;
    }

pub segment-requires-clause-table : goal.segment-requires-clause-table
segment-requires-clause-table c = ap has_table c.of-header.ensures ∙ (sound-header c.args.file.now (sound-parts c.args.file.now c.requires.sound).0).table

-- what is left begins with the segment, which is sound
next : (c : goal.After-place-arg-1) → Placing c.args.file.now (c.in-Some.segment ∷ left c.args.file.now c.loop-index.index) c.loop-index.memory.memory
next c =
    let file = c.args.file.now in
    let index = c.loop-index.index in
    let below : index < e_phnum file = omega (arith, c.loop-index-test.true, c.e_phnum-count.ensures, ap e_phnum c.of-header.ensures) in
    let found = subst (λ (f : List ℕ). c.segment.result ≡ loaded_at f (e_phoff f + program_header_size * index)) c.of-header.ensures c.segment.ensures in
    subst (λ rest. Placing file rest c.loop-index.memory.memory)
    (rest-at file (e_phnum file) index (e_phoff file) below c.segment.result c.in-Some.segment found c.in-Some.is) c.loop-index.invariant.placing

next-sound : (c : goal.After-place-arg-1) → broken_segment c.args.file.now (next c).earlier c.in-Some.segment ≡ None
next-sound c = placing-sound c.args.file.now c.in-Some.segment _ c.loop-index.memory.memory (next c) (sound-parts c.args.file.now c.requires.sound).1

pub place-requires-clause-in_file : goal.place-requires-clause-in_file
place-requires-clause-in_file c = (sound-of_none c.args.file.now (next c).earlier c.in-Some.segment (next-sound c)).in_file

pub place-requires-clause-sizes : goal.place-requires-clause-sizes
place-requires-clause-sizes c = (sound-of_none c.args.file.now (next c).earlier c.in-Some.segment (next-sound c)).sizes

pub place-requires-clause-in_memory : goal.place-requires-clause-in_memory
place-requires-clause-in_memory c = (sound-of_none c.args.file.now (next c).earlier c.in-Some.segment (next-sound c)).in_memory

pub place-requires-clause-no_code : goal.place-requires-clause-no_code
place-requires-clause-no_code c = no_code-at c.args.file.now c.loop-index.memory.memory (next c).earlier c.in-Some.segment (next c).code (next-sound c)

pub returns-in-Err-clause-some : goal.returns-in-Err-clause-some
returns-in-Err-clause-some c =
    let file = c.args.file.now in
    let index = c.loop-index.index in
    let below : index < e_phnum file = omega (arith, c.loop-index-test.true, c.e_phnum-count.ensures, ap e_phnum c.of-header.ensures) in
    let found = subst (λ (f : List ℕ). c.segment.result ≡ loaded_at f (e_phoff f + program_header_size * index)) c.of-header.ensures c.segment.ensures in
    let p = subst (λ rest. Placing file rest c.loop-index.memory.memory)
    (rest-at file (e_phnum file) index (e_phoff file) below c.segment.result c.in-Some.segment found c.in-Some.is) c.loop-index.invariant.placing in
    placing-some file c.in-Some.segment _ c.loop-index.memory.memory p c.in-Err.ensures.some

pub loop-index-preserved : goal.loop-index-preserved
loop-index-preserved c =
    let file = c.args.file.now in
    let count = e_phnum file in
    let at = e_phoff file in
    let index = c.loop-index.index in
    let placing = c.loop-index.invariant.placing in
    let below : index < count = omega (arith, c.loop-index-test.true, c.e_phnum-count.ensures, ap e_phnum c.of-header.ensures) in
    let found = subst (λ (f : List ℕ). c.segment.result ≡ loaded_at f (e_phoff f + program_header_size * index)) c.of-header.ensures c.segment.ensures in
    elim c.match-segment.branch [
      | in-Some+in-Ok w ↦
          let s = w.in-Some.segment in
          let p = subst (λ rest. Placing file rest c.loop-index.memory.memory) (rest-at file count index at below c.segment.result s found w.in-Some.is) placing in
          let all = subst (λ rest. Allocating file rest c.args.memory.now.allocated c.loop-index.memory.allocated)
          (rest-at file count index at below c.segment.result s found w.in-Some.is) c.loop-index.invariant.allocating in
          let sound = placing-sound file s _ c.loop-index.memory.memory p (sound-parts file c.requires.sound).1 in
          rw w.memory-is (record {
            placing = placing-more file s _ c.loop-index.memory.memory w.place.new.memory.memory p sound w.in-Ok.ensures.placed;
            allocating = allocating-more file s _ c.args.memory.now.allocated c.loop-index.memory.allocated w.place.new.memory.allocated all w.in-Ok.ensures.allocated;
            pages_kept = λ allocated. w.place.ensures.pages_kept (c.loop-index.invariant.pages_kept allocated);
          })
      | in_default w ↦
          rw w.memory-is (record {
            placing = subst (λ rest. Placing file rest c.loop-index.memory.memory) ((rest-step file count index at below).passed (sym found ∙ w.in_default.is)) placing;
            allocating = subst (λ rest. Allocating file rest c.args.memory.now.allocated c.loop-index.memory.allocated)
                ((rest-step file count index at below).passed (sym found ∙ w.in_default.is)) c.loop-index.invariant.allocating;
            pages_kept = c.loop-index.invariant.pages_kept;
          })
    ]

pub returns-clause-placed : goal.returns-clause-placed
returns-clause-placed c =
    let file = c.args.file.now in
    let p = subst (λ rest. Placing file rest c.loop-index.memory.memory)
    (rest-all file (e_phnum file) c.loop-index.index (e_phoff file + program_header_size * c.loop-index.index)
    (omega (arith, c.loop-index-test.false, c.e_phnum-count.ensures, ap e_phnum c.of-header.ensures)))
    c.loop-index.invariant.placing in
    sym p.memory_is

pub returns-clause-allocated : goal.returns-clause-allocated
returns-clause-allocated c =
    let file = c.args.file.now in
    allocating-all file c.args.memory.now.allocated c.loop-index.memory.allocated
    (subst (λ rest. Allocating file rest c.args.memory.now.allocated c.loop-index.memory.allocated)
    (rest-all file (e_phnum file) c.loop-index.index (e_phoff file + program_header_size * c.loop-index.index)
    (omega (arith, c.loop-index-test.false, c.e_phnum-count.ensures, ap e_phnum c.of-header.ensures)))
    c.loop-index.invariant.allocating)
