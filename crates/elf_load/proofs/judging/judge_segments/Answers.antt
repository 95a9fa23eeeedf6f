use Rattle.std.proofs.Common.{◌≡◌, ◌+◌, ◌-◌, ◌*◌, ◌<◌, ℕ, List, sym, ◌∙◌, ap, subst, arith}
use Rattle.std.proofs.lemmas.Result.{err_from_is_err_and}
use Rattle.machine_defs.specs.Elf.{e_phnum, e_phoff, has_table, program_header_size}
use Rattle.elf_load.specs.Judging.{loaded_at}
use Rattle.elf_load.proofs.Segments.{Judging, judging-all, judging-more, judging-none, judging-refused, rest-all, rest-at, rest-step, size-bound, sound-header}
use Rattle.elf_load.proofs.judging.judge_segments.Goals as goal
use Rattle.elf_load.proofs.judging.judge_segments.Goals.{in-Some+in_ok-judge_segment, in_default}

pub of-header-requires : goal.of-header-requires
of-header-requires c = (sound-header c.args.file.now c.requires).size

pub loop-index-init : goal.loop-index-init
loop-index-init c =
    let file = c.args.file.now in
    let count : e_phnum file - 0 ≡ e_phnum file = omega arith in
    let place : e_phoff file + 0 ≡ e_phoff file = omega arith in
    record {
      judging = rw (count, place) (judging-none file c.new-touched.result.kinds c.new-touched.ensures);
      bound = omega arith;
    }

pub segment-requires-clause-table : goal.segment-requires-clause-table
segment-requires-clause-table c = ap has_table c.of-header.ensures ∙ (sound-header c.args.file.now c.requires).table

pub returns-in_err-judge_segment-clause-judges : goal.returns-in_err-judge_segment-clause-judges
returns-in_err-judge_segment-clause-judges c =
    let file = c.args.file.now in
    let count = e_phnum file in
    let at = e_phoff file in
    let index = c.loop-index.index in
    let below : index < count = omega (arith, c.loop-index-test.true, c.e_phnum-count.ensures, ap e_phnum c.of-header.ensures) in
    let found = subst (λ (f : List ℕ). c.segment.result ≡ loaded_at f (e_phoff f + program_header_size * index)) c.of-header.ensures c.segment.ensures in
    let j = subst (λ rest. Judging file rest c.loop-index.touched.kinds c.loop-index.file_bytes)
    (rest-at file count index at below c.segment.result c.in-Some.segment found c.in-Some.is) c.loop-index.invariant.judging in
    let p = err_from_is_err_and c.from_residual.result c.from_residual.ensures.1 in
    rw (p.1, p.2)
    (judging-refused file c.in-Some.segment _ c.loop-index.touched.kinds c.loop-index.file_bytes c.in_err-judge_segment.field-0.0 j
    (c.in_err-judge_segment.ensures j.earlier j.marks))

pub overflow_add-file_bytes : goal.overflow_add-file_bytes
overflow_add-file_bytes c =
    let judging = c.loop-index.invariant.judging in
    let sound = c.in_ok-judge_segment.ensures judging.earlier judging.marks in
    let size = size-bound c.args.file.now judging.earlier c.in-Some.segment sound.0 in
    omega (arith, size, c.file_size-file_bytes.ensures, c.loop-index.invariant.bound, c.loop-index-test.true, c.e_phnum-count.type_inv)

pub loop-index-preserved : goal.loop-index-preserved
loop-index-preserved c =
    let file = c.args.file.now in
    let count = e_phnum file in
    let at = e_phoff file in
    let index = c.loop-index.index in
    let judging = c.loop-index.invariant.judging in
    let bytes = c.loop-index.invariant.bound in
    let below : index < count = omega (arith, c.loop-index-test.true, c.e_phnum-count.ensures, ap e_phnum c.of-header.ensures) in
    let found = subst (λ (f : List ℕ). c.segment.result ≡ loaded_at f (e_phoff f + program_header_size * index)) c.of-header.ensures c.segment.ensures in
    elim c.match-segment.branch [
      | in-Some+in_ok-judge_segment w ↦
          let s = w.in-Some.segment in
          let j = subst (λ rest. Judging file rest c.loop-index.touched.kinds c.loop-index.file_bytes)
          (rest-at file count index at below c.segment.result s found w.in-Some.is) judging in
          let sound = w.in_ok-judge_segment.ensures j.earlier j.marks in
          let size = size-bound file j.earlier s sound.0 in
          rw (w.touched-is, w.file_bytes-is, w.file_size-file_bytes.ensures) (record {
            judging = judging-more file s _ c.loop-index.touched.kinds w.judge_segment.new.touched.kinds c.loop-index.file_bytes j sound;
            bound = omega (arith, size, bytes);
          })
      | in_default w ↦
          let j = subst (λ rest. Judging file rest c.loop-index.touched.kinds c.loop-index.file_bytes)
          ((rest-step file count index at below).passed (sym found ∙ w.in_default.is)) judging in
          rw (w.touched-is, w.file_bytes-is) (record { judging = j; bound = omega (arith, bytes) })
    ]

pub returns-clause-judges : goal.returns-clause-judges
returns-clause-judges c =
    let file = c.args.file.now in
    judging-all file c.loop-index.touched.kinds c.loop-index.file_bytes
    (subst (λ rest. Judging file rest c.loop-index.touched.kinds c.loop-index.file_bytes)
    (rest-all file (e_phnum file) c.loop-index.index (e_phoff file + program_header_size * c.loop-index.index)
    (omega (arith, c.loop-index-test.false, c.e_phnum-count.ensures, ap e_phnum c.of-header.ensures)))
    c.loop-index.invariant.judging)

pub returns-clause-bound : goal.returns-clause-bound
returns-clause-bound c = omega (arith, c.loop-index.invariant.bound, c.loop-index-test.false, c.e_phnum-count.type_inv)
