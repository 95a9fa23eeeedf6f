use Rattle.std.proofs.Common.{sym, ◌∙◌}
use Rattle.elf_load.proofs.Segments.{judged-bytes, judged-header, judged-program, judged-segments, judged-sound}
use Rattle.elf_load.proofs.judging.judge.Goals as goal

pub returns-in-Some-clause-program : goal.returns-in-Some-clause-program
returns-in-Some-clause-program c = judged-header c.args.file.now c.in-Some.condition (sym c.broken_header.ensures ∙ c.in-Some.is)

pub returns-in-Err-clause-program : goal.returns-in-Err-clause-program
returns-in-Err-clause-program c = judged-segments c.args.file.now c.in-Err.condition (sym c.broken_header.ensures ∙ c.in_default.is) c.in-Err.ensures.judges

pub invariant_of-result : goal.invariant_of-result
invariant_of-result c = record {
  sound = judged-sound c.args.file.now (sym c.broken_header.ensures ∙ c.in_default.is) c.in-Ok.ensures.judges.0;
  bytes = judged-bytes c.args.file.now c.in-Ok.file_bytes c.in-Ok.ensures.judges.1;
  bound = c.in-Ok.ensures.bound;
}

pub returns-clause-program : goal.returns-clause-program
returns-clause-program c = judged-program c.args.file.now (judged-sound c.args.file.now (sym c.broken_header.ensures ∙ c.in_default.is) c.in-Ok.ensures.judges.0)
