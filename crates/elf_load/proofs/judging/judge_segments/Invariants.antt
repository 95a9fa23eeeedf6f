use Rattle.std.proofs.Common.{◌+◌, ◌-◌, ◌*◌, ◌≤◌}
use Rattle.machine_defs.specs.Elf.{e_phnum, e_phoff, program_header_size, segments_from}
use Rattle.elf_load.proofs.Segments.{Judging}
use Rattle.elf_load.proofs.judging.judge_segments.Given as goal

abbrev pub invariant-loop-index : goal.invariant-loop-index
invariant-loop-index l = record {
  judging : Judging l.file (segments_from (e_phnum l.file - l.index) l.file (e_phoff l.file + program_header_size * l.index)) l.touched.kinds l.file_bytes;
  bound : l.file_bytes ≤ 4194304 * l.index;
}
