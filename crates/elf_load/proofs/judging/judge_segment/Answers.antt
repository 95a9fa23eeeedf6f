use Rattle.std.proofs.Common.{sym, ◌∙◌}
use Rattle.elf_load.proofs.Segments.{sound-of_none}
use Rattle.elf_load.proofs.judging.judge_segment.Goals as goal

pub mark-requires : goal.mark-requires
mark-requires c =
    (sound-of_none c.args.file.now c.requires.0 c.args.segment.now (sym (c.broken_segment.ensures c.requires.0 c.requires.1) ∙ c.in_default.is)).in_memory

pub returns : goal.returns
returns c earlier marks =
    let none = sym (c.broken_segment.ensures earlier marks) ∙ c.in_default.is in
    let sound = sound-of_none c.args.file.now earlier c.args.segment.now none in
    (none, c.mark.ensures earlier marks sound.apart)
