use Rattle.std.proofs.Common.{ap, ◌∙◌}
use Rattle.machine_defs.specs.File.{elf_file}
use Rattle.run_alone.proofs.StandaloneLemmas.{asm_words}
use Rattle.run_alone.proofs.files.asm.Goals as goal

pub returns : goal.returns
returns c = asm_words c.args.file.now c.in-Ok.code.items c.in_ok-bytes.bytes.items c.in-Ok.ensures.words (c.in_ok-bytes.ensures ∙ ap elf_file c.deref.ensures.value)
