use Rattle.std.proofs.Common.{◌∙◌}
use Rattle.machine_defs.specs.Elf.{field}
use Rattle.machine_defs.proofs.Numbers.{number-2}
use Rattle.elf_load.proofs.field.u16_at.Goals as goal

pub returns : goal.returns
unfolding field
returns c = c.from_le_bytes.ensures ∙ number-2 c.args.file.now c.args.at
