use Rattle.std.proofs.Common.{◌∙◌}
use Rattle.machine_defs.specs.Elf.{field}
use Rattle.machine_defs.proofs.Numbers.{number-4}
use Rattle.elf_load.proofs.field.u32_at.Goals as goal

pub returns : goal.returns
unfolding field
returns c = c.from_le_bytes.ensures ∙ number-4 c.args.file.now c.args.at
