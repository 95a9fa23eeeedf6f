use Rattle.machine_defs.specs.Elf.{field}
use Rattle.machine_defs.proofs.Numbers.{number-1}
use Rattle.elf_load.proofs.field.u8_at.Goals as goal

pub returns : goal.returns
unfolding field
returns c = number-1 c.args.file.now c.args.at
