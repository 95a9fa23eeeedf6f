use Rattle.std.proofs.Common.{refl}
use Rattle.machine_defs.specs.Memory.{page_count}
use Rattle.elf_load.proofs.Touching.{marks-none}
use Rattle.elf_load.proofs.touched.Touched.new.Goals as goal

pub returns : goal.returns
unfolding page_count
returns c = marks-none 1024 refl
