use Rattle.elf_load.proofs.ElfLaws.{last-segment-counts}
use Rattle.elf_load.proofs.laws.load_laws.Goals as goal

pub returns : goal.returns
returns c = last-segment-counts
