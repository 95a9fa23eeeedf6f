use Rattle.elf_load.proofs.Segments.{sound-header, sound-parts}
use Rattle.elf_load.proofs.judging.ValidElf.pc.Goals as goal

pub of-requires : goal.of-requires
of-requires c = (sound-header c.self.inside.file.now (sound-parts c.self.inside.file.now c.self.invariant.sound).0).size
