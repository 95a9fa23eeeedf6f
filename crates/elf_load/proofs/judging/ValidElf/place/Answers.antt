use Rattle.machine_defs.specs.Elf.{program_of}
use Rattle.elf_load.proofs.judging.ValidElf.place.Goals as goal

pub returns-clause-placed : goal.returns-clause-placed
unfolding program_of
returns-clause-placed c = rw (← c.self.view_is) c.place_segments.ensures.placed

pub returns-clause-some : goal.returns-clause-some
unfolding program_of
returns-clause-some c = rw (← c.self.view_is) c.place_segments.ensures.some

pub returns-clause-allocated : goal.returns-clause-allocated
returns-clause-allocated c = rw (← c.self.view_is) c.place_segments.ensures.allocated
