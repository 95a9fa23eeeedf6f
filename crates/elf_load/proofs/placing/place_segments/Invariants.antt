use Rattle.std.proofs.Common.{◌+◌, ◌-◌, ◌*◌}
use Rattle.machine_defs.specs.Elf.{e_phnum, e_phoff, program_header_size, segments_from}
use Rattle.elf_load.specs.Loads.{AllAllocated}
use Rattle.elf_load.proofs.Segments.{Placing}
use Rattle.elf_load.proofs.Allocating.{Allocating}
use Rattle.elf_load.proofs.placing.place_segments.Given as goal

abbrev pub invariant-loop-index : goal.invariant-loop-index
invariant-loop-index l = record {
  placing : Placing l.file (segments_from (e_phnum l.file - l.index) l.file (e_phoff l.file + program_header_size * l.index)) l.memory.memory;
  allocating : Allocating l.file (segments_from (e_phnum l.file - l.index) l.file (e_phoff l.file + program_header_size * l.index))
      l.fn.memory.allocated l.memory.allocated;
  pages_kept : AllAllocated l.fn.memory.allocated → AllAllocated l.memory.allocated;
}
