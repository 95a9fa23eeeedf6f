use Rattle.std.proofs.Common.{length, ap, ◌∙◌}
use Rattle.chain_gen.proofs.Beginning.{program_is, program_size}
use Rattle.chain_gen.proofs.start.program.Goals as goal

pub returns-clause-file : goal.returns-clause-file
returns-clause-file c = c.in_ok-elf_file.ensures ∙ program_is

pub returns-clause-size : goal.returns-clause-size
returns-clause-size c = ap length (returns-clause-file c) ∙ program_size
