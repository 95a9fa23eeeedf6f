use Rattle.std.proofs.Common.{rules}
use Rattle.log_file.proofs.blocks.next_entry.Goals as goal

pub returns-clause-may_stand : goal.returns-clause-may_stand
returns-clause-may_stand c = search rules

pub returns-clause-new : goal.returns-clause-new
returns-clause-new c = search rules
