use Rattle.std.proofs.Common.{rules}
use Rattle.outside_mem.proofs.mem_disk.MemDiskDisk.sync.Goals as goal

pub returns-clause-recorded : goal.returns-clause-recorded
returns-clause-recorded c = search rules

pub returns-clause-exact : goal.returns-clause-exact
returns-clause-exact c = search rules

pub returns-clause-durable : goal.returns-clause-durable
returns-clause-durable c = search rules
