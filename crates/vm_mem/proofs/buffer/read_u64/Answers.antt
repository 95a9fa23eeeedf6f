use Rattle.std.proofs.Common.{◌∙◌}
use Rattle.machine_defs.proofs.Numbers.{number-8}
use Rattle.vm_mem.proofs.buffer.read_u64.Goals as goal

pub returns : goal.returns
returns c = c.from_le_bytes.ensures ∙ number-8 c.args.bytes.now c.args.at
