use Rattle.std.proofs.Common.{◌∙◌}
use Rattle.machine_defs.proofs.Numbers.{number-2}
use Rattle.vm_mem.proofs.buffer.read_u16.Goals as goal

pub returns : goal.returns
returns c = c.from_le_bytes.ensures ∙ number-2 c.args.bytes.now c.args.at
