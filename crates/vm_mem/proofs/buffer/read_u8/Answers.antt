use Rattle.machine_defs.proofs.Numbers.{number-1}
use Rattle.vm_mem.proofs.buffer.read_u8.Goals as goal

pub returns : goal.returns
returns c = number-1 c.args.bytes.now c.args.at
