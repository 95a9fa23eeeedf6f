use Rattle.std.proofs.Common.{◌+◌, ◌∙◌, ◌<◌, get_or, arith, rules}
use Rattle.machine_defs.proofs.Numbers.{number-2, number-4}
use Rattle.vm_mem.proofs.buffer.read_u32.Goals as goal

pub returns-clause-number : goal.returns-clause-number
returns-clause-number c = c.from_le_bytes.ensures ∙ number-4 c.args.bytes.now c.args.at

pub returns-clause-low_half : goal.returns-clause-low_half
returns-clause-low_half c =
    let bytes = c.args.bytes.now in
    let low : get_or bytes c.args.at 0 < 256 = search rules in
    let next : get_or bytes (c.args.at + 1) 0 < 256 = search rules in
    omega (arith, c.from_le_bytes.ensures, number-2 bytes c.args.at, low, next)
