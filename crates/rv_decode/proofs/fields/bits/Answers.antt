use Rattle.std.proofs.Common.{◌+◌, ◌-◌, ◌<◌, arith}
use Rattle.std.proofs.lemmas.Nat.{one_shl}
use Rattle.machine_defs.specs.Instruction.{bits}
use Rattle.rv_decode.proofs.fields.bits.Goals as goal

pub returns-clause-field : goal.returns-clause-field
unfolding bits
returns-clause-field c =
    let narrow : c.args.high - c.args.low + 1 < 32 = omega arith in
    rw (one_shl (c.args.high - c.args.low + 1) 32 narrow)
