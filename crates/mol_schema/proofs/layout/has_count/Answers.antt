use Rattle.std.proofs.Common.{◌≡◌, length, arith}
use Rattle.mol_schema.proofs.Reading.{layout-short}
use Rattle.mol_schema.proofs.layout.has_count.Goals as goal

pub returns-clause-none : goal.returns-clause-none
returns-clause-none c = λ other laid.
    let short : length c.args.bytes.now ≡ 4 = layout-short c.args.bytes.now laid (omega (arith, c.if-bytes-ge8.false)) in grind arith
