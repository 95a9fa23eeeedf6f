use Rattle.std.proofs.Common.{◌≡◌, length, rules}
use Rattle.chain_defs.specs.Dao.{field_bytes}
use Rattle.dao_math.proofs.FieldBytes.{four-parts}
use Rattle.dao_math.proofs.dao_field.Dao.read.Goals as goal

pub returns-clause-bytes : goal.returns-clause-bytes
unfolding field_bytes
returns-clause-bytes c =
    let len : length c.args.b.now ≡ 32 = search rules in
    four-parts c.args.b.now _ _ _ _ len c.u64_of.ensures.bytes c.u64_of-2.ensures.bytes c.u64_of-3.ensures.bytes c.u64_of-4.ensures.bytes
