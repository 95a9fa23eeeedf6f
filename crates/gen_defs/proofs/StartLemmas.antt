-- The specification's bytes, read, and the first reward.
use Rattle.std.proofs.Common.{◌≡◌, refl}
use Rattle.chain_defs.specs.First.{first_failing}
use Rattle.chain_defs.specs.Specification.{specification_of}
use Rattle.gen_defs.specs.Start.{specification, specification_bytes, genesis_field}
use Rattle.gen_defs.specs.Heights.{reward_by, reward_of, field_after}
use Rattle.gen_defs.specs.Laws.{IsReadBack}

pub is-read-back : IsReadBack
unfolding specification specification_bytes specification_of first_failing
is-read-back = (refl, refl)

pub first-reward : reward_of 1 ≡ 100000213996
unfolding reward_by field_after genesis_field specification
first-reward = refl
