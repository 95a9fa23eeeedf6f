-- What S2 says of the length of an epoch.
use Rattle.std.proofs.Common.{ℕ, ◌<◌, arith}
use Rattle.std.specs.Prelude.{IsTrue}
use Rattle.std.proofs.lemmas.Bool.Decides.{nat_tests}
use Rattle.chain_defs.specs.Specification.{keeps_s2}

-- an epoch has a block
pub keeps_s2-some : (epoch_length : ℕ) → IsTrue (keeps_s2 epoch_length) → 0 < epoch_length
keeps_s2-some epoch_length keeps = grind (arith, nat_tests)
