use Rattle.std.proofs.Common.{refl}
use Rattle.chain_defs.specs.CkbHash.{initial_state, word_at}
use Rattle.blake2b_ckb.specs.Hasher.{Holds, state_after}
use Rattle.blake2b_ckb.proofs.hasher.Hasher.new.Goals as goal

pub returns : goal.returns
unfolding Holds state_after initial_state word_at
returns c = record { state = refl; count = refl; kept = refl }
