use Rattle.std.proofs.Common.{refl}
use Rattle.chain_defs.specs.CkbHash.{compress}
use Rattle.blake2b_ckb.proofs.compression.compress.Goals as goal

pub returns : goal.returns
unfolding compress
returns c = rw (c.rounds.ensures, c.work_vector-v.ensures, c.words.ensures) refl
