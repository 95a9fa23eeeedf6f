use Rattle.std.proofs.Common.{refl}
use Rattle.chain_defs.specs.CkbHash.{mix}
use Rattle.blake2b_ckb.specs.Compression.{half_mix}
use Rattle.blake2b_ckb.proofs.compression.mix.Goals as goal

pub returns : goal.returns
unfolding mix half_mix
returns c = rw (c.half_mix-2.ensures, c.half_mix.ensures) refl
