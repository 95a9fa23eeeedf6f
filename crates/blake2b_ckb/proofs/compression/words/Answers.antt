use Rattle.chain_defs.specs.CkbHash.{words}
use Rattle.blake2b_ckb.proofs.compression.words.Goals as goal

pub returns : goal.returns
unfolding words
returns c = cc
