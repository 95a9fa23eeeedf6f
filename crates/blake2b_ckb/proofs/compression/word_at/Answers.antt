use Rattle.std.proofs.Common.{rules}
use Rattle.chain_defs.specs.CkbHash.{word_at}
use Rattle.blake2b_ckb.proofs.compression.word_at.Goals as goal

pub returns : goal.returns
unfolding word_at
returns c = search rules
