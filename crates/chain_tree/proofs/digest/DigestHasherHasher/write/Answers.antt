use Rattle.std.proofs.Common.{take_all, rules}
use Rattle.std.proofs.hash.Loops.{byte_more}
use Rattle.chain_tree.proofs.digest.DigestHasherHasher.write.Goals as goal

pub bytes-preserved : goal.bytes-preserved
bytes-preserved c = search (rules, byte_more)

pub returns : goal.returns
returns c = search (rules, take_all)
