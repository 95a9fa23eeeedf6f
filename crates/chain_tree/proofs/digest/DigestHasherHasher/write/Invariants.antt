use Rattle.std.proofs.Common.{◌≡◌, take, fold}
use Rattle.chain_tree.specs.Digest.{with_byte}
use Rattle.chain_tree.proofs.digest.DigestHasherHasher.write.Given as goal

abbrev pub invariant-bytes : goal.invariant-bytes
invariant-bytes l = l.self.0 ≡ fold with_byte l.initial.self.0 (take l.byte-index l.bytes)
