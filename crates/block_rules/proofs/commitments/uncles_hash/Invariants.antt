use Rattle.std.proofs.Common.{map, take}
use Rattle.std.specs.List.{concat}
use Rattle.blake2b_ckb.specs.Hasher.{Holds}
use Rattle.chain_defs.specs.Hashes.{uncle_hash}
use Rattle.block_rules.proofs.commitments.uncles_hash.Given as goal

abbrev pub invariant-uncles : goal.invariant-uncles
invariant-uncles l = Holds l.hasher (concat (take l.i (map uncle_hash l.block.uncles)))
