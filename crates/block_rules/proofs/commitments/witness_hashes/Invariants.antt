use Rattle.std.proofs.Common.{◌≡◌, map, take}
use Rattle.chain_defs.specs.Hashes.{witness_hash}
use Rattle.block_rules.proofs.commitments.witness_hashes.Given as goal

abbrev pub invariant-transactions : goal.invariant-transactions
invariant-transactions l = l.list.items ≡ map witness_hash (take l.i l.block.transactions)
