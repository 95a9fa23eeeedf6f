use Rattle.std.proofs.Common.{◌≡◌, map, take}
use Rattle.chain_defs.specs.Hashes.{transaction_hash}
use Rattle.view_hashes.proofs.items.transaction_hashes.Given as goal

abbrev pub invariant-transactions : goal.invariant-transactions
invariant-transactions l = l.list.items ≡ map transaction_hash (take l.i l.block.transactions)
