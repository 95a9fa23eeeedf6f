use Rattle.std.proofs.Common.{◌≡◌, drop}
use Rattle.std.specs.List.{list_all}
use Rattle.chain_defs.specs.Cell.{pairs_data}
use Rattle.log_file.proofs.genesis.all_pair_data.Given as goal

abbrev pub invariant-transactions : goal.invariant-transactions
invariant-transactions l = list_all pairs_data l.block.transactions ≡ list_all pairs_data (drop l.i l.block.transactions)
