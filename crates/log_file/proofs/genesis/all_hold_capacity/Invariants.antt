use Rattle.std.proofs.Common.{◌≡◌, drop}
use Rattle.std.specs.List.{list_all}
use Rattle.chain_defs.specs.Cell.{outputs_hold_their_own}
use Rattle.log_file.proofs.genesis.all_hold_capacity.Given as goal

abbrev pub invariant-transactions : goal.invariant-transactions
invariant-transactions l = list_all outputs_hold_their_own l.block.transactions ≡ list_all outputs_hold_their_own (drop l.i l.block.transactions)
