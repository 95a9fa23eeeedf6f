use Rattle.std.proofs.Common.{sym, ◌∙◌, rules}
use Rattle.chain_defs.specs.Cell.{outputs_hold_their_own}
use Rattle.log_file.proofs.Transactions.{all_goes, all_stops}
use Rattle.log_file.proofs.genesis.all_hold_capacity.Goals as goal

pub returns-then-not-outputs_hold_their_own : goal.returns-then-not-outputs_hold_their_own
returns-then-not-outputs_hold_their_own c =
    sym (c.transactions.invariant ∙ all_stops outputs_hold_their_own c.args.block.now.transactions c.transactions.i c.transactions_item.result c.transactions_item.ensures (search rules))

pub transactions-preserved : goal.transactions-preserved
transactions-preserved c =
    c.transactions.invariant ∙ all_goes outputs_hold_their_own c.args.block.now.transactions c.transactions.i c.transactions_item.result c.transactions_item.ensures (search rules)
