use Rattle.std.proofs.Common.{sym, ◌∙◌, rules}
use Rattle.chain_defs.specs.Cell.{pairs_data}
use Rattle.log_file.proofs.Transactions.{all_goes, all_stops}
use Rattle.log_file.proofs.genesis.all_pair_data.Goals as goal

pub returns-then-not-pairs_data : goal.returns-then-not-pairs_data
returns-then-not-pairs_data c =
    sym (c.transactions.invariant ∙ all_stops pairs_data c.args.block.now.transactions c.transactions.i c.transactions_item.result c.transactions_item.ensures (search rules))

pub transactions-preserved : goal.transactions-preserved
transactions-preserved c =
    c.transactions.invariant ∙ all_goes pairs_data c.args.block.now.transactions c.transactions.i c.transactions_item.result c.transactions_item.ensures (search rules)
