use Rattle.std.proofs.Common.{◌∙◌}
use Rattle.chain_defs.specs.Hashes.{transaction_hash}
use Rattle.view_hashes.proofs.ListLemmas.{map-push}
use Rattle.view_hashes.proofs.items.transaction_hashes.Goals as goal

pub transactions-preserved : goal.transactions-preserved
transactions-preserved c =
    c.in_ok-push.ensures.items
    ∙ map-push transaction_hash c.args.block.now.transactions c.transactions.i c.transactions_item.result c.transactions.list.items c.transaction_hash.result
    c.transactions.invariant c.transactions_item.ensures c.transaction_hash.ensures
