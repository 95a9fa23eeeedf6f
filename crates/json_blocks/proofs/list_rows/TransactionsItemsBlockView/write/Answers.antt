use Rattle.std.proofs.Common.{arith}
use Rattle.std.proofs.lemmas.List.{length-map}
use Rattle.json_defs.specs.Blocks as form
use Rattle.json_blocks.proofs.RowTexts.{item_put}
use Rattle.json_blocks.proofs.list_rows.TransactionsItemsBlockView.write.Goals as goal

pub transactions_item-requires : goal.transactions_item-requires
transactions_item-requires c = omega (arith, c.requires, length-map c.args.of.now.transactions (form.transaction.tree))

pub returns : goal.returns
returns c = item_put (form.transaction.tree) c.args.of.now.transactions c.args.i c.transactions_item.result c.transactions_item.ensures c.write.ensures
