use Rattle.std.proofs.Common.{arith}
use Rattle.std.proofs.lemmas.List.{length-map}
use Rattle.json_defs.specs.Blocks as form
use Rattle.json_blocks.proofs.RowTexts.{item_put}
use Rattle.json_blocks.proofs.list_rows.UnclesItemsBlockView.write.Goals as goal

pub uncles_item-requires : goal.uncles_item-requires
uncles_item-requires c = omega (arith, c.requires, length-map c.args.of.now.uncles (form.uncle.tree))

pub returns : goal.returns
returns c = item_put (form.uncle.tree) c.args.of.now.uncles c.args.i c.uncles_item.result c.uncles_item.ensures c.write.ensures
