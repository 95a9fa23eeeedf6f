use Rattle.std.proofs.Common.{arith}
use Rattle.std.proofs.lemmas.List.{length-map}
use Rattle.json_defs.specs.Blocks as form
use Rattle.json_blocks.proofs.RowTexts.{item_put}
use Rattle.json_blocks.proofs.list_rows.OutputsItemsRawTxView.write.Goals as goal

pub outputs_item-requires : goal.outputs_item-requires
outputs_item-requires c = omega (arith, c.requires, length-map c.args.of.now.outputs (form.cell_output.tree))

pub returns : goal.returns
returns c = item_put (form.cell_output.tree) c.args.of.now.outputs c.args.i c.outputs_item.result c.outputs_item.ensures c.write.ensures
