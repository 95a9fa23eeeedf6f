use Rattle.std.proofs.Common.{arith}
use Rattle.std.proofs.lemmas.List.{length-map}
use Rattle.json_defs.specs.Blocks as form
use Rattle.json_blocks.proofs.RowTexts.{item_put}
use Rattle.json_blocks.proofs.list_rows.InputsItemsRawTxView.write.Goals as goal

pub inputs_item-requires : goal.inputs_item-requires
inputs_item-requires c = omega (arith, c.requires, length-map c.args.of.now.inputs (form.cell_input.tree))

pub returns : goal.returns
returns c = item_put (form.cell_input.tree) c.args.of.now.inputs c.args.i c.inputs_item.result c.inputs_item.ensures c.write.ensures
