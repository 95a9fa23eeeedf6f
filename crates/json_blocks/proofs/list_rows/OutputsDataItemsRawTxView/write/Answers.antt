use Rattle.std.proofs.Common.{arith}
use Rattle.std.proofs.lemmas.List.{length-map}
use Rattle.json_defs.specs.Form.{byte_string}
use Rattle.json_blocks.proofs.RowTexts.{item_put}
use Rattle.json_blocks.proofs.list_rows.OutputsDataItemsRawTxView.write.Goals as goal

pub outputs_data_item-requires : goal.outputs_data_item-requires
outputs_data_item-requires c = omega (arith, c.requires, length-map c.args.of.now.outputs_data (byte_string.tree))

pub returns : goal.returns
returns c = item_put (byte_string.tree) c.args.of.now.outputs_data c.args.i c.outputs_data_item.result.now c.outputs_data_item.ensures.at c.put_bytes.ensures
