use Rattle.std.proofs.Common.{arith}
use Rattle.std.proofs.lemmas.List.{length-map}
use Rattle.json_defs.specs.Form.{byte_string}
use Rattle.json_blocks.proofs.RowTexts.{item_put}
use Rattle.json_blocks.proofs.list_rows.WitnessesItemsTxView.write.Goals as goal

pub witnesses_item-requires : goal.witnesses_item-requires
witnesses_item-requires c = omega (arith, c.requires, length-map c.args.of.now.witnesses (byte_string.tree))

pub returns : goal.returns
returns c = item_put (byte_string.tree) c.args.of.now.witnesses c.args.i c.witnesses_item.result.now c.witnesses_item.ensures.at c.put_bytes.ensures
