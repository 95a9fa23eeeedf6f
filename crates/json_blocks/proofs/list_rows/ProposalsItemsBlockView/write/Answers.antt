use Rattle.std.proofs.Common.{arith}
use Rattle.std.proofs.lemmas.List.{length-map}
use Rattle.json_defs.specs.Form.{byte_string}
use Rattle.json_blocks.proofs.RowTexts.{item_put}
use Rattle.json_blocks.proofs.list_rows.ProposalsItemsBlockView.write.Goals as goal

pub proposals_item-requires : goal.proposals_item-requires
proposals_item-requires c = omega (arith, c.requires, length-map c.args.of.now.proposals (byte_string.tree))

pub returns : goal.returns
returns c = item_put (byte_string.tree) c.args.of.now.proposals c.args.i c.proposals_item.result.now c.proposals_item.ensures.at c.put_bytes.ensures
