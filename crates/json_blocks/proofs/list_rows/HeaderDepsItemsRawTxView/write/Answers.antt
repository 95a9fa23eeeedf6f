use Rattle.std.proofs.Common.{arith}
use Rattle.std.proofs.lemmas.List.{length-map}
use Rattle.json_defs.specs.Form.{byte_string}
use Rattle.json_blocks.proofs.RowTexts.{item_put}
use Rattle.json_blocks.proofs.list_rows.HeaderDepsItemsRawTxView.write.Goals as goal

pub header_deps_item-requires : goal.header_deps_item-requires
header_deps_item-requires c = omega (arith, c.requires, length-map c.args.of.now.header_deps (byte_string.tree))

pub returns : goal.returns
returns c = item_put (byte_string.tree) c.args.of.now.header_deps c.args.i c.header_deps_item.result.now c.header_deps_item.ensures.at c.put_bytes.ensures
