use Rattle.std.proofs.Common.{arith}
use Rattle.std.proofs.lemmas.List.{length-map}
use Rattle.json_defs.specs.Blocks as form
use Rattle.json_blocks.proofs.RowTexts.{item_put}
use Rattle.json_blocks.proofs.list_rows.CellDepsItemsRawTxView.write.Goals as goal

pub cell_deps_item-requires : goal.cell_deps_item-requires
cell_deps_item-requires c = omega (arith, c.requires, length-map c.args.of.now.cell_deps (form.cell_dep.tree))

pub returns : goal.returns
returns c = item_put (form.cell_dep.tree) c.args.of.now.cell_deps c.args.i c.cell_deps_item.result c.cell_deps_item.ensures c.write.ensures
