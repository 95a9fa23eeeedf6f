use Rattle.std.specs.Prelude.{codes}
use Rattle.std.proofs.Common.{ap}
use Rattle.json_defs.specs.Form.{named_byte}
use Rattle.json_defs.specs.Blocks.{cell_dep}
use Rattle.json_defs.specs.Blocks as form
use Rattle.json_blocks.proofs.RowTexts.{first_row, next_row, no_row, same_row}
use Rattle.json_blocks.proofs.parts.DepViewWritten.write.Goals as goal

pub returns : goal.returns
unfolding cell_dep
returns c =
    first_row (same_row (ap ((named_byte (codes "code") (codes "dep_group")).tree) c.dep_type.ensures) c.named_row.ensures)
    (next_row (same_row (ap (form.out_point.tree) c.out_point.ensures) c.row.ensures)
    (no_row c.put.ensures))
