use Rattle.std.proofs.Common.{ap}
use Rattle.json_defs.specs.Form.{hex_number}
use Rattle.json_defs.specs.Blocks.{cell_input}
use Rattle.json_defs.specs.Blocks as form
use Rattle.json_blocks.proofs.RowTexts.{first_row, next_row, no_row, same_row}
use Rattle.json_blocks.proofs.parts.InputViewWritten.write.Goals as goal

pub returns : goal.returns
unfolding cell_input
returns c =
    first_row (same_row (ap (form.out_point.tree) c.previous_output.ensures) c.row.ensures)
    (next_row (same_row (ap hex_number.tree (c.since.ensures)) c.number_row.ensures)
    (no_row c.put.ensures))
