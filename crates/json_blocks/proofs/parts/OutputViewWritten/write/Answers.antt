use Rattle.std.proofs.Common.{ap}
use Rattle.json_defs.specs.Form.{hex_number, option}
use Rattle.json_defs.specs.Blocks.{cell_output}
use Rattle.json_defs.specs.Blocks as form
use Rattle.json_blocks.proofs.RowTexts.{first_row, next_row, no_row, same_row}
use Rattle.json_blocks.proofs.parts.OutputViewWritten.write.Goals as goal

pub returns : goal.returns
unfolding cell_output
returns c =
    first_row (same_row (ap hex_number.tree (c.capacity.ensures)) c.number_row.ensures)
    (next_row (same_row (ap (form.script.tree) c.lock.ensures) c.row.ensures)
    (next_row (same_row (ap ((option form.script).tree) c.type_script.ensures) c.row-2.ensures)
    (no_row c.put.ensures)))
