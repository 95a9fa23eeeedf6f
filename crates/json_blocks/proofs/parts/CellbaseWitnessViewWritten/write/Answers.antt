use Rattle.std.proofs.Common.{ap}
use Rattle.json_defs.specs.Form.{byte_string}
use Rattle.json_defs.specs.Blocks.{cellbase_witness}
use Rattle.json_defs.specs.Blocks as form
use Rattle.json_blocks.proofs.RowTexts.{first_row, next_row, no_row, same_row}
use Rattle.json_blocks.proofs.parts.CellbaseWitnessViewWritten.write.Goals as goal

pub returns : goal.returns
unfolding cellbase_witness
returns c =
    first_row (same_row (ap (form.script.tree) c.lock.ensures) c.row.ensures)
    (next_row (same_row (ap byte_string.tree c.message.ensures.value) c.bytes_row.ensures)
    (no_row c.put.ensures))
