use Rattle.std.proofs.Common.{ap}
use Rattle.json_defs.specs.Form.{byte_string, hex_number}
use Rattle.json_defs.specs.Blocks.{out_point}
use Rattle.json_blocks.proofs.RowTexts.{first_row, next_row, no_row, same_row}
use Rattle.json_blocks.proofs.parts.OutPointViewWritten.write.Goals as goal

pub returns : goal.returns
unfolding out_point
returns c =
    first_row (same_row (ap hex_number.tree (c.index.ensures)) c.number_row.ensures)
    (next_row (same_row (ap byte_string.tree c.tx_hash.ensures.value) c.bytes_row.ensures)
    (no_row c.put.ensures))
