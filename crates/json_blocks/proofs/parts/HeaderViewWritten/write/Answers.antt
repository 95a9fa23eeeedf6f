use Rattle.std.proofs.Common.{ap}
use Rattle.json_defs.specs.Form.{byte_string, hex_number}
use Rattle.json_defs.specs.Blocks.{header}
use Rattle.json_blocks.proofs.RowTexts.{first_row, next_row, no_row, same_row}
use Rattle.json_blocks.proofs.parts.HeaderViewWritten.write.Goals as goal

pub returns : goal.returns
unfolding header
returns c =
    first_row (same_row (ap hex_number.tree (c.compact_target.ensures)) c.number_row.ensures)
    (next_row (same_row (ap byte_string.tree c.dao.ensures.value) c.bytes_row.ensures)
    (next_row (same_row (ap hex_number.tree (c.epoch.ensures)) c.number_row-2.ensures)
    (next_row (same_row (ap hex_number.tree c.nonce.ensures) c.number_row-3.ensures)
    (next_row (same_row (ap hex_number.tree (c.number.ensures)) c.number_row-4.ensures)
    (next_row (same_row (ap byte_string.tree c.parent_hash.ensures.value) c.bytes_row-2.ensures)
    (next_row (same_row (ap byte_string.tree c.proposals_hash.ensures.value) c.bytes_row-3.ensures)
    (next_row (same_row (ap hex_number.tree (c.timestamp.ensures)) c.number_row-5.ensures)
    (next_row (same_row (ap byte_string.tree c.transactions_root.ensures.value) c.bytes_row-4.ensures)
    (next_row (same_row (ap byte_string.tree c.uncles_hash.ensures.value) c.bytes_row-5.ensures)
    (next_row (same_row (ap hex_number.tree (c.version.ensures)) c.number_row-6.ensures)
    (no_row c.put.ensures)))))))))))
