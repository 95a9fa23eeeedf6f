use Rattle.std.specs.Prelude.{codes}
use Rattle.std.proofs.Common.{ap}
use Rattle.json_defs.specs.Form.{byte_string, named_byte}
use Rattle.json_defs.specs.Blocks.{script}
use Rattle.json_blocks.proofs.RowTexts.{first_row, next_row, no_row, same_row}
use Rattle.json_blocks.proofs.parts.ScriptViewWritten.write.Goals as goal

pub returns : goal.returns
unfolding script
returns c =
    first_row (same_row (ap byte_string.tree c.args-2.ensures.value) c.bytes_row.ensures)
    (next_row (same_row (ap byte_string.tree c.code_hash.ensures.value) c.bytes_row-2.ensures)
    (next_row (same_row (ap ((named_byte (codes "data") (codes "type")).tree) c.hash_type.ensures) c.named_row.ensures)
    (no_row c.put.ensures)))
