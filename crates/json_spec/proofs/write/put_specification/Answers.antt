use Rattle.std.proofs.Common.{ap}
use Rattle.chain_defs.specs.Specification.{specification_of}
use Rattle.json_defs.specs.Form.{hex_number}
use Rattle.json_blocks.proofs.RowTexts.{first_row, next_row, no_row, same_row}
use Rattle.json_spec.specs.Form.{epochs, specification}
use Rattle.json_spec.proofs.write.put_specification.Goals as goal

pub returns : goal.returns
unfolding specification epochs specification_of
returns c =
    first_row (same_row (ap hex_number.tree c.u32_at.ensures) c.number_row.ensures)
    (next_row c.bytes_row.ensures
    (next_row (same_row (ap hex_number.tree c.u32_at-2.ensures) c.number_row-2.ensures)
    (next_row (same_row (ap hex_number.tree c.u64_at.ensures) c.number_row-3.ensures)
    (next_row (same_row (ap hex_number.tree c.u64_at-2.ensures) c.number_row-4.ensures)
    (next_row (same_row (ap hex_number.tree c.u32_at-3.ensures) c.number_row-5.ensures)
    (next_row (same_row (ap hex_number.tree c.u64_at-3.ensures) c.number_row-6.ensures)
    (next_row (same_row (ap hex_number.tree c.u32_at-4.ensures) c.number_row-7.ensures)
    (next_row (same_row (ap hex_number.tree c.u64_at-4.ensures) c.number_row-8.ensures)
    (next_row (same_row (ap hex_number.tree c.u64_at-5.ensures) c.number_row-9.ensures)
    (next_row (same_row (ap hex_number.tree c.u32_at-5.ensures) c.number_row-10.ensures)
    (next_row (same_row (ap hex_number.tree c.u32_at-6.ensures) c.number_row-11.ensures)
    (no_row c.put.ensures))))))))))))
