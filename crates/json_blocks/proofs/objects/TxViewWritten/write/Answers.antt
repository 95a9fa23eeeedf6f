use Rattle.std.proofs.Common.{ap, ◌∙◌}
use Rattle.json_defs.specs.Form.{byte_string, hex_number, list}
use Rattle.json_defs.specs.Blocks.{transaction}
use Rattle.json_defs.specs.Blocks as form
use Rattle.json_blocks.proofs.RowTexts.{first_row, next_row, no_row, same_row, listed}
use Rattle.json_blocks.proofs.objects.TxViewWritten.write.Goals as goal

pub returns : goal.returns
unfolding transaction
returns c =
    first_row (same_row (ap (λ r. (list form.cell_dep).tree r.cell_deps) c.raw-raw.ensures) (listed (form.cell_dep.tree) c.raw-raw.result.cell_deps c.list_row.ensures))
    (next_row (same_row (ap (λ r. (list byte_string).tree r.header_deps) c.raw-raw.ensures) (listed (byte_string.tree) c.raw-raw.result.header_deps c.list_row-2.ensures))
    (next_row (same_row (ap (λ r. (list form.cell_input).tree r.inputs) c.raw-raw.ensures) (listed (form.cell_input.tree) c.raw-raw.result.inputs c.list_row-3.ensures))
    (next_row (same_row (ap (λ r. (list form.cell_output).tree r.outputs) c.raw-raw.ensures) (listed (form.cell_output.tree) c.raw-raw.result.outputs c.list_row-4.ensures))
    (next_row (same_row (ap (λ r. (list byte_string).tree r.outputs_data) c.raw-raw.ensures) (listed (byte_string.tree) c.raw-raw.result.outputs_data c.list_row-5.ensures))
    (next_row (same_row (ap hex_number.tree (c.version.ensures ∙ ap (λ r. r.version) c.raw-raw.ensures)) c.number_row.ensures)
    (next_row (listed (byte_string.tree) c.args.self.now.witnesses c.list_row-6.ensures)
    (no_row c.put.ensures)))))))
