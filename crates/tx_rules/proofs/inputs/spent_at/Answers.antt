use Rattle.std.proofs.Common.{ap, sym, ◌∙◌, arith}
use Rattle.std.specs.Prelude.{slice_get}
use Rattle.chain_defs.specs.Shape.{encoded}
use Rattle.chain_defs.specs.Schema.{out_point, CellInput, RawTransaction}
use Rattle.chain_defs.proofs.RowLaws.{out_point-check}
use Rattle.tx_rules.proofs.AllThere.{slice_get-image}
use Rattle.tx_rules.proofs.inputs.spent_at.Goals as goal

pub array_of-requires : goal.array_of-requires
array_of-requires c = (omega arith, out_point-check.complete c.bytes.result.now c.previous_output.result c.bytes.ensures)

pub returns : goal.returns
returns c =
    slice_get-image (λ (input : CellInput). encoded out_point input.previous_output) c.args.tx.now.raw.inputs c.args.i c.inputs_item.result c.array_of.result
    (ap (λ (raw : RawTransaction). slice_get raw.inputs c.args.i) (sym c.raw.ensures) ∙ c.inputs_item.ensures)
    (ap (encoded out_point) (sym c.previous_output.ensures) ∙ sym c.bytes.ensures.encoding ∙ sym c.array_of.ensures)
