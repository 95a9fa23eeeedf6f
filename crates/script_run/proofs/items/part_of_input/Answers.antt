use Rattle.std.proofs.Common.{◌≡◌, Some, ap, sym, ◌∙◌}
use Rattle.std.specs.Prelude.{slice_get}
use Rattle.chain_defs.specs.Schema.{out_point}
use Rattle.chain_defs.specs.Shape.{encoded}
use Rattle.verdict_defs.specs.Items.{u64_bytes}
use Rattle.script_run.specs.Lookups.{input_part}
use Rattle.script_run.proofs.LookLemmas.{one-there, input-here}
use Rattle.script_run.specs.declared.bytes.InputPart.TheVariants.{Whole, OutPoint, Since}
use Rattle.script_run.proofs.items.part_of_input.Goals as goal

pub returns-in-Whole : goal.returns-in-Whole
returns-in-Whole c =
    let here : slice_get c.args.tx.now.raw.inputs c.args.i ≡ Some c.in-Some.input = sym c.input_at.ensures ∙ c.in-Some.is in
    one-there (input_part c.args.part) c.args.tx.now.raw.inputs c.args.i c.in-Some.input here
    ∙ input-here c.in-Some.input c.args.part Whole c.bytes.result.now c.in-Whole.is (ap Some (sym c.bytes.ensures.encoding))
    ∙ c.slice.ensures

pub returns-in-OutPoint : goal.returns-in-OutPoint
returns-in-OutPoint c =
    let here : slice_get c.args.tx.now.raw.inputs c.args.i ≡ Some c.in-Some.input = sym c.input_at.ensures ∙ c.in-Some.is in
    let bytes : c.bytes-in-OutPoint.result.now ≡ encoded out_point c.in-Some.input.previous_output =
    c.bytes-in-OutPoint.ensures.encoding ∙ ap (encoded out_point) c.previous_output.ensures in
    one-there (input_part c.args.part) c.args.tx.now.raw.inputs c.args.i c.in-Some.input here
    ∙ input-here c.in-Some.input c.args.part OutPoint c.bytes-in-OutPoint.result.now c.in-OutPoint.is (ap Some (sym bytes))
    ∙ c.slice-in-OutPoint.ensures

pub returns-in-Since : goal.returns-in-Since
returns-in-Since c =
    let here : slice_get c.args.tx.now.raw.inputs c.args.i ≡ Some c.in-Some.input = sym c.input_at.ensures ∙ c.in-Some.is in
    one-there (input_part c.args.part) c.args.tx.now.raw.inputs c.args.i c.in-Some.input here
    ∙ input-here c.in-Some.input c.args.part Since (u64_bytes c.since.result) c.in-Since.is (ap (λ n. Some (u64_bytes n)) (sym c.since.ensures))
    ∙ c.number.ensures
