use Rattle.std.proofs.Common.{◌≡◌, Option, Some, ap, sym, ◌∙◌}
use Rattle.std.specs.Prelude.{slice_get}
use Rattle.std.specs.Option.{option_map}
use Rattle.chain_defs.specs.Schema.{Transaction}
use Rattle.cell_state.specs.Copies.{ResolvedTxValue}
use Rattle.machine_defs.specs.World.{Call}
use Rattle.verdict_defs.specs.Items.{answer, input_at, listed}
use Rattle.script_run.specs.declared.bytes.InputPart.{InputPart}
use Rattle.script_run.specs.declared.sources.Place.TheVariants.{Input}
use Rattle.script_run.specs.Lookups.{input_part}
use Rattle.script_run.specs.declared.sources.Target.TheVariants.{At}
use Rattle.script_run.proofs.LookLemmas.{listed-to, mapped}
use Rattle.script_run.proofs.items.input.Goals as goal

pub returns-in-At-Input : goal.returns-in-At-Input
returns-in-At-Input c scene shows =
    let tx : scene.transaction ≡ c.tx.inside.tx = shows.transaction ∙ sym (ap (λ (t : ResolvedTxValue). t.tx) c.tx.view_is) in
    ap (λ (p : Option InputPart). listed c.args.group.now.group c.args.call.now (input_at scene) (option_map input_part p)) c.in-Some.is
    ∙ listed-to c.args.group.now.group c.args.call.now (input_at scene) (input_part c.in-Some.part) c.target_of.result (Input c.in-At-Input.i) _ _ c.target_of.ensures (c.in-At-Input.is ∙ ap At c.in-At-Input.field-0-is)
    (ap (λ (call : Call). call.index) c.call.view_is) (ap (λ (call : Call). call.source) c.call.view_is)
    ∙ mapped (input_part c.in-Some.part) Some (slice_get scene.transaction.raw.inputs c.in-At-Input.i)
    ∙ ap (λ (t : Transaction). answer (option_map (input_part c.in-Some.part) (slice_get t.raw.inputs c.in-At-Input.i))) tx
    ∙ c.part_of_input.ensures
