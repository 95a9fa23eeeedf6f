use Rattle.std.proofs.Common.{◌≡◌, ℕ, List, Option, Some, ap, sym, ◌∙◌}
use Rattle.std.specs.Prelude.{slice_get}
use Rattle.std.specs.Option.{option_map}
use Rattle.chain_defs.specs.Schema.{Transaction}
use Rattle.cell_state.specs.Copies.{ResolvedTxValue}
use Rattle.machine_defs.specs.World.{Call}
use Rattle.verdict_defs.specs.Items.{answer, witness_at}
use Rattle.script_run.specs.declared.sources.Place.TheVariants.{Input, Output}
use Rattle.script_run.specs.declared.sources.Target.TheVariants.{At}
use Rattle.script_run.proofs.LookLemmas.{listed-to, mapped}
use Rattle.script_run.proofs.items.witness.Goals as goal

pub returns-in-At-Input : goal.returns-in-At-Input
returns-in-At-Input c scene shows =
    let tx : scene.transaction ≡ c.tx.inside.tx = shows.transaction ∙ sym (ap (λ (t : ResolvedTxValue). t.tx) c.tx.view_is) in
    let all : List ℕ → Option (List ℕ) = λ it. Some it in
    listed-to c.args.group.now.group c.args.call.now (witness_at scene) all c.target_of.result (Input c.in-At-Input.i) _ _ c.target_of.ensures (c.in-At-Input.is ∙ ap At c.in-At-Input.field-0-is)
    (ap (λ (call : Call). call.index) c.call.view_is) (ap (λ (call : Call). call.source) c.call.view_is)
    ∙ mapped all Some (slice_get scene.transaction.witnesses c.in-At-Input.i)
    ∙ ap (λ (t : Transaction). answer (option_map all (slice_get t.witnesses c.in-At-Input.i))) tx
    ∙ c.witness_at.ensures

pub returns-in-At-Output : goal.returns-in-At-Output
returns-in-At-Output c scene shows =
    let tx : scene.transaction ≡ c.tx.inside.tx = shows.transaction ∙ sym (ap (λ (t : ResolvedTxValue). t.tx) c.tx.view_is) in
    let all : List ℕ → Option (List ℕ) = λ it. Some it in
    listed-to c.args.group.now.group c.args.call.now (witness_at scene) all c.target_of.result (Output c.in-At-Output.i) _ _ c.target_of.ensures (c.in-At-Output.is ∙ ap At c.in-At-Output.field-0-is)
    (ap (λ (call : Call). call.index) c.call.view_is) (ap (λ (call : Call). call.source) c.call.view_is)
    ∙ mapped all Some (slice_get scene.transaction.witnesses c.in-At-Output.i)
    ∙ ap (λ (t : Transaction). answer (option_map all (slice_get t.witnesses c.in-At-Output.i))) tx
    ∙ c.witness_at-in-At-Output.ensures
