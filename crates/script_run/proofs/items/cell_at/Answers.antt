use Rattle.std.proofs.Common.{◌≡◌, List, Option, Some, ap, subst, sym, ◌∙◌}
use Rattle.std.specs.List.{AllZip}
use Rattle.std.specs.Option.{option_map, option_and_then}
use Rattle.std.specs.Prelude.{slice_get}
use Rattle.chain_defs.specs.Cell.{data_of}
use Rattle.chain_defs.specs.Schema.{CellOutput, Transaction}
use Rattle.cell_state.specs.Copies.{ResolvedValue, ResolvedTxValue}
use Rattle.verdict_defs.specs.Items.{OutputWithData, answer, cell_at, item_at, output_of}
use Rattle.script_run.specs.declared.sources.Place.{Place}
use Rattle.script_run.specs.Lookups.{cell_part}
use Rattle.script_run.specs.Places.{place_meaning}
use Rattle.script_run.specs.Shown.{IsShownAs}
use Rattle.script_run.proofs.LookLemmas.{mapped}
use Rattle.script_run.proofs.items.cell_at.Goals as goal

pub returns-in-Input : goal.returns-in-Input
returns-in-Input c scene shows =
    let at : c.deref.result.now ≡ c.args.tx.now.inputs = c.deref.ensures.value ∙ ap (λ (t : ResolvedTxValue). t.inputs) c.tx.view_is in
    let zip = subst (λ (l : List ResolvedValue). AllZip IsShownAs l scene.inputs) (sym at) shows.inputs in
    ap (λ (p : Place). item_at (cell_at scene) (cell_part c.args.part) (Some (place_meaning p))) c.in-Input.is
    ∙ mapped (cell_part c.args.part) (λ cell. Some (output_of cell)) (slice_get scene.inputs c.in-Input.i)
    ∙ c.part_of_copy.ensures scene.inputs zip

pub returns-in-Output : goal.returns-in-Output
returns-in-Output c scene shows =
    let tx : scene.transaction ≡ c.tx.inside.tx = shows.transaction ∙ sym (ap (λ (t : ResolvedTxValue). t.tx) c.tx.view_is) in
    let of : Transaction → CellOutput → Option OutputWithData = λ t output. Some (record { output = output; content = data_of t c.in-Output.i }) in
    ap (λ (p : Place). item_at (cell_at scene) (cell_part c.args.part) (Some (place_meaning p))) c.in-Output.is
    ∙ ap (λ (t : Transaction). answer (option_map (λ it. option_and_then (cell_part c.args.part) it) (option_map (of t) (slice_get t.raw.outputs c.in-Output.i)))) tx
    ∙ mapped (cell_part c.args.part) (of c.tx.inside.tx) (slice_get c.tx.inside.tx.raw.outputs c.in-Output.i)
    ∙ c.part_of_output.ensures

pub returns-in-CellDep : goal.returns-in-CellDep
returns-in-CellDep c scene shows =
    let at : c.deref-in-CellDep.result.now ≡ c.args.tx.now.deps = c.deref-in-CellDep.ensures.value ∙ ap (λ (t : ResolvedTxValue). t.deps) c.tx.view_is in
    let zip = subst (λ (l : List ResolvedValue). AllZip IsShownAs l scene.deps) (sym at) shows.deps in
    ap (λ (p : Place). item_at (cell_at scene) (cell_part c.args.part) (Some (place_meaning p))) c.in-CellDep.is
    ∙ mapped (cell_part c.args.part) (λ cell. Some (output_of cell)) (slice_get scene.deps c.in-CellDep.i)
    ∙ c.part_of_copy-in-CellDep.ensures scene.deps zip
