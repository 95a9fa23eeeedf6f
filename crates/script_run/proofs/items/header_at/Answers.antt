use Rattle.std.proofs.Common.{◌≡◌, ℕ, ◌<◌, List, Some, ap, subst, sym, ◌∙◌}
use Rattle.std.specs.Prelude.{slice_get}
use Rattle.std.specs.List.{All, AllZip}
use Rattle.cell_state.specs.Copies.{ResolvedTxValue}
use Rattle.verdict_defs.specs.Items.{header_at, item_at}
use Rattle.script_run.specs.declared.sources.Place.{Place}
use Rattle.script_run.specs.Lookups.{header_part}
use Rattle.script_run.specs.Places.{place_meaning}
use Rattle.script_run.proofs.LookLemmas.{found, mapped, made-as}
use Rattle.script_run.proofs.items.header_at.Goals as goal

pub returns-in-Input-clause-found : goal.returns-in-Input-clause-found
returns-in-Input-clause-found c headers length scene shows =
    let places : c.deref.result.now ≡ c.args.tx.now.headers = c.deref.ensures.value ∙ ap (λ (t : ResolvedTxValue). t.headers) c.tx.view_is in
    let copies : c.deref-in-Input.result.now ≡ c.args.tx.now.inputs = c.deref-in-Input.ensures.value ∙ ap (λ (t : ResolvedTxValue). t.inputs) c.tx.view_is in
    found headers length _ _ c.header_of_copy.result
    (ap (λ (p : Place). item_at (header_at scene) (λ h. Some (header_part length c.args.part h)) (Some (place_meaning p))) c.in-Input.is
    ∙ mapped (λ h. Some (header_part length c.args.part h)) (λ cell. cell.header) (slice_get scene.inputs c.in-Input.i))
    (c.header_of_copy.ensures.found headers length scene.inputs scene.headers
    (subst (λ (l : List ℕ). AllZip (λ place it. headers place ≡ Some it) l scene.headers) (sym places) shows.by_place)
    (made-as headers _ _ _ _ scene.inputs places copies shows.inputs))

pub returns-in-CellDep-clause-found : goal.returns-in-CellDep-clause-found
returns-in-CellDep-clause-found c headers length scene shows =
    let places : c.deref-in-CellDep.result.now ≡ c.args.tx.now.headers = c.deref-in-CellDep.ensures.value ∙ ap (λ (t : ResolvedTxValue). t.headers) c.tx.view_is in
    let copies : c.deref-in-CellDep-2.result.now ≡ c.args.tx.now.deps = c.deref-in-CellDep-2.ensures.value ∙ ap (λ (t : ResolvedTxValue). t.deps) c.tx.view_is in
    found headers length _ _ c.header_of_copy-in-CellDep.result
    (ap (λ (p : Place). item_at (header_at scene) (λ h. Some (header_part length c.args.part h)) (Some (place_meaning p))) c.in-CellDep.is
    ∙ mapped (λ h. Some (header_part length c.args.part h)) (λ cell. cell.header) (slice_get scene.deps c.in-CellDep.i))
    (c.header_of_copy-in-CellDep.ensures.found headers length scene.deps scene.headers
    (subst (λ (l : List ℕ). AllZip (λ place it. headers place ≡ Some it) l scene.headers) (sym places) shows.by_place)
    (made-as headers _ _ _ _ scene.deps places copies shows.deps))

pub returns-in-HeaderDep-clause-found : goal.returns-in-HeaderDep-clause-found
returns-in-HeaderDep-clause-found c headers length scene shows =
    let places : c.deref-in-HeaderDep.result.now ≡ c.args.tx.now.headers = c.deref-in-HeaderDep.ensures.value ∙ ap (λ (t : ResolvedTxValue). t.headers) c.tx.view_is in
    found headers length _ _ c.header_of_dep.result
    (ap (λ (p : Place). item_at (header_at scene) (λ h. Some (header_part length c.args.part h)) (Some (place_meaning p))) c.in-HeaderDep.is
    ∙ mapped (λ h. Some (header_part length c.args.part h)) Some (slice_get scene.headers c.in-HeaderDep.i))
    (c.header_of_dep.ensures.found headers length scene.headers
    (subst (λ (l : List ℕ). AllZip (λ place it. headers place ≡ Some it) l scene.headers) (sym places) shows.by_place))

pub returns-in-Input-clause-kept : goal.returns-in-Input-clause-kept
returns-in-Input-clause-kept c kept all =
    let places : c.deref.result.now ≡ c.args.tx.now.headers = c.deref.ensures.value ∙ ap (λ (t : ResolvedTxValue). t.headers) c.tx.view_is in
    c.header_of_copy.ensures.kept kept (subst (λ (l : List ℕ). All (λ place. place < kept) l) (sym places) all)

pub returns-in-CellDep-clause-kept : goal.returns-in-CellDep-clause-kept
returns-in-CellDep-clause-kept c kept all =
    let places : c.deref-in-CellDep.result.now ≡ c.args.tx.now.headers = c.deref-in-CellDep.ensures.value ∙ ap (λ (t : ResolvedTxValue). t.headers) c.tx.view_is in
    c.header_of_copy-in-CellDep.ensures.kept kept (subst (λ (l : List ℕ). All (λ place. place < kept) l) (sym places) all)

pub returns-in-HeaderDep-clause-kept : goal.returns-in-HeaderDep-clause-kept
returns-in-HeaderDep-clause-kept c kept all =
    let places : c.deref-in-HeaderDep.result.now ≡ c.args.tx.now.headers = c.deref-in-HeaderDep.ensures.value ∙ ap (λ (t : ResolvedTxValue). t.headers) c.tx.view_is in
    c.header_of_dep.ensures.kept kept (subst (λ (l : List ℕ). All (λ place. place < kept) l) (sym places) all)
