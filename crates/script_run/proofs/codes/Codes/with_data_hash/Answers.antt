use Rattle.std.proofs.Common.{◌≡◌, ◌<◌, None, Some, length, ap, sym, ◌∙◌, arith}
use Rattle.std.specs.Option.{option_copied}
use Rattle.cell_state.specs.Copies.{ResolvedValue}
use Rattle.verdict_defs.specs.Codes.{Is}
use Rattle.script_run.specs.Locating.{first_with_data}
use Rattle.script_run.specs.Shown.{CodesValue}
use Rattle.script_run.proofs.CodeLemmas.{data-found, data-missing, data-within, own-deps}
use Rattle.script_run.proofs.codes.Codes.with_data_hash.Goals as goal

pub offset_bounds-self-inside-place : goal.offset_bounds-self-inside-place
offset_bounds-self-inside-place c =
    let found : first_with_data c.args.hash 0 c.self.inside.deps.now ≡ Some c.in-Some.place.now =
    sym (c.self.invariant c.args.hash).0 ∙ sym c.get.ensures.value ∙ ap option_copied c.in-Some.is in
    let within : c.in-Some.place.now < length c.self.inside.deps.now = data-within c.args.hash c.self.inside.deps.now c.in-Some.place.now found in
    omega (arith, within, c.self.told)

pub bounds-self-inside-place : goal.bounds-self-inside-place
bounds-self-inside-place c =
    let found : first_with_data c.args.hash 0 c.self.inside.deps.now ≡ Some c.in-Some.place.now =
    sym (c.self.invariant c.args.hash).0 ∙ sym c.get.ensures.value ∙ ap option_copied c.in-Some.is in
    data-within c.args.hash c.self.inside.deps.now c.in-Some.place.now found

pub returns-in-None : goal.returns-in-None
returns-in-None c scene are =
    let none : first_with_data c.args.hash 0 c.self.inside.deps.now ≡ None =
    sym (c.self.invariant c.args.hash).0 ∙ sym c.get.ensures.value ∙ ap option_copied c.in-None.is in
    data-missing c.args.hash c.self.inside.deps.now scene.deps 0 (own-deps c.self.inside.deps.now c.args.self.now scene (ap (λ (it : CodesValue). it.deps) c.self.view_is) are) none

pub returns-in-Some : goal.returns-in-Some
returns-in-Some c scene are =
    let found : first_with_data c.args.hash 0 c.self.inside.deps.now ≡ Some c.in-Some.place.now =
    sym (c.self.invariant c.args.hash).0 ∙ sym c.get.ensures.value ∙ ap option_copied c.in-Some.is in
    let at = data-found c.args.hash c.self.inside.deps.now scene.deps 0 c.in-Some.place.now
    (own-deps c.self.inside.deps.now c.args.self.now scene (ap (λ (it : CodesValue). it.deps) c.self.view_is) are) found in
    ap Is (c.deref.ensures.value ∙ ap (λ (dep : ResolvedValue). dep.content) (c.dep.view_is ∙ sym c.index-self-place.is))
    ∙ at.content c.in-Some.place.now c.index-self-place.result (omega arith) c.index-self-place.is
