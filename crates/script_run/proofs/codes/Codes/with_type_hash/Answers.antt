use Rattle.std.proofs.Common.{◌≡◌, None, Some, ap, sym, ◌∙◌, subst, arith}
use Rattle.std.specs.Option.{option_copied}
use Rattle.cell_state.specs.Copies.{ResolvedValue}
use Rattle.verdict_defs.specs.Codes.{Is}
use Rattle.script_run.specs.Locating.{typed_with}
use Rattle.script_run.specs.Shown.{AreCodesIn, CodesValue}
use Rattle.script_run.proofs.CodeLemmas.{typed-found, no-type, type-within}
use Rattle.script_run.proofs.codes.Codes.with_type_hash.Goals as goal

pub offset_bounds-self-inside-typed : goal.offset_bounds-self-inside-typed
offset_bounds-self-inside-typed c =
    let found : typed_with c.self.inside.second c.args.hash 0 c.self.inside.deps.now ≡ Some c.in-Some.typed.now =
    sym (c.self.invariant c.args.hash).1 ∙ sym c.get.ensures.value ∙ ap option_copied c.in-Some.is in
    let within = type-within c.self.inside.second c.args.hash 0 c.self.inside.deps.now c.in-Some.typed.now (omega arith) found in
    omega (arith, within, c.self.told)

pub bounds-self-inside-typed : goal.bounds-self-inside-typed
bounds-self-inside-typed c =
    let found : typed_with c.self.inside.second c.args.hash 0 c.self.inside.deps.now ≡ Some c.in-Some.typed.now =
    sym (c.self.invariant c.args.hash).1 ∙ sym c.get.ensures.value ∙ ap option_copied c.in-Some.is in
    type-within c.self.inside.second c.args.hash 0 c.self.inside.deps.now c.in-Some.typed.now (omega arith) found

pub returns-in-None : goal.returns-in-None
returns-in-None c scene are =
    let none : typed_with c.self.inside.second c.args.hash 0 c.self.inside.deps.now ≡ None =
    sym (c.self.invariant c.args.hash).1 ∙ sym c.get.ensures.value ∙ ap option_copied c.in-None.is in
    no-type scene _ c.args.hash (subst (λ (it : CodesValue). AreCodesIn it scene) (sym c.self.view_is) are) none

pub returns-then-typed : goal.returns-then-typed
returns-then-typed c scene are =
    let found : typed_with c.self.inside.second c.args.hash 0 c.self.inside.deps.now ≡ Some c.in-Some.typed.now =
    sym (c.self.invariant c.args.hash).1 ∙ sym c.get.ensures.value ∙ ap option_copied c.in-Some.is in
    let at = typed-found scene _ c.args.hash c.in-Some.typed.now (subst (λ (it : CodesValue). AreCodesIn it scene) (sym c.self.view_is) are) found in
    at.many c.if-typed.true

pub returns-else-typed : goal.returns-else-typed
returns-else-typed c scene are =
    let found : typed_with c.self.inside.second c.args.hash 0 c.self.inside.deps.now ≡ Some c.in-Some.typed.now =
    sym (c.self.invariant c.args.hash).1 ∙ sym c.get.ensures.value ∙ ap option_copied c.in-Some.is in
    let at = typed-found scene _ c.args.hash c.in-Some.typed.now (subst (λ (it : CodesValue). AreCodesIn it scene) (sym c.self.view_is) are) found in
    ap Is (c.deref.ensures.value ∙ ap (λ (dep : ResolvedValue). dep.content) (c.dep.view_is ∙ sym c.index-self-typed.is))
    ∙ at.one c.if-typed.false c.index-self-typed.result c.index-self-typed.is
