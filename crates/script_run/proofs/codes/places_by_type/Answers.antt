use Rattle.std.proofs.Common.{◌≡◌, ◌-◌, ◌<◌, Some, length, drop, ap, sym, refl, ◌∙◌, arith}
use Rattle.std.specs.HashMap.{get}
use Rattle.std.specs.Map.{lookup}
use Rattle.std.specs.Option.{option_copied}
use Rattle.std.specs.Str.{bytes_eq}
use Rattle.chain_defs.specs.Row.{Row}
use Rattle.cell_state.specs.Copies.{ResolvedValue}
use Rattle.script_run.specs.Locating.{typed_with}
use Rattle.script_run.proofs.CodeLemmas.{type-more, type-none, type-within, many-none, many-some, inserted-type, untyped-before, all-behind}
use Rattle.script_run.proofs.codes.places_by_type.Goals as goal
use Rattle.script_run.proofs.codes.places_by_type.Goals.{in-Some+in_ok-insert, in-None, in-Some-get, in_default}

pub offset_bounds-deps-later : goal.offset_bounds-deps-later
offset_bounds-deps-later c =
    let found : typed_with c.args.second c.in-Some.hash (length c.args.deps.now - c.deps.done) (drop (length c.args.deps.now - c.deps.done) c.args.deps.now) ≡ Some c.in-Some-get.later.now =
    sym (c.deps.invariant c.in-Some.hash) ∙ sym c.get.ensures.value ∙ ap option_copied c.in-Some-get.is in
    let within : c.in-Some-get.later.now.first < length c.args.deps.now =
    type-within c.args.second c.in-Some.hash (length c.args.deps.now - c.deps.done) c.args.deps.now c.in-Some-get.later.now (omega arith) found in
    omega (arith, within)

pub bounds-deps-later : goal.bounds-deps-later
bounds-deps-later c =
    let found : typed_with c.args.second c.in-Some.hash (length c.args.deps.now - c.deps.done) (drop (length c.args.deps.now - c.deps.done) c.args.deps.now) ≡ Some c.in-Some-get.later.now =
    sym (c.deps.invariant c.in-Some.hash) ∙ sym c.get.ensures.value ∙ ap option_copied c.in-Some-get.is in
    type-within c.args.second c.in-Some.hash (length c.args.deps.now - c.deps.done) c.args.deps.now c.in-Some-get.later.now (omega arith) found

pub deps-init : goal.deps-init
deps-init c hash = ap (lookup (bytes_eq hash)) c.new-places.ensures.empty ∙ type-none c.args.second c.args.deps.now hash

pub deps-preserved : goal.deps-preserved
deps-preserved c hash =
    let first = length c.args.deps.now - 1 - c.deps.done in
    let behind = length c.args.deps.now - c.deps.done in
    let rest = drop behind c.args.deps.now in
    let dep = c.index-deps-first.result in
    let key : c.meta.inside.type_hash ≡ dep.row.type_hash =
    ap (λ (row : Row). row.type_hash) c.meta.view_is ∙ ap (λ (it : ResolvedValue). it.row.type_hash) c.dep.view_is in
    type-more c.args.second c.args.deps.now c.deps.done first dep hash (get bytes_eq c.deps.places hash) (get bytes_eq c.match-type_hash.places hash)
    c.deps-test.true refl c.index-deps-first.is (c.deps.invariant hash)
    (elim c.match-type_hash.branch [
      | in-Some+in_ok-insert w ↦
          ap (λ places. get bytes_eq places hash) w.places-is
          ∙ inserted-type c.args.second c.deps.places.entries w.in-Some.hash hash first dep rest _ (get bytes_eq w.insert.new.self hash)
          (sym key ∙ w.in-Some.is) (w.in_ok-insert.ensures.updates.0 hash)
          (elim w.match-get.branch [
            | in-None w' ↦
                w'.many-is ∙ many-none c.args.second w.in-Some.hash behind rest dep
                (sym (c.deps.invariant w.in-Some.hash) ∙ sym w.get.ensures.value ∙ ap option_copied w'.in-None.is)
            | in-Some-get w' ↦
                w'.many-is ∙ w'.are_many-many.ensures
                ∙ many-some c.args.second w.in-Some.hash behind c.args.deps.now dep w'.index-deps-later.result w'.in-Some-get.later.now
                (sym (c.deps.invariant w.in-Some.hash) ∙ sym w.get.ensures.value ∙ ap option_copied w'.in-Some-get.is) w'.index-deps-later.is
          ])
      | in_default w ↦
          ap (λ places. get bytes_eq places hash) w.places-is
          ∙ untyped-before c.args.second hash first dep rest (get bytes_eq c.deps.places hash) (sym key ∙ w.in_default.is)
    ])

pub returns : goal.returns
returns c hash = c.deps.invariant hash ∙ all-behind (typed_with c.args.second hash) c.args.deps.now c.deps.done c.deps-test.false
