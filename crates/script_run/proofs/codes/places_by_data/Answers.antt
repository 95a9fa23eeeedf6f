use Rattle.std.proofs.Common.{◌≡◌, ℕ, ◌-◌, List, Some, if◌then◌else◌, length, ap, refl, ◌∙◌}
use Rattle.std.specs.HashMap.{get}
use Rattle.std.specs.Map.{lookup}
use Rattle.std.specs.Str.{bytes_eq}
use Rattle.chain_defs.specs.Row.{Row}
use Rattle.cell_state.specs.Copies.{ResolvedValue}
use Rattle.script_run.specs.Locating.{first_with_data}
use Rattle.script_run.proofs.CodeLemmas.{data-more, data-none, all-behind}
use Rattle.script_run.proofs.codes.places_by_data.Goals as goal

pub deps-init : goal.deps-init
deps-init c hash = ap (lookup (bytes_eq hash)) c.new-places.ensures.empty ∙ data-none c.args.deps.now hash

pub deps-preserved : goal.deps-preserved
deps-preserved c hash =
    let key : c.meta.inside.data_hash ≡ c.index-deps-place.result.row.data_hash =
    ap (λ (row : Row). row.data_hash) c.meta.view_is ∙ ap (λ (dep : ResolvedValue). dep.row.data_hash) c.dep.view_is in
    data-more c.args.deps.now c.deps.done (length c.args.deps.now - 1 - c.deps.done) c.index-deps-place.result hash (get bytes_eq c.deps.places hash) (get bytes_eq c.insert.new.self hash)
    c.deps-test.true refl c.index-deps-place.is (c.deps.invariant hash)
    (c.in_ok-insert.ensures.updates.0 hash
    ∙ ap (λ (h : List ℕ). if bytes_eq h hash then Some (length c.args.deps.now - 1 - c.deps.done) else get bytes_eq c.deps.places hash) key)

pub returns : goal.returns
returns c hash = c.deps.invariant hash ∙ all-behind (first_with_data hash) c.args.deps.now c.deps.done c.deps-test.false
