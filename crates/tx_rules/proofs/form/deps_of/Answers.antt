use Rattle.std.proofs.Common.{◌≡◌, length, ◌++◌, ◌∷◌, [], map, List, ℕ, sym, ap, ◌∙◌, arith}
use Rattle.std.proofs.lemmas.List.{take_all, length-map}
use Rattle.chain_defs.specs.Shape.{encoded}
use Rattle.chain_defs.specs.Schema.{cell_dep, RawTransaction}
use Rattle.tx_rules.proofs.AllThere.{take-push}
use Rattle.tx_rules.proofs.form.deps_of.Goals as goal

pub deps-preserved : goal.deps-preserved
deps-preserved c =
    c.in_ok-push.ensures.items ∙ ap (λ (so_far : List (List ℕ)). so_far ++ c.dep_at.result ∷ []) c.deps.invariant
    ∙ sym (take-push (map (encoded cell_dep) c.args.tx.now.raw.cell_deps) c.deps.i c.dep_at.result c.dep_at.ensures)

pub returns : goal.returns
returns c =
    let count : c.cell_deps_count-i-end.result ≡ length c.args.tx.now.raw.cell_deps = c.cell_deps_count-i-end.ensures.value ∙ ap (λ (raw : RawTransaction). length raw.cell_deps) c.raw-2.ensures in
    c.deps.invariant ∙ take_all c.deps.i (map (encoded cell_dep) c.args.tx.now.raw.cell_deps) (omega (arith, c.deps-test.false, count, length-map c.args.tx.now.raw.cell_deps (encoded cell_dep)))
