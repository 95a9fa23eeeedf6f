use Rattle.std.proofs.Common.{◌≡◌, length, ◌++◌, ◌∷◌, [], List, ℕ, sym, ap, ◌∙◌, arith}
use Rattle.std.proofs.lemmas.List.{take_all}
use Rattle.chain_defs.specs.Schema.{RawTransaction}
use Rattle.tx_rules.proofs.AllThere.{take-push}
use Rattle.tx_rules.proofs.form.header_deps_of.Goals as goal

pub deps-preserved : goal.deps-preserved
deps-preserved c =
    c.in_ok-push.ensures.items ∙ ap (λ (so_far : List (List ℕ)). so_far ++ c.header_dep_at.result ∷ []) c.deps.invariant
    ∙ sym (take-push c.args.tx.now.raw.header_deps c.deps.i c.header_dep_at.result c.header_dep_at.ensures)

pub returns : goal.returns
returns c =
    let count : c.header_deps_count-i-end.result ≡ length c.args.tx.now.raw.header_deps = c.header_deps_count-i-end.ensures.value ∙ ap (λ (raw : RawTransaction). length raw.header_deps) c.raw-2.ensures in
    c.deps.invariant ∙ take_all c.deps.i c.args.tx.now.raw.header_deps (omega (arith, c.deps-test.false, count))
