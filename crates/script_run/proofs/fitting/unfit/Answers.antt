use Rattle.std.proofs.Common.{◌≡◌, length, ap, sym, ◌∙◌, arith}
use Rattle.chain_defs.specs.Schema.{RawTransaction}
use Rattle.cell_state.specs.Copies.{ResolvedTxValue}
use Rattle.script_run.specs.Fitting.{unkept, untyped}
use Rattle.script_run.proofs.FitLemmas.{unfit-uncopied, unfit-inputs, unfit-deps, unfit-headers}
use Rattle.script_run.proofs.fitting.unfit.Goals as goal

pub returns-then-len-inputs_count-clause-exact : goal.returns-then-len-inputs_count-clause-exact
returns-then-len-inputs_count-clause-exact c =
    let filled = c.tx.inside.inputs.ok.0 in
    let inputs : length c.tx.inside.inputs.items ≡ length c.args.tx.now.inputs = ap (λ (t : ResolvedTxValue). length t.inputs) c.tx.view_is in
    let copies : c.len.result ≡ length c.args.tx.now.inputs = omega (arith, filled, c.len.ensures, inputs) in
    let count : c.inputs_count.result ≡ length c.args.tx.now.tx.raw.inputs =
    c.inputs_count.ensures.value ∙ ap (λ (raw : RawTransaction). length raw.inputs) c.raw.ensures ∙ ap (λ (t : ResolvedTxValue). length t.tx.raw.inputs) c.tx.view_is in
    unfit-uncopied c.args.tree.now.entries c.args.tx.now (λ same. c.if-len-inputs_count.true (copies ∙ same ∙ sym count))

pub returns-in-Some-clause-exact : goal.returns-in-Some-clause-exact
returns-in-Some-clause-exact c =
    let entries = c.args.tree.now.entries in
    let filled = c.tx.inside.inputs.ok.0 in
    let inputs : length c.tx.inside.inputs.items ≡ length c.args.tx.now.inputs = ap (λ (t : ResolvedTxValue). length t.inputs) c.tx.view_is in
    let copies : c.len.result ≡ length c.args.tx.now.inputs = omega (arith, filled, c.len.ensures, inputs) in
    let count : c.inputs_count.result ≡ length c.args.tx.now.tx.raw.inputs =
    c.inputs_count.ensures.value ∙ ap (λ (raw : RawTransaction). length raw.inputs) c.raw.ensures ∙ ap (λ (t : ResolvedTxValue). length t.tx.raw.inputs) c.tx.view_is in
    let of_inputs : c.deref.result.now ≡ c.args.tx.now.inputs = c.deref.ensures.value ∙ ap (λ (t : ResolvedTxValue). t.inputs) c.tx.view_is in
    unfit-inputs entries c.args.tx.now c.in-Some.at (sym copies ∙ c.if-len-inputs_count.false ∙ count)
    (sym (ap (untyped entries) of_inputs) ∙ sym c.untyped.ensures ∙ c.in-Some.is)

pub returns-in-Some-untyped-clause-exact : goal.returns-in-Some-untyped-clause-exact
returns-in-Some-untyped-clause-exact c =
    let entries = c.args.tree.now.entries in
    let filled = c.tx.inside.inputs.ok.0 in
    let inputs : length c.tx.inside.inputs.items ≡ length c.args.tx.now.inputs = ap (λ (t : ResolvedTxValue). length t.inputs) c.tx.view_is in
    let copies : c.len.result ≡ length c.args.tx.now.inputs = omega (arith, filled, c.len.ensures, inputs) in
    let count : c.inputs_count.result ≡ length c.args.tx.now.tx.raw.inputs =
    c.inputs_count.ensures.value ∙ ap (λ (raw : RawTransaction). length raw.inputs) c.raw.ensures ∙ ap (λ (t : ResolvedTxValue). length t.tx.raw.inputs) c.tx.view_is in
    let of_inputs : c.deref.result.now ≡ c.args.tx.now.inputs = c.deref.ensures.value ∙ ap (λ (t : ResolvedTxValue). t.inputs) c.tx.view_is in
    let of_deps : c.deref-2.result.now ≡ c.args.tx.now.deps = c.deref-2.ensures.value ∙ ap (λ (t : ResolvedTxValue). t.deps) c.tx.view_is in
    unfit-deps entries c.args.tx.now c.in-Some-untyped.at (sym copies ∙ c.if-len-inputs_count.false ∙ count)
    (sym (ap (untyped entries) of_inputs) ∙ sym c.untyped.ensures ∙ c.in_default.is)
    (sym (ap (untyped entries) of_deps) ∙ sym c.untyped-2.ensures ∙ c.in-Some-untyped.is)

pub returns-clause-exact : goal.returns-clause-exact
returns-clause-exact c =
    let entries = c.args.tree.now.entries in
    let filled = c.tx.inside.inputs.ok.0 in
    let inputs : length c.tx.inside.inputs.items ≡ length c.args.tx.now.inputs = ap (λ (t : ResolvedTxValue). length t.inputs) c.tx.view_is in
    let copies : c.len.result ≡ length c.args.tx.now.inputs = omega (arith, filled, c.len.ensures, inputs) in
    let count : c.inputs_count.result ≡ length c.args.tx.now.tx.raw.inputs =
    c.inputs_count.ensures.value ∙ ap (λ (raw : RawTransaction). length raw.inputs) c.raw.ensures ∙ ap (λ (t : ResolvedTxValue). length t.tx.raw.inputs) c.tx.view_is in
    let of_inputs : c.deref.result.now ≡ c.args.tx.now.inputs = c.deref.ensures.value ∙ ap (λ (t : ResolvedTxValue). t.inputs) c.tx.view_is in
    let of_deps : c.deref-2.result.now ≡ c.args.tx.now.deps = c.deref-2.ensures.value ∙ ap (λ (t : ResolvedTxValue). t.deps) c.tx.view_is in
    let of_headers : c.deref-3.result.now ≡ c.args.tx.now.headers = c.deref-3.ensures.value ∙ ap (λ (t : ResolvedTxValue). t.headers) c.tx.view_is in
    c.unkept.ensures ∙ (λ i. unkept (c.len-2.ensures.len i) (of_headers i))
    ∙ unfit-headers entries c.args.tx.now (sym copies ∙ c.if-len-inputs_count.false ∙ count)
    (sym (ap (untyped entries) of_inputs) ∙ sym c.untyped.ensures ∙ c.in_default.is)
    (sym (ap (untyped entries) of_deps) ∙ sym c.untyped-2.ensures ∙ c.in_default-untyped.is)
