use Rattle.std.proofs.Common.{ℕ, ap, sym, subst, ◌∙◌}
use Rattle.cell_state.specs.Copies.{ResolvedTxValue}
use Rattle.script_run.specs.Fitting.{Fits}
use Rattle.script_run.specs.Shown.{output_rows}
use Rattle.script_run.proofs.FitLemmas.{fits}
use Rattle.script_run.proofs.shown.ShownTx.of.Goals as goal

pub invariant_of-result : goal.invariant_of-result
invariant_of-result c = (
  c.in-Ok.ensures ∙ ap (λ (t : ResolvedTxValue). output_rows t.tx) c.it.view_is,
  subst (λ (n : ℕ). Fits n c.args.it.now) (sym c.len.ensures.len) (fits c.args.tree.now.entries c.args.it.now (sym c.unfit.ensures.exact ∙ c.in_default.is)),
  c.unfit.ensures.few c.in_default.is,
)
