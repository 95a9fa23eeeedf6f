use Rattle.std.proofs.Common.{◌≡◌, Some, true, false, ap, sym, ◌∙◌, arith}
use Rattle.chain_defs.specs.Row.{Row}
use Rattle.cell_state.specs.Copies.{ResolvedValue}
use Rattle.script_run.specs.Fitting.{record_of}
use Rattle.script_run.proofs.FitLemmas.{untyped-at, untyped-end}
use Rattle.script_run.proofs.fitting.untyped.Goals as goal

pub returns-then-not-is_typed : goal.returns-then-not-is_typed
returns-then-not-is_typed c =
    let entries = c.args.tree.now.entries in
    let block : c.meta.inside.block ≡ c.copy-item.result.row.block = ap (λ (row : Row). row.block) c.meta.view_is ∙ ap (λ (copy : ResolvedValue). copy.row.block) c.copy.view_is in
    ap Some (c.record_of.ensures ∙ ap (record_of entries) block)
    ∙ sym (c.copies.invariant
    ∙ untyped-at entries c.args.copies.now c.copies.copy-index c.copy-item.result false c.copies-test.true c.copy-item.is (sym c.if-not-is_typed.ensures))

pub copies-preserved : goal.copies-preserved
copies-preserved c =
    c.copies.invariant
    ∙ untyped-at c.args.tree.now.entries c.args.copies.now c.copies.copy-index c.copy-item.result true c.copies-test.true c.copy-item.is (sym c.if-not-is_typed.ensures)

pub returns : goal.returns
returns c = sym (c.copies.invariant ∙ untyped-end c.args.tree.now.entries c.args.copies.now c.copies.copy-index (omega (arith, c.copies-test.false)))
