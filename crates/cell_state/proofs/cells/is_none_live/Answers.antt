use Rattle.std.proofs.Common.{sym, ap, ◌∙◌}
use Rattle.std.specs.Prelude.{is_some}
use Rattle.chain_defs.proofs.WalkLemmas.{any-found, any-goes-on}
use Rattle.cell_state.proofs.cells.is_none_live.Goals as goal

pub returns-then-is_some : goal.returns-then-is_some
returns-then-is_some g c = any-found _ _ _ _ _ c.indexes-test.true c.indexes.invariant
    (ap is_some (sym c.get.ensures) ∙ sym c.is_some.ensures ∙ c.if-is_some.true)

pub indexes-preserved : goal.indexes-preserved
indexes-preserved g c = any-goes-on _ _ _ _ _ c.indexes-test.true c.indexes.invariant
    (ap is_some (sym c.get.ensures) ∙ sym c.is_some.ensures ∙ c.if-is_some.false)
