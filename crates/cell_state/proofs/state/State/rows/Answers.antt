use Rattle.std.proofs.Common.{sym, ◌∙◌, subst}
use Rattle.chain_defs.specs.Row.{ListsRows}
use Rattle.cell_state.specs.Slots.{StateValue, rows}
use Rattle.cell_state.proofs.ListLemmas.{counted}
use Rattle.cell_state.proofs.state.State.rows.Goals as goal

pub returns-clause-counted : goal.returns-clause-counted
returns-clause-counted c list lists =
    c.len.ensures.count
    ∙ counted c.self.inside.slots list c.self.invariant c.len.ensures.distinct (subst (λ (v : StateValue). ListsRows (rows v) list) (sym c.self.view_is) lists)
