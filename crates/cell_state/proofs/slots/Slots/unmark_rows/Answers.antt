use Rattle.std.proofs.Common.{◌+◌, List, drop, refl, sym, subst}
use Rattle.chain_defs.specs.Schema.{OutPoint}
use Rattle.chain_defs.specs.Row.{Row}
use Rattle.cell_state.specs.Passes.{unmarked}
use Rattle.cell_state.specs.Undo.{is_at}
use Rattle.cell_state.proofs.UndoPasses.{Passing, passing-push, row-changes, rows-from}
use Rattle.cell_state.proofs.slots.Slots.unmark_rows.Goals as goal

pub unmarked-preserved : goal.unmarked-preserved
unmarked-preserved c =
    let all : List (OutPoint × Row) = c.args.spent.now in
    let i = c.unmarked.o-index in
    let one : OutPoint × Row = c.unmarked-item.result in
    passing-push is_at (λ one. unmarked) all one (drop (i + 1) all) c.args.self.now c.unmarked.self c.unmark.new.self
    (subst (λ (left : List (OutPoint × Row)). Passing is_at (λ one. unmarked) all left c.args.self.now c.unmarked.self)
    (rows-from all i one c.unmarked-test.true (sym c.unmarked-item.is)) c.unmarked.invariant)
    (row-changes unmarked one one.0 c.unmarked.self c.unmark.new.self refl c.unmark.ensures.at) c.unmark.ensures.spare
