use Rattle.std.proofs.Common.{◌+◌, List, drop, refl, sym, subst}
use Rattle.chain_defs.specs.Schema.{OutPoint}
use Rattle.chain_defs.specs.Row.{Row}
use Rattle.cell_state.specs.Undo.{is_at, row_written}
use Rattle.cell_state.proofs.UndoPasses.{Passing, passing-push, row-changes, rows-from}
use Rattle.cell_state.proofs.slots.Slots.write_rows.Goals as goal

pub written-preserved : goal.written-preserved
written-preserved c =
    let all : List (OutPoint × Row) = c.args.spent.now in
    let i = c.written.o-index in
    let one : OutPoint × Row = c.written-item.result in
    passing-push is_at row_written all one (drop (i + 1) all) c.args.self.now c.written.self c.write_row.new.self
    (subst (λ (left : List (OutPoint × Row)). Passing is_at row_written all left c.args.self.now c.written.self)
    (rows-from all i one c.written-test.true (sym c.written-item.is)) c.written.invariant)
    (row-changes (row_written one) one one.0 c.written.self c.write_row.new.self refl c.write_row.ensures.at) c.write_row.ensures.spare
