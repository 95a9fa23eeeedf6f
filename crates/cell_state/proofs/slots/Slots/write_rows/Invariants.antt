use Rattle.std.proofs.Common.{drop}
use Rattle.cell_state.specs.Undo.{is_at, row_written}
use Rattle.cell_state.proofs.UndoPasses.{Passing}
use Rattle.cell_state.proofs.slots.Slots.write_rows.Given as goal

abbrev pub invariant-written : goal.invariant-written
invariant-written l = Passing is_at row_written l.spent (drop l.o-index l.spent) l.initial.self l.self
