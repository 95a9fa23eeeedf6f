use Rattle.std.proofs.Common.{drop}
use Rattle.cell_state.specs.Passes.{unmarked}
use Rattle.cell_state.specs.Undo.{is_at}
use Rattle.cell_state.proofs.UndoPasses.{Passing}
use Rattle.cell_state.proofs.slots.Slots.unmark_rows.Given as goal

abbrev pub invariant-unmarked : goal.invariant-unmarked
invariant-unmarked l = Passing is_at (λ one. unmarked) l.spent (drop l.o-index l.spent) l.initial.self l.self
