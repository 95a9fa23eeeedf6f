use Rattle.std.proofs.Common.{drop}
use Rattle.cell_state.proofs.UndoPasses.{PuttingBack}
use Rattle.cell_state.proofs.slots.Slots.mark_put_back.Given as goal

abbrev pub invariant-put : goal.invariant-put
invariant-put l = PuttingBack l.spent (drop l.o-index l.spent) l.initial.self l.self
