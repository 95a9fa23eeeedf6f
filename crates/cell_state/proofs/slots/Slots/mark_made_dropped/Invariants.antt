use Rattle.std.proofs.Common.{length}
use Rattle.chain_defs.specs.CellLaws.{makes}
use Rattle.cell_state.specs.Passes.{spent_mark}
use Rattle.cell_state.proofs.UndoPasses.{Passing}
use Rattle.cell_state.proofs.slots.Slots.mark_made_dropped.Given as goal

abbrev pub invariant-loop-event : goal.invariant-loop-event
invariant-loop-event l = Passing makes (λ event. spent_mark) l.initial.events l.events l.initial.self l.self

abbrev pub decreases-loop-event : goal.decreases-loop-event
decreases-loop-event l = length l.events
