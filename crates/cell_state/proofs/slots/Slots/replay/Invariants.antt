use Rattle.std.proofs.Common.{length}
use Rattle.cell_state.proofs.PassLemmas.{Replaying}
use Rattle.cell_state.proofs.slots.Slots.replay.Given as goal

abbrev pub invariant-loop-event : goal.invariant-loop-event
invariant-loop-event l = Replaying l.block l.initial.events l.events l.initial.self l.self

abbrev pub decreases-loop-event : goal.decreases-loop-event
decreases-loop-event l = length l.events
