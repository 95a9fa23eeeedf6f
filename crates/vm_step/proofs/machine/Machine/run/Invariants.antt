use Rattle.vm_step.proofs.Going.{HasCome, left_after}
use Rattle.vm_step.proofs.machine.Machine.run.Given as goal

abbrev pub invariant-steps : goal.invariant-steps
invariant-steps l = HasCome l.self.last l.fn.self l.self l.place

-- the cycles that are left, and none once it has ended
abbrev pub decreases-steps : goal.decreases-steps
decreases-steps l = left_after l.self.last l.self l.place
