use Rattle.std.proofs.Common.{ap, ◌∙◌}
use Rattle.vm_step.specs.Running.{RunningMachine}
use Rattle.vm_step.proofs.machine.Machine.cycles.Goals as goal

pub returns : goal.returns
returns c = c.cycles_of.ensures.cycles ∙ ap (λ (running : RunningMachine). running.machine.cycles) c.self.view_is
