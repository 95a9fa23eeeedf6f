use Rattle.std.proofs.Common.{ap}
use Rattle.machine_defs.specs.Step.{after}
use Rattle.vm_step.specs.Running.{RunningMachine, with_place}
use Rattle.vm_step.proofs.Executing.{ended-stands, executes-ecall}
use Rattle.vm_step.proofs.machine.Machine.ecall.Goals as goal

pub returns : goal.returns
unfolding after
returns c =
    ended-stands _ _ _ _ _ _ _ (ap (λ (running : RunningMachine). running.last) c.end.ensures.machine) (λ went. cc)
    (executes-ecall (with_place c.args.self.now c.args.place.now) _ _ _ c.requires.goes_on c.end.ensures.machine c.end.ensures.nowhere)
