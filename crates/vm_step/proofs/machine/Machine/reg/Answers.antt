use Rattle.std.proofs.Common.{refl, ap, ◌∙◌}
use Rattle.machine_defs.specs.Step.{register}
use Rattle.vm_step.specs.Running.{RunningMachine}
use Rattle.vm_step.specs.contracts.machine.Machine.{the_view}
use Rattle.vm_step.proofs.Registers.{register-read}
use Rattle.vm_step.proofs.machine.Machine.reg.Goals as goal

pub returns : goal.returns
returns c =
    register-read (the_view c.self.inside).machine c.self.inside.registers c.args.i refl c.requires c.self.invariant.0
    ∙ ap (λ (running : RunningMachine). register running.machine c.args.i) c.self.view_is
