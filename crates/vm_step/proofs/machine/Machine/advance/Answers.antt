use Rattle.std.proofs.Common.{refl}
use Rattle.machine_defs.specs.Step.{after}
use Rattle.vm_step.specs.Running.{with_place}
use Rattle.vm_step.proofs.Executing.{executes-went, went-stands}
use Rattle.vm_step.proofs.machine.Machine.advance.Goals as goal

pub returns : goal.returns
unfolding after
returns c =
    went-stands _ _ _ _ _ _ c.requires.went
    (executes-went (with_place c.args.self.now c.args.place.now) _ _ c.requires.goes_on refl)
