use Rattle.std.proofs.Common.{ap, ◌∙◌}
use Rattle.machine_defs.specs.Step.{after}
use Rattle.vm_mem.specs.Kept.{target_of}
use Rattle.vm_step.specs.Running.{RunningMachine, with_place}
use Rattle.vm_step.proofs.Executing.{executes-went, went-stands, written}
use Rattle.vm_step.proofs.machine.Machine.jump.Goals as goal

pub returns : goal.returns
unfolding after
returns c =
    went-stands _ _ _ _ _ _ (ap (λ (running : RunningMachine). running.last) c.set_target.ensures ∙ c.requires.went)
    (executes-went (with_place c.args.self.now c.args.place.now) _ _ c.requires.goes_on
    (written _ _ c.args.place.now c.args.target (target_of c.args.rd) (after c.args.place.now.pc c.args.length) c.set_target.ensures))
