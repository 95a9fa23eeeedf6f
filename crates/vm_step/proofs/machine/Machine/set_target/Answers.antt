use Rattle.std.proofs.Common.{refl}
use Rattle.vm_step.specs.contracts.machine.Machine.{the_view}
use Rattle.vm_step.proofs.Registers.{target-bound, target-written, zero-stays}
use Rattle.vm_step.proofs.machine.Machine.set_target.Goals as goal

pub bounds-self-inside-rd : goal.bounds-self-inside-rd
bounds-self-inside-rd c = target-bound c.args.rd c.requires

pub invariant_of-self : goal.invariant_of-self
invariant_of-self c =
    (zero-stays c.self.inside.registers c.args.rd c.args.value c.requires c.self.invariant.0, c.self.invariant.1, c.self.invariant.2)

pub returns : goal.returns
returns c =
    target-written c.args.self.now (the_view c.self.inside) c.self.inside.registers c.args.rd c.args.value c.self.view_is refl c.requires
