use Rattle.std.proofs.Common.{refl}
use Rattle.vm_step.specs.contracts.machine.Machine.{the_view}
use Rattle.vm_step.proofs.Registers.{register-written}
use Rattle.vm_step.proofs.machine.Machine.set_reg.Goals as goal

pub returns-then-i-ne0 : goal.returns-then-i-ne0
returns-then-i-ne0 c =
    rw c.from.ensures (register-written c.args.self.now (the_view c.self.inside) c.self.inside.registers c.args.i c.args.value c.self.view_is refl c.if-i-ne0.true c.requires)
