use Rattle.vm_sys.proofs.Exits.{paid-done, paid-spent}
use Rattle.std.proofs.Common.{ap}
use Rattle.vm_sys.proofs.loading.pay.Goals as goal

pub returns-then-not-charge-clause-answer : goal.returns-then-not-charge-clause-answer
returns-then-not-charge-clause-answer c =
    paid-spent c.args.machine.now.machine c.charge.new.self.machine c.args.count c.charge.result c.charge.ensures.machine c.charge.ensures.within c.if-not-charge.true

pub returns-clause-answer : goal.returns-clause-answer
returns-clause-answer c =
    paid-done c.args.machine.now.machine c.charge.new.self.machine c.set_reg.new.self.machine c.args.count c.charge.result c.charge.ensures.machine
    c.charge.ensures.within c.if-not-charge.false (ap (λ running. running.machine) c.set_reg.ensures)
