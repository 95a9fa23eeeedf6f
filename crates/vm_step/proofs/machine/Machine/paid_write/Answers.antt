use Rattle.std.proofs.Common.{None, ap, refl, sym, ◌∙◌}
use Rattle.machine_defs.specs.declared.step.Step.TheVariants.{Spent}
use Rattle.machine_defs.specs.Step.{write}
use Rattle.vm_mem.specs.Kept.{target_of}
use Rattle.vm_step.specs.Running.{RunningMachine, with_place}
use Rattle.vm_step.proofs.Executing.{ended-stands}
use Rattle.vm_step.proofs.Paying.{executes-paid, executes-spent}
use Rattle.vm_step.proofs.machine.Machine.paid_write.Goals as goal

pub returns-then-not-pay : goal.returns-then-not-pay
returns-then-not-pay c =
    let self = c.args.self.now in
    ended-stands _ _ _ _ _ Spent _ (ap (λ (running : RunningMachine). running.last) c.stop.ensures.machine) (λ went. cc)
    (executes-spent _ _ c.args.cost (with_place self c.args.place.now) (with_place self c.pay.new.place) _ _ c.pay.ensures.machine refl
    (sym c.pay.ensures.within ∙ c.if-not-pay.true) c.stop.ensures.machine c.stop.ensures.nowhere)

pub returns : goal.returns
returns c =
    let self = c.args.self.now in
    executes-paid (λ machine. write machine c.args.length (target_of c.args.rd) c.args.value) (λ machine. None) c.args.cost
    (with_place self c.args.place.now) (with_place self c.pay.new.place) _ _ _ c.pay.ensures.machine refl
    (sym c.pay.ensures.within ∙ c.if-not-pay.false) refl c.write.ensures
