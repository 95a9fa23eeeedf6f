use Rattle.std.proofs.Common.{None, ap, refl, sym, ◌∙◌, w32}
use Rattle.std.proofs.lemmas.Int.{to_z-of_z}
use Rattle.machine_defs.specs.declared.step.Step.TheVariants.{Spent}
use Rattle.machine_defs.specs.Step.{branch}
use Rattle.vm_step.specs.Running.{RunningMachine, with_place}
use Rattle.vm_step.proofs.Executing.{ended-stands}
use Rattle.vm_step.proofs.Paying.{executes-paid, executes-spent}
use Rattle.vm_step.proofs.machine.Machine.paid_branch.Goals as goal

pub returns-then-not-pay : goal.returns-then-not-pay
returns-then-not-pay c =
    let self = c.args.self.now in
    ended-stands _ _ _ _ _ Spent _ (ap (λ (running : RunningMachine). running.last) c.stop.ensures.machine) (λ went. cc)
    (executes-spent _ _ c.args.cost (with_place self c.args.place.now) (with_place self c.pay.new.place) _ _ c.pay.ensures.machine refl
    (sym c.pay.ensures.within ∙ c.if-not-pay.true) c.stop.ensures.machine c.stop.ensures.nowhere)

pub returns : goal.returns
returns c =
    let self = c.args.self.now in
    executes-paid (λ machine. branch machine c.args.length c.args.taken c.args.imm) (λ machine. None) c.args.cost
    (with_place self c.args.place.now) (with_place self c.pay.new.place) _ _ _ c.pay.ensures.machine refl
    (sym c.pay.ensures.within ∙ c.if-not-pay.false) refl (rw (to_z-of_z w32 c.args.imm c.ranges.imm) at c.branch-self.ensures)
