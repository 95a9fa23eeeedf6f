use Rattle.std.proofs.Common.{ap, refl, sym, ◌∙◌, w32}
use Rattle.std.proofs.lemmas.Int.{to_z-of_z}
use Rattle.machine_defs.specs.declared.step.Step.TheVariants.{Spent}
use Rattle.machine_defs.specs.Memory.{byte_count}
use Rattle.machine_defs.specs.Step.{register, store}
use Rattle.vm_step.specs.Running.{RunningMachine, range_at, with_place}
use Rattle.vm_step.proofs.Executing.{ended-stands}
use Rattle.vm_step.proofs.Paying.{executes-paid, executes-spent}
use Rattle.vm_step.proofs.machine.Machine.paid_store.Goals as goal

pub returns-then-not-pay : goal.returns-then-not-pay
returns-then-not-pay c =
    let self = c.args.self.now in
    ended-stands _ _ _ _ _ Spent _ (ap (λ (running : RunningMachine). running.last) c.stop.ensures.machine) (λ went. cc)
    (executes-spent _ _ c.args.cost (with_place self c.args.place.now) (with_place self c.pay.new.place) _ _ c.pay.ensures.machine refl
    (sym c.pay.ensures.within ∙ c.if-not-pay.true) c.stop.ensures.machine c.stop.ensures.nowhere)

pub returns : goal.returns
unfolding register
returns c =
    let self = c.args.self.now in
    executes-paid (λ machine. store machine c.args.length c.args.rs1 c.args.rs2 c.args.imm (byte_count c.args.width)) (λ machine. range_at machine c.args.rs1 c.args.imm (byte_count c.args.width)) c.args.cost
    (with_place self c.args.place.now) (with_place self c.pay.new.place) _ _ _ c.pay.ensures.machine refl
    (sym c.pay.ensures.within ∙ c.if-not-pay.false) refl (rw (to_z-of_z w32 c.args.imm c.ranges.imm) at c.store.ensures)
