use Rattle.std.proofs.Common.{ap, w32, ◌∙◌}
use Rattle.std.proofs.lemmas.Int.{to_z-of_z}
use Rattle.machine_defs.specs.Step.{after, register}
use Rattle.vm_step.specs.Running.{RunningMachine, with_place}
use Rattle.vm_step.specs.contracts.machine.Machine.{the_view}
use Rattle.vm_step.proofs.Executing.{executes-stored, went-stands}
use Rattle.vm_step.proofs.machine.Machine.store.Goals as goal

pub returns-in-Ok : goal.returns-in-Ok
unfolding after register
returns-in-Ok c =
    let place = c.args.place.now in
    let imm = to_z-of_z w32 c.args.imm c.ranges.imm in
    let memory = ap (λ (running : RunningMachine). running.machine.memory) c.self.view_is in
    let stores =
    rw (c.in-Ok.is, c.moved-at.ensures, c.reg.ensures, c.reg-value.ensures, imm, memory) at c.store.ensures.stores in
    let allocated = rw (c.moved-at.ensures, c.reg.ensures, imm) at c.in-Ok.ensures.allocated in
    let pages_added = rw (c.moved-at.ensures, c.reg.ensures, imm) at c.store.ensures.pages_added in
    went-stands _ _ _ (the_view (record c.self.inside { memory = c.store.new.self })) (record place { pc = after place.pc c.args.length }) _
    (ap (λ (running : RunningMachine). running.last) c.self.view_is ∙ c.requires.went)
    (executes-stored _ _ (with_place c.args.self.now place) (with_place (the_view c.self.inside) place) c.store.new.self c.args.length
    (ap (λ (running : RunningMachine). with_place running place) c.self.view_is) c.requires.goes_on stores allocated c.store.ensures.pages_kept pages_added)
