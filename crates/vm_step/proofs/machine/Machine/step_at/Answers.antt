use Rattle.std.proofs.Common.{Err, None, Ok, Some, ap, false, refl, ◌∙◌}
use Rattle.machine_defs.specs.declared.step.Step.{Step}
use Rattle.machine_defs.specs.declared.step.Step.TheVariants.{Fault}
use Rattle.vm_step.specs.Lending.{with_memory}
use Rattle.vm_step.specs.Running.{RunningMachine, IsOneStep, stands, with_place}
use Rattle.vm_step.specs.contracts.machine.Machine.{the_view}
use Rattle.vm_step.proofs.Executing.{ended, machine_of}
use Rattle.vm_step.proofs.Stepping.{executed, finds, found-executed, looked-up, one-fault, steps-odd, steps-unfetched, steps-undecoded}
use Rattle.vm_step.proofs.machine.Machine.step_at.Goals as goal

pub returns-then-place-eq1 : goal.returns-then-place-eq1
returns-then-place-eq1 c =
    let old = with_place c.args.self.now c.args.place.now in
    let changed = c.stop.ensures.machine in
    ended (λ (new : RunningMachine) (answer : Step). IsOneStep old new answer c.stop.new.place.pc) _ _ (Fault 4) _
    (ap (λ (running : RunningMachine). running.last) changed) (λ went. cc)
    (one-fault old c.stop.new.self 4 _ (steps-odd old.machine _ (Fault 4) refl (ap machine_of changed) c.if-place-eq1.true) changed c.stop.ensures.nowhere)

pub returns-in-Err : goal.returns-in-Err
returns-in-Err c =
    let place = c.args.place.now in
    let old = with_place c.args.self.now place in
    let seen = with_place (the_view c.self.inside) place in
    let is-old = ap (λ (running : RunningMachine). with_place running place) c.self.view_is in
    let from = finds _ seen (Err c.in-Err.fault) _ is-old c.if-place-eq1.false c.instruction.ensures.exact c.in-Err.is in
    let same = looked-up _ seen c.instruction.new.self is-old c.instruction.ensures.unchanged in
    let number = c.fault_number.result in
    let changed = c.stop-in-Err.ensures.machine ∙ ap (λ (running : RunningMachine). record running { goes_on = false; last = Fault number }) same in
    ended (λ (new : RunningMachine) (answer : Step). IsOneStep old new answer c.stop-in-Err.new.place.pc) _ _ (Fault number) _
    (ap (λ (running : RunningMachine). running.last) changed) (λ went. cc)
    (one-fault old c.stop-in-Err.new.self number _ (steps-unfetched old.machine _ _ _ (ap Fault c.fault_number.ensures) (ap machine_of changed) from)
    changed c.stop-in-Err.ensures.nowhere)

pub returns-in-Ok-None : goal.returns-in-Ok-None
returns-in-Ok-None c =
    let place = c.args.place.now in
    let old = with_place c.args.self.now place in
    let seen = with_place (the_view c.self.inside) place in
    let is-old = ap (λ (running : RunningMachine). with_place running place) c.self.view_is in
    let from = finds _ seen (Ok None) _ is-old c.if-place-eq1.false c.instruction.ensures.exact (c.in-Ok-None.is ∙ ap Ok c.in-Ok-None.field-0-is) in
    let same = looked-up _ seen c.instruction.new.self is-old c.instruction.ensures.unchanged in
    let changed = c.stop-in-Ok-None.ensures.machine ∙ ap (λ (running : RunningMachine). record running { goes_on = false; last = Fault 4 }) same in
    ended (λ (new : RunningMachine) (answer : Step). IsOneStep old new answer c.stop-in-Ok-None.new.place.pc) _ _ (Fault 4) _
    (ap (λ (running : RunningMachine). running.last) changed) (λ went. cc)
    (one-fault old c.stop-in-Ok-None.new.self 4 _ (steps-undecoded old.machine _ (Fault 4) refl (ap machine_of changed) from)
    changed c.stop-in-Ok-None.ensures.nowhere)

pub returns : goal.returns
returns c =
    let place = c.args.place.now in
    let old = with_place c.args.self.now place in
    let seen = with_place (the_view c.self.inside) place in
    let is-old = ap (λ (running : RunningMachine). with_place running place) c.self.view_is in
    let decoded = c.in-Ok-Some.decoded in
    let from = finds _ seen (Ok (Some decoded)) _ is-old c.if-place-eq1.false c.instruction.ensures.exact (c.in-Ok-Some.is ∙ ap Ok c.in-Ok-Some.field-0-is) in
    let same = looked-up _ seen c.instruction.new.self is-old c.instruction.ensures.unchanged in
    let executes = executed old (with_memory seen c.instruction.new.self) _ decoded.0 c.from.result _ _ same (rw c.kept_form.ensures at c.execute.ensures) in
    found-executed old (stands c.execute.new.self c.execute.new.place) decoded c.from.result _ _ from c.from.ensures executes
