use Rattle.std.proofs.Common.{ap, subst, sym, ◌∙◌}
use Rattle.machine_defs.specs.declared.step.Step.{Step}
use Rattle.vm_mem.specs.Slots.{IsKept}
use Rattle.vm_step.specs.Running.{RunningMachine, with_place}
use Rattle.vm_step.specs.contracts.machine.Machine.{the_view}
use Rattle.vm_step.proofs.Going.{HasCome, comes-on, finds-slot, going-starts, is-ended, less-left, still-goes}
use Rattle.vm_step.proofs.machine.Machine.run.Goals as goal

pub steps-init : goal.steps-init
steps-init c =
    let on = ap (λ (running : RunningMachine). running.goes_on) c.self.view_is ∙ c.requires in
    (going-starts c.args.self.now (the_view c.self.inside) c.self.view_is c.requires, c.self.invariant.2 on)

pub go-requires-clause-goes_on : goal.go-requires-clause-goes_on
go-requires-clause-goes_on c =
    let come = c.steps.invariant in
    let at-is = sym c.from.ensures ∙ c.if-from-place.true in
    let kept = subst (λ (running : RunningMachine). IsKept running.machine.memory c.slot-slot.result) c.self-in-steps.view_is (c.slot-slot.ensures at-is) in
    let went = finds-slot c.args.self.now c.steps.self c.steps.place c.slot-slot.result c.steps.self.last at-is kept come in
    (still-goes c.args.self.now c.steps.self c.steps.place c.steps.self.last went come).0.goes_on

pub go-requires-clause-went : goal.go-requires-clause-went
go-requires-clause-went c =
    let come = c.steps.invariant in
    let at-is = sym c.from.ensures ∙ c.if-from-place.true in
    let kept = subst (λ (running : RunningMachine). IsKept running.machine.memory c.slot-slot.result) c.self-in-steps.view_is (c.slot-slot.ensures at-is) in
    let went = finds-slot c.args.self.now c.steps.self c.steps.place c.slot-slot.result c.steps.self.last at-is kept come in
    went

pub go-requires-clause-within : goal.go-requires-clause-within
go-requires-clause-within c =
    let come = c.steps.invariant in
    let at-is = sym c.from.ensures ∙ c.if-from-place.true in
    let kept = subst (λ (running : RunningMachine). IsKept running.machine.memory c.slot-slot.result) c.self-in-steps.view_is (c.slot-slot.ensures at-is) in
    let went = finds-slot c.args.self.now c.steps.self c.steps.place c.slot-slot.result c.steps.self.last at-is kept come in
    (still-goes c.args.self.now c.steps.self c.steps.place c.steps.self.last went come).1

pub go-requires-clause-at : goal.go-requires-clause-at
go-requires-clause-at c = sym c.from.ensures ∙ c.if-from-place.true

pub go-requires-clause-kept : goal.go-requires-clause-kept
go-requires-clause-kept c =
    subst (λ (running : RunningMachine). IsKept running.machine.memory c.slot-slot.result) c.self-in-steps.view_is
    (c.slot-slot.ensures (sym c.from.ensures ∙ c.if-from-place.true))

pub steps-smaller-then-from-place : goal.steps-smaller-then-from-place
steps-smaller-then-from-place c =
    let come = c.steps.invariant in
    let at-is = sym c.from.ensures ∙ c.if-from-place.true in
    let kept = subst (λ (running : RunningMachine). IsKept running.machine.memory c.slot-slot.result) c.self-in-steps.view_is (c.slot-slot.ensures at-is) in
    let went = finds-slot c.args.self.now c.steps.self c.steps.place c.slot-slot.result c.steps.self.last at-is kept come in
    less-left c.steps.self c.go.new.self c.steps.place c.go.new.place c.steps.self.last c.go.new.self.last went c.go.ensures

pub steps-preserved-then-from-place : goal.steps-preserved-then-from-place
steps-preserved-then-from-place c =
    let come = c.steps.invariant in
    let at-is = sym c.from.ensures ∙ c.if-from-place.true in
    let kept = subst (λ (running : RunningMachine). IsKept running.machine.memory c.slot-slot.result) c.self-in-steps.view_is (c.slot-slot.ensures at-is) in
    let went = finds-slot c.args.self.now c.steps.self c.steps.place c.slot-slot.result c.steps.self.last at-is kept come in
    comes-on c.args.self.now (with_place c.steps.self c.steps.place) c.go.new.self c.go.new.place c.go.new.self.last
    (still-goes c.args.self.now c.steps.self c.steps.place c.steps.self.last went come).0 c.go.ensures

pub step_apart-requires-clause-goes_on : goal.step_apart-requires-clause-goes_on
step_apart-requires-clause-goes_on c =
    let come = c.steps.invariant in
    (still-goes c.args.self.now c.steps.self c.steps.place c.steps.self.last (ap (λ (running : RunningMachine). running.last) (sym c.self-in-steps.view_is) ∙ c.in-Went.is) come).0.goes_on

pub step_apart-requires-clause-within : goal.step_apart-requires-clause-within
step_apart-requires-clause-within c =
    let come = c.steps.invariant in
    (still-goes c.args.self.now c.steps.self c.steps.place c.steps.self.last (ap (λ (running : RunningMachine). running.last) (sym c.self-in-steps.view_is) ∙ c.in-Went.is) come).1

pub steps-smaller : goal.steps-smaller
steps-smaller c =
    let went = ap (λ (running : RunningMachine). running.last) (sym c.self-in-steps.view_is) ∙ c.in-Went.is in
    less-left c.steps.self c.step_apart.new.self c.steps.place c.step_apart.new.place c.steps.self.last c.step_apart.new.self.last went c.step_apart.ensures

pub steps-preserved : goal.steps-preserved
steps-preserved c =
    let come = c.steps.invariant in
    comes-on c.args.self.now (with_place c.steps.self c.steps.place) c.step_apart.new.self c.step_apart.new.place c.step_apart.new.self.last
    (still-goes c.args.self.now c.steps.self c.steps.place c.steps.self.last (ap (λ (running : RunningMachine). running.last) (sym c.self-in-steps.view_is) ∙ c.in-Went.is) come).0 c.step_apart.ensures

pub returns-in_default : goal.returns-in_default
returns-in_default c =
    let is = ap (λ (running : RunningMachine). running.last) (sym c.self-in-steps.view_is) in
    let come = subst (λ (it : Step). HasCome it c.args.self.now c.steps.self c.steps.place) is c.steps.invariant in
    let ended = is-ended c.args.self.now c.steps.self c.steps.place c.self-in-steps.inside.last c.in_default.not-Went come in
    record { stops = ended.stops; goes_on = ended.goes_on; room = ended.room; pages_kept = ended.pages_kept; pages_added = ended.pages_added }
