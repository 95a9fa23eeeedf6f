use Rattle.std.proofs.Common.{refl, subst, sym, ◌∙◌}
use Rattle.machine_defs.specs.declared.step.Step.{Step}
use Rattle.machine_defs.specs.declared.step.Step.TheVariants.{Went}
use Rattle.vm_step.specs.Running.{RunningMachine, IsNext, IsOneStep, with_place}
use Rattle.vm_step.specs.contracts.machine.Machine.{the_view}
use Rattle.vm_step.proofs.Executing.{ended, went-on}
use Rattle.vm_step.proofs.Stepping.{nowhere-next, one-of}
use Rattle.vm_step.proofs.machine.Machine.step_apart.Goals as goal

pub returns-in_default : goal.returns-in_default
returns-in_default c =
    let place = c.args.place.now in
    let new = c.step.new.self in
    let one = one-of (with_place (the_view c.self.inside) place) new c.step.result 1 c.step.ensures.steps c.step.ensures.goes_on c.step.ensures.room
    c.step.ensures.allocated c.step.ensures.pages_kept c.step.ensures.pages_added (nowhere-next new c.step.result 1 c.in_default.not-Went refl) in
    let of-old = subst (λ (it : RunningMachine). IsOneStep (with_place it place) new c.step.result 1) c.self.view_is one in
    ended (λ (it : RunningMachine) (said : Step). IsOneStep (with_place c.args.self.now place) it said 1) new (record place { pc = 1 }) c.step.result new.last
    c.step.ensures.last c.in_default.not-Went of-old

pub returns : goal.returns
returns c =
    let place = c.args.place.now in
    let old = with_place c.args.self.now place in
    let new = c.step.new.self in
    let view = the_view c.self-2.inside in
    let one = one-of (with_place (the_view c.self.inside) place) new c.step.result new.machine.pc c.step.ensures.steps c.step.ensures.goes_on c.step.ensures.room
    c.step.ensures.allocated c.step.ensures.pages_kept c.step.ensures.pages_added
    (subst (λ (it : Step). IsNext it new new.machine.pc) (sym c.in-Went.is) refl) in
    let of-old = subst (λ (it : RunningMachine). IsOneStep (with_place it place) new c.step.result new.machine.pc) c.self.view_is one in
    let that-went = subst (λ (it : Step). IsOneStep old new it new.machine.pc) c.in-Went.is of-old in
    let of-view = subst (λ (it : RunningMachine). IsOneStep old it Went it.machine.pc) (sym c.self-2.view_is) that-went in
    let placed = subst (λ (it : RunningMachine). IsOneStep old (with_place it c.self-2.inside.place) Went view.machine.pc) c.self-2.view_is of-view in
    went-on (λ (it : RunningMachine) (said : Step). IsOneStep old it said view.machine.pc) new c.self-2.inside.place new.last
    (c.step.ensures.last ∙ c.in-Went.is) placed
