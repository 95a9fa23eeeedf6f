use Rattle.std.proofs.Common.{ap, sym}
use Rattle.vm_step.specs.Running.{RunningMachine}
use Rattle.vm_step.specs.contracts.machine.Machine.{the_view}
use Rattle.vm_step.proofs.Stepping.{stepped-on, stepped-out}
use Rattle.vm_step.proofs.machine.Machine.step.Goals as goal

pub returns-in-Went-clause-steps : goal.returns-in-Went-clause-steps
returns-in-Went-clause-steps c =
    (stepped-on c.args.self.now (the_view c.self.inside) c.step_at.new.self (the_view c.self-2.inside) c.step_at.new.place _
    c.self.view_is c.self-2.view_is c.in-Went.is c.step_at.ensures).steps

pub returns-in-Went-clause-goes_on : goal.returns-in-Went-clause-goes_on
returns-in-Went-clause-goes_on c =
    (stepped-on c.args.self.now (the_view c.self.inside) c.step_at.new.self (the_view c.self-2.inside) c.step_at.new.place _
    c.self.view_is c.self-2.view_is c.in-Went.is c.step_at.ensures).goes_on

pub returns-in-Went-clause-room : goal.returns-in-Went-clause-room
returns-in-Went-clause-room c =
    (stepped-on c.args.self.now (the_view c.self.inside) c.step_at.new.self (the_view c.self-2.inside) c.step_at.new.place _
    c.self.view_is c.self-2.view_is c.in-Went.is c.step_at.ensures).room

pub returns-in-Went-clause-allocated : goal.returns-in-Went-clause-allocated
returns-in-Went-clause-allocated c =
    (stepped-on c.args.self.now (the_view c.self.inside) c.step_at.new.self (the_view c.self-2.inside) c.step_at.new.place _
    c.self.view_is c.self-2.view_is c.in-Went.is c.step_at.ensures).allocated

pub returns-in-Went-clause-pages_kept : goal.returns-in-Went-clause-pages_kept
returns-in-Went-clause-pages_kept c =
    (stepped-on c.args.self.now (the_view c.self.inside) c.step_at.new.self (the_view c.self-2.inside) c.step_at.new.place _
    c.self.view_is c.self-2.view_is c.in-Went.is c.step_at.ensures).pages_kept

pub returns-in-Went-clause-pages_added : goal.returns-in-Went-clause-pages_added
returns-in-Went-clause-pages_added c =
    (stepped-on c.args.self.now (the_view c.self.inside) c.step_at.new.self (the_view c.self-2.inside) c.step_at.new.place _
    c.self.view_is c.self-2.view_is c.in-Went.is c.step_at.ensures).pages_added

pub returns-in_default : goal.returns-in_default
returns-in_default c =
    let is = ap (λ (running : RunningMachine). running.last) (sym c.self-2.view_is) in
    let one = stepped-out c.args.self.now (the_view c.self.inside) c.step_at.new.self c.step_at.new.place c.self-2.inside.last _
    c.self.view_is is c.in_default.not-Went c.step_at.ensures in
    record { steps = one.steps; goes_on = one.goes_on; last = is; room = one.room; allocated = one.allocated; pages_kept = one.pages_kept; pages_added = one.pages_added }
