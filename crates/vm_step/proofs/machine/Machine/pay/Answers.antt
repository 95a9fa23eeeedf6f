use Rattle.std.proofs.Common.{◌≤◌, ◌^◌, subst}
use Rattle.vm_step.specs.Running.{RunningMachine}
use Rattle.vm_step.proofs.Budget.{paid-is, paid-lasts, paid-within}
use Rattle.vm_step.proofs.machine.Machine.pay.Goals as goal

pub returns-clause-machine : goal.returns-clause-machine
returns-clause-machine c =
    let bound = subst (λ (running : RunningMachine). running.machine.budget ≤ 2 ^ 40) c.self.view_is c.self.invariant.1 in
    paid-is c.args.self.now c.args.place.now c.args.cost bound c.requires.bound c.requires.within

pub returns-clause-within : goal.returns-clause-within
returns-clause-within c =
    let bound = subst (λ (running : RunningMachine). running.machine.budget ≤ 2 ^ 40) c.self.view_is c.self.invariant.1 in
    paid-lasts c.args.self.now c.args.place.now c.args.cost bound c.requires.bound c.requires.within

pub returns-clause-lasts : goal.returns-clause-lasts
returns-clause-lasts c =
    let bound = subst (λ (running : RunningMachine). running.machine.budget ≤ 2 ^ 40) c.self.view_is c.self.invariant.1 in
    paid-within c.args.self.now c.args.place.now c.args.cost bound c.requires.bound c.requires.within
