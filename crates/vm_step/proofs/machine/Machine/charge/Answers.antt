use Rattle.std.proofs.Common.{ap, sym, ◌∙◌, ◌^◌}
use Rattle.std.proofs.lemmas.Bool.{le-ltb, lt-ltb}
use Rattle.machine_defs.specs.Step.{charged}
use Rattle.vm_step.specs.Running.{RunningMachine}
use Rattle.vm_step.specs.contracts.machine.Machine.{the_view}
use Rattle.vm_step.proofs.Budget.{paid-is, paid-lasts, paid-within}
use Rattle.vm_step.proofs.machine.Machine.charge.Goals as goal

pub returns-then-self-ge-BELOW-clause-machine : goal.returns-then-self-ge-BELOW-clause-machine
returns-then-self-ge-BELOW-clause-machine c =
    let within = c.self.invariant.2 (ap (λ (running : RunningMachine). running.goes_on) c.self.view_is ∙ c.requires.goes_on) in
    paid-is (the_view c.self.inside) c.self.inside.place c.args.cycles c.self.invariant.1 c.requires.bound within
    ∙ ap (λ (running : RunningMachine). charged running.machine c.args.cycles) c.self.view_is

pub returns-then-self-ge-BELOW-clause-within : goal.returns-then-self-ge-BELOW-clause-within
returns-then-self-ge-BELOW-clause-within c =
    let within = c.self.invariant.2 (ap (λ (running : RunningMachine). running.goes_on) c.self.view_is ∙ c.requires.goes_on) in
    sym (le-ltb _ (2 ^ 63) c.if-self-ge-BELOW.true)
    ∙ paid-lasts (the_view c.self.inside) c.self.inside.place c.args.cycles c.self.invariant.1 c.requires.bound within

pub invariant_of-self-else-self-ge-BELOW : goal.invariant_of-self-else-self-ge-BELOW
invariant_of-self-else-self-ge-BELOW c =
    let within = c.self.invariant.2 (ap (λ (running : RunningMachine). running.goes_on) c.self.view_is ∙ c.requires.goes_on) in (
      c.self.invariant.0,
      c.self.invariant.1,
      λ on.
          paid-within (the_view c.self.inside) c.self.inside.place c.args.cycles c.self.invariant.1 c.requires.bound within
          (lt-ltb _ (2 ^ 63) c.if-self-ge-BELOW.false),
    )

pub returns-clause-machine : goal.returns-clause-machine
returns-clause-machine c =
    let within = c.self.invariant.2 (ap (λ (running : RunningMachine). running.goes_on) c.self.view_is ∙ c.requires.goes_on) in
    paid-is (the_view c.self.inside) c.self.inside.place c.args.cycles c.self.invariant.1 c.requires.bound within
    ∙ ap (λ (running : RunningMachine). charged running.machine c.args.cycles) c.self.view_is

pub returns-clause-within : goal.returns-clause-within
returns-clause-within c =
    let within = c.self.invariant.2 (ap (λ (running : RunningMachine). running.goes_on) c.self.view_is ∙ c.requires.goes_on) in
    sym (lt-ltb _ (2 ^ 63) c.if-self-ge-BELOW.false)
    ∙ paid-lasts (the_view c.self.inside) c.self.inside.place c.args.cycles c.self.invariant.1 c.requires.bound within
