use Rattle.std.proofs.Common.{◌≡◌, ◌+◌, ◌-◌, ◌≤◌, ℕ, ap, arith, refl, subst, sym}
use Rattle.machine_defs.specs.Program.{initial_registers, new_machine}
use Rattle.vm_step.specs.Running.{cycles_of}
use Rattle.vm_step.proofs.Budget.{cycles-at-first}
use Rattle.vm_step.proofs.machine.Machine.new.Goals as goal

pub invariant_of-result : goal.invariant_of-result
invariant_of-result c = (
  refl,
  c.requires.bound,
  λ on.
      subst (λ (cycles : ℕ). cycles ≤ c.args.budget) (sym (cycles-at-first c.args.budget c.args.cycles c.requires.bound c.requires.within)) c.requires.within,
)

pub returns-clause-machine : goal.returns-clause-machine
unfolding new_machine initial_registers
returns-clause-machine c =
    let first = cycles-at-first c.args.budget c.args.cycles c.requires.bound c.requires.within in
    let added : cycles_of c.args.budget (c.args.budget - c.args.cycles) ≡ 0 + c.args.cycles = omega (arith, first) in
    ap (λ (cycles : ℕ). record (new_machine c.args.memory.memory c.args.pc c.args.budget) { cycles = cycles }) added
