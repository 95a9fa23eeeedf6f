use Rattle.std.proofs.Common.{◌≡◌, ◌-◌, true, Some}
use Rattle.machine_defs.specs.World.{Items}
use Rattle.machine_defs.specs.Answer.{syscall}
use Rattle.vm_sys.proofs.RunLemmas.{Accounts, Runs}
use Rattle.vm_sys.proofs.running.run.Given as goal

abbrev pub invariant-steps : goal.invariant-steps
invariant-steps g l = record {
  goes_on : l.machine.goes_on ≡ true;
  told : g.W.World.told l.world ≡ g.W.World.told l.fn.world;
  loans : g.W.World.loans_of l.world ≡ g.W.World.loans_of l.fn.world;
  faults : g.W.World.faults l.world ≡ g.W.World.faults l.fn.world;
  damages : g.W.World.damages l.world ≡ g.W.World.damages l.fn.world;
  accounts : Accounts l.fn.machine.machine l.machine.machine;
  -- what is left to run ends as the whole does
  runs : (items : Items) → g.W.World.told l.fn.world ≡ Some items → Runs (syscall items) l.fn.machine l.machine;
}

-- the cycles that are left
abbrev pub decreases-steps : goal.decreases-steps
decreases-steps g l = l.machine.machine.budget - l.machine.machine.cycles
