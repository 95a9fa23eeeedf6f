use Rattle.std.proofs.Common.{◌≡◌, true}
use Rattle.machine_trace.proofs.tracing.trace.Given as goal

abbrev pub invariant-steps : goal.invariant-steps
invariant-steps g l = record {
  goes_on : l.machine.goes_on ≡ true;
  loans : g.W.World.loans_of l.world ≡ g.W.World.loans_of l.fn.world;
  faults : g.W.World.faults l.world ≡ g.W.World.faults l.fn.world;
  damages : g.W.World.damages l.world ≡ g.W.World.damages l.fn.world;
}
