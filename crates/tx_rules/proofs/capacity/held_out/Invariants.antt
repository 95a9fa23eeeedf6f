use Rattle.std.proofs.Common.{◌≡◌, ◌+◌, ◌^◌, ◌<◌, drop}
use Rattle.std.specs.Prelude.{sum_by}
use Rattle.rule_defs.specs.Capacity.{held_out}
use Rattle.tx_rules.proofs.capacity.held_out.Given as goal

abbrev pub invariant-outputs : goal.invariant-outputs
invariant-outputs l = (l.sum + sum_by (λ output. output.capacity) (drop l.i l.tx.raw.outputs) ≡ held_out l.tx) × (l.sum < 2 ^ 64)
