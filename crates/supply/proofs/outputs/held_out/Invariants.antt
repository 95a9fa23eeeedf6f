use Rattle.std.proofs.Common.{◌≡◌, ◌+◌, ◌*◌, ◌≤◌, ◌^◌, ◌-◌, drop}
use Rattle.std.specs.Prelude.{sum_by}
use Rattle.rule_defs.specs.Capacity.{held_out}
use Rattle.supply.proofs.outputs.held_out.Given as goal

-- with what is left it is all that the outputs hold
abbrev pub invariant-outputs : goal.invariant-outputs
invariant-outputs l = (l.held + sum_by (λ output. output.capacity) (drop l.i l.tx.raw.outputs) ≡ held_out l.tx) × (l.held ≤ l.i * (2 ^ 64 - 1))
