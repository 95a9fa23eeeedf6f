use Rattle.std.proofs.Common.{◌≡◌, ◌*◌, ◌≤◌, ◌^◌, ◌-◌, take}
use Rattle.std.specs.Prelude.{sum_by}
use Rattle.tx_rules.proofs.capacity.capacities.Given as goal

abbrev pub invariant-copies : goal.invariant-copies
invariant-copies l = (l.sum ≡ sum_by (λ copy. copy.row.capacity) (take l.i l.copies)) × (l.sum ≤ l.i * (2 ^ 64 - 1))
