-- A withdrawal counts at least the capacity, where the rate has not fallen.
use Rattle.std.proofs.Common.{ℕ, ◌-◌, ◌*◌, ◌/◌, ◌<◌, ◌≤◌, arith}
use Rattle.std.proofs.Math.Nat.{mul-le-mul_left}
use Rattle.std.proofs.lemmas.Nat.{le-div}
use Rattle.chain_defs.specs.Dao.{counted_capacity}

pub counted-capacity-kept : (capacity occupied rate_withdrawing rate_deposit : ℕ) →
    occupied ≤ capacity → 0 < rate_deposit → rate_deposit ≤ rate_withdrawing →
    capacity ≤ counted_capacity capacity occupied rate_withdrawing rate_deposit
counted-capacity-kept capacity occupied rate_withdrawing rate_deposit holds some grown =
    let free : ℕ = capacity - occupied in
    let more : free * rate_deposit ≤ free * rate_withdrawing = mul-le-mul_left free grown in
    let kept : free ≤ free * rate_withdrawing / rate_deposit = le-div free (free * rate_withdrawing) rate_deposit some more in
    omega arith
