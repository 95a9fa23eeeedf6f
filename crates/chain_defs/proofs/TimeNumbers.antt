-- Bounds of quotients.
use Rattle.std.proofs.Common.{◌≡◌, ℕ, ◌/◌, ◌^◌, ◌<◌, ◌≤◌, lit<, arith}
use Rattle.std.proofs.Math.Nat.{pow-le-pow_right, div-eq_of_lt}

-- what more halvings than a number has bits leave
pub halved-away : (n bits halvings : ℕ) → n < 2 ^ bits → bits ≤ halvings → n / 2 ^ halvings ≡ 0
halved-away n bits halvings fits many =
    let below : 2 ^ bits ≤ 2 ^ halvings = pow-le-pow_right (lit< tt) many in
    let small : n < 2 ^ halvings = omega arith in
    div-eq_of_lt small
