-- How much the blocks of a chain issue at most. Each lemma is stated for variables first, so that no long number is computed.
use Rattle.std.proofs.Common.{ℕ, ◌+◌, ◌*◌, ◌/◌, ◌%◌, ◌^◌, ◌<◌, ◌≤◌, Bool, true, false, arith}
use Rattle.std.specs.Prelude.{nat_lt, if◌then◌else◌}
use Rattle.std.proofs.Math.Nat.{mul-le-mul, div-le_self}
use Rattle.std.proofs.lemmas.Nat.{div_below}
use Rattle.chain_defs.specs.Epochs.{share_of_index}
use Rattle.rule_defs.specs.Shares.{primary_at, secondary_at}
use Rattle.gen_defs.specs.Start.{specification}

-- a part s * u / c, where none of the three leaves its bound
pub part_below : {s u c : ℕ} (a b m q : ℕ) → s ≤ a → u ≤ b → m ≤ c → 0 < m → a * b < q * m → s * u / c < q
part_below {s = s} {u = u} {c = c} a b m q s_bound u_bound c_bound above below =
    let product : s * u ≤ a * b = mul-le-mul s_bound u_bound in
    let wider : q * m ≤ q * c = mul-le-mul {n₁ = q} {m₁ = m} {n₂ = q} {m₂ = c} (omega arith) c_bound in
    div_below (s * u) c q (omega arith) (omega (arith, product, wider))

more_below : (there : Bool) → (if there then 1 else 0) ≤ 1
more_below true = omega arith
more_below false = omega arith

pub share_bound : (reward length index most : ℕ) → 0 < length → reward < (most + 1) * length → share_of_index length index reward ≤ most + 1
share_bound reward length index most above below =
    let whole = div_below reward length (most + 1) above below in
    let rest = more_below (nat_lt index (reward % length)) in
    omega (arith, whole, rest)

pub secondary_bound : (height : ℕ) → secondary_at specification height ≤ 10000000001
unfolding specification
secondary_bound height = share_bound 100000000000 10 (height % 10) 10000000000 (omega arith) (omega arith)

pub primary_bound : (height : ℕ) → primary_at specification height ≤ 100000000001
unfolding specification
primary_bound height =
    let halved = div-le_self 1000000000000 (2 ^ (height / 10 / 1000)) in
    share_bound (1000000000000 / 2 ^ (height / 10 / 1000)) 10 (height % 10) 100000000000 (omega arith) (omega (arith, halved))
