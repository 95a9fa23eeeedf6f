use Rattle.std.proofs.Common.{◌≡◌, ℕ, zero, suc, ◌-◌, ◌*◌, ◌/◌, ◌%◌, ◌^◌, ◌<◌, ◌≤◌, pos, ◌-ℤ◌, to_z, of_z, w64, arith}
use Rattle.std.proofs.lemmas.Nat.{one_shl}
use Rattle.std.proofs.lemmas.Int.{ints}
use Rattle.std.proofs.lemmas.Bool.Decides.{nat_tests}
use Rattle.std.proofs.Math.Nat.{pow-suc, pow-le-pow_right}
use Rattle.machine_defs.specs.Instruction.{sign_extended}
use Rattle.rv_decode.proofs.fields.sign_extended.Goals as goal

two_pos : 0 < 2
two_pos = omega arith

power_twice : (w : ℕ) → 0 < w → 2 ^ w ≡ 2 * 2 ^ (w - 1)
power_twice zero some = absurd (omega arith)
power_twice (suc k) some = let e : suc k - 1 ≡ k = omega arith in rw e (omega (arith, pow-suc 2 k))

not_negative : (w n : ℕ) → 0 < w → w ≤ 32 → n < 2 ^ w → n < (1 * 2 ^ w % 2 ^ 64) / 2 → to_z w64 n ≡ sign_extended w n
unfolding sign_extended
not_negative w n some within bound small =
    let whole : (1 * 2 ^ w) % 2 ^ 64 ≡ 2 ^ w = one_shl w 64 (omega arith) in
    let twice = power_twice w some in
    let cap : 2 ^ w ≤ 2 ^ 32 = pow-le-pow_right two_pos within in
    let below : n < 2 ^ (w - 1) = omega arith in
    grind (arith, ints, nat_tests)

negative : (w n : ℕ) → 0 < w → w ≤ 32 → n < 2 ^ w → (1 * 2 ^ w % 2 ^ 64) / 2 ≤ n
    → to_z w64 (of_z w64 (pos 0 -ℤ to_z w64 ((1 * 2 ^ w) % 2 ^ 64 - n))) ≡ sign_extended w n
unfolding sign_extended
negative w n some within bound large =
    let whole : (1 * 2 ^ w) % 2 ^ 64 ≡ 2 ^ w = one_shl w 64 (omega arith) in
    let twice = power_twice w some in
    let cap : 2 ^ w ≤ 2 ^ 32 = pow-le-pow_right two_pos within in
    let above : 2 ^ (w - 1) ≤ n = omega arith in
    grind (arith, ints, nat_tests)

pub returns-then-n-span : goal.returns-then-n-span
returns-then-n-span c =
    rw c.from-n.ensures (not_negative c.args.width c.args.n c.requires.some c.requires.within c.requires.bound (rw c.from-n.ensures at c.if-n-span.true))

pub returns-else-n-span : goal.returns-else-n-span
returns-else-n-span c =
    rw c.from-n.ensures (negative c.args.width c.args.n c.requires.some c.requires.within c.requires.bound (rw c.from-n.ensures at c.if-n-span.false))
