-- A dividend is given back by its quotient and remainder, in 64 bits.
use Rattle.std.proofs.Common.{◌≡◌, ℕ, zero, suc, ◌+◌, ◌*◌, ◌/◌, ◌%◌, ◌^◌, ◌<◌, ◌≤◌, ◌==◌, false, inl, inr, ℤ, pos, negsuc, w64, refl, sym, ap, ◌∙◌, arith}
use Rattle.std.specs.Int.RustNames.{int_div, int_rem}
use Rattle.std.proofs.Math.IntN.{neg_ℤ}
use Rattle.std.proofs.Math.Nat.{add-mul, mul-add, mul_right_comm, div-le_self, mod-le}
use Rattle.std.proofs.lemmas.Nat.{div-add-mod'}
use Rattle.machine_defs.specs.Alu.{bits_of, quotient, remainder, signed, unsigned_quotient, unsigned_remainder}
use Rattle.machine_defs.proofs.RowLaws.{not_equal}
use Rattle.rv_alu.specs.Laws.{UnsignedDividend, SignedDividend}
use Rattle.rv_alu.proofs.Halves.{signed-is}

-- ---- unsigned

by-zero : (q a : ℕ) → a < 2 ^ 64 → (q * 0 + a) % 2 ^ 64 ≡ a
by-zero q a below = omega (arith, below)

by-some : (a b : ℕ) → a < 2 ^ 64 → (a / b * b + a % b) % 2 ^ 64 ≡ a
by-some a b below = rw (div-add-mod' a b) (omega (arith, below))

some : (b : ℕ) → (suc b == 0) ≡ false
some b = not_equal (suc b) 0 (λ is. cc)

pub unsigned-dividend : UnsignedDividend
unfolding unsigned_quotient unsigned_remainder
unsigned-dividend a zero below = by-zero (unsigned_quotient w64 a 0) a below
unsigned-dividend a (suc b) below = rw (some b) (by-some a (suc b) below)

-- ---- signed

-- the bits of a number that was negated
record Negated (n bits : ℕ) : Type 0 where
  pub wraps : ℕ
  pub sum : bits + n ≡ wraps * 2 ^ 64

negated : (n : ℕ) → n ≤ 2 ^ 63 → Negated n (bits_of w64 (neg_ℤ (pos n)))
negated zero small = record { wraps = 0; sum = refl }
negated (suc n) small = record { wraps = 1; sum = omega (arith, small) }

-- the quotient and the remainder of two integers
abbrev Gives : ℕ → ℤ → ℤ → ℕ → Type 0
Gives a x y b = (bits_of w64 (int_div x y) * b + bits_of w64 (int_rem x y)) % 2 ^ 64 ≡ a

scaled : (wraps b sum : ℕ) → sum ≡ wraps * 2 ^ 64 → sum * b ≡ wraps * b * 2 ^ 64
scaled wraps b sum is = ap (λ v. v * b) is ∙ mul_right_comm wraps (2 ^ 64) b

-- a sum of products, from what they make together
kept : (p s t r k q a : ℕ) → p + s ≡ k * 2 ^ 64 → t + s ≡ q * 2 ^ 64 → t + r ≡ a → a < 2 ^ 64 → (p + r) % 2 ^ 64 ≡ a
kept p s t r k q a first other back below = omega (arith, first, other, back, below)

turned : (p t r v k d n a : ℕ) → p + t ≡ k * 2 ^ 64 → t + r ≡ suc n → v + r ≡ d * 2 ^ 64 → suc n + a ≡ 2 ^ 64 → (p + v) % 2 ^ 64 ≡ a
turned p t r v k d n a first back rest sum = omega (arith, first, back, rest, sum)

turned-both : (s t r v q d n a : ℕ) → t + s ≡ q * 2 ^ 64 → t + r ≡ suc n → v + r ≡ d * 2 ^ 64 → suc n + a ≡ 2 ^ 64 → (s + v) % 2 ^ 64 ≡ a
turned-both s t r v q d n a other back rest sum = omega (arith, other, back, rest, sum)

-- by the signs of the dividend and the divisor
plus-plus : (a b : ℕ) → a < 2 ^ 64 → Gives a (pos a) (pos b) b
plus-plus = by-some

plus-minus : (a y b : ℕ) → a < 2 ^ 63 → suc y + b ≡ 2 ^ 64 → Gives a (pos a) (negsuc y) b
plus-minus a y b small is =
    let q : ℕ = a / suc y in
    let n = negated q (omega (arith, small, div-le_self a (suc y))) in
    kept _ (q * b) (q * suc y) (a % suc y) (n.wraps * b) q a (sym (add-mul _ q b) ∙ scaled n.wraps b _ n.sum)
    (sym (mul-add q (suc y) b) ∙ ap (λ v. q * v) is) (div-add-mod' a (suc y)) (omega (arith, small))

minus-plus : (a x b : ℕ) → x < 2 ^ 63 → suc x + a ≡ 2 ^ 64 → Gives a (negsuc x) (pos b) b
minus-plus a x b small is =
    let q : ℕ = suc x / b in
    let r : ℕ = suc x % b in
    let n = negated q (omega (arith, small, div-le_self (suc x) b)) in
    let m = negated r (omega (arith, small, mod-le (suc x) b)) in
    turned _ (q * b) r _ (n.wraps * b) m.wraps x a (sym (add-mul _ q b) ∙ scaled n.wraps b _ n.sum) (div-add-mod' (suc x) b) m.sum is

minus-minus : (a x y b : ℕ) → x < 2 ^ 63 → suc x + a ≡ 2 ^ 64 → suc y + b ≡ 2 ^ 64 → Gives a (negsuc x) (negsuc y) b
minus-minus a x y b small is is' =
    let q : ℕ = suc x / suc y in
    let r : ℕ = suc x % suc y in
    let m = negated r (omega (arith, small, mod-le (suc x) (suc y))) in
    turned-both (q * b) (q * suc y) r _ q m.wraps x a (sym (mul-add q (suc y) b) ∙ ap (λ v. q * v) is') (div-add-mod' (suc x) (suc y)) m.sum is

gives : (a b : ℕ) → a < 2 ^ 64 → b < 2 ^ 64 → Gives a (signed w64 a) (signed w64 b) b
gives a b below below' =
    elim (signed-is a below) [
      | inl is ↦ elim (signed-is b below') [
        | inl is' ↦ rw (is.1, is'.1) (plus-plus a b below)
        | inr is' ↦ rw (is.1, is'.1.is) (plus-minus a is'.0 b is.0 is'.1.sum)
      ]
      | inr is ↦ elim (signed-is b below') [
        | inl is' ↦ rw (is.1.is, is'.1) (minus-plus a is.0 b is.1.small is.1.sum)
        | inr is' ↦ rw (is.1.is, is'.1.is) (minus-minus a is.0 is'.0 b is.1.small is.1.sum is'.1.sum)
      ]
    ]

pub signed-dividend : SignedDividend
unfolding quotient remainder
signed-dividend a zero below below' = by-zero (quotient w64 a 0) a below
signed-dividend a (suc b) below below' = rw (some b) (gives a (suc b) below below')
