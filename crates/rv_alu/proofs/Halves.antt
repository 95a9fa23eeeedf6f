-- The two halves of a product.
use Rattle.std.proofs.Common.{◌≡◌, ℕ, suc, ◌+◌, ◌-◌, ◌*◌, ◌/◌, ◌%◌, ◌^◌, ◌<◌, ◌≤◌, ◌⊎◌, inl, inr, ℤ, pos, negsuc, ◌+ℤ◌, ◌*ℤ◌, w64, of_z, FitsSigned, refl, sym, ap, ◌∙◌, lit<, arith}
use Rattle.std.specs.Prelude.{nat_lt, false}
use Rattle.std.specs.Int.{w128, int_shr, int_rem_euclid, int_wrap}
use Rattle.std.specs.Int.RustNames.{unsigned_abs}
use Rattle.std.proofs.Math.IntN.{neg_ℤ}
use Rattle.std.proofs.Math.Nat.{add-mul}
use Rattle.std.proofs.lemmas.Bool.{cases_lt}
use Rattle.std.proofs.lemmas.Bool.Decides.{nat_tests}
use Rattle.std.proofs.lemmas.Nat.{mod_below}
use Rattle.std.proofs.lemmas.Int.{ints, to_z-of_z, of_z-to_z, to_z_pos, fits_signed_mul, int_rem_euclid_is, wrapping_mul-bits}
use Rattle.machine_defs.specs.Alu.{high, signed}
use Rattle.rv_alu.specs.Laws.{UnsignedHalves, SignedHalves, MixedHalves}

-- ---- unsigned

whole : (p : ℕ) → p / 2 ^ 64 * 2 ^ 64 + p % 2 ^ 64 ≡ p
whole p = omega arith

pub unsigned-halves : UnsignedHalves
unsigned-halves a b = whole (a * b)

-- ---- signed

-- the low half of an integer, as a natural number
abbrev low_half : ℤ → ℕ
low_half z = unsigned_abs (int_rem_euclid z (pos (2 ^ 64)))

halves : (z : ℤ) → (int_shr z 64 *ℤ pos (2 ^ 64)) +ℤ pos (low_half z) ≡ z
halves (pos n) = omega (arith, ints)
halves (negsuc n) = omega (arith, ints)

low-below : (z : ℤ) → low_half z < 2 ^ 64
low-below (pos n) = omega arith
low-below (negsuc n) = omega arith

high-fits : (z : ℤ) → FitsSigned w128 z → FitsSigned w64 (int_shr z 64)
high-fits (pos n) fits = record { sfits = omega (arith, fits.sfits) }
high-fits (negsuc n) fits = record { sfits = omega (arith, fits.sfits) }

both-halves : (z : ℤ) (low : ℕ) → FitsSigned w128 z → low ≡ low_half z
    → (signed w64 (high z) *ℤ pos (2 ^ 64)) +ℤ pos low ≡ z
unfolding high
both-halves z low fits same = rw (to_z-of_z w64 (int_shr z 64) (high-fits z fits)) (rw same (halves z))

-- ---- what 64 bits are as a signed number

-- the opposite of suc x
pub record IsNegative (n x : ℕ) : Type 0 where
  pub is : signed w64 n ≡ negsuc x
  pub sum : suc x + n ≡ 2 ^ 64
  pub small : x < 2 ^ 63

negative : (n : ℕ) → n < 2 ^ 64 → 2 ^ 63 ≤ n → IsNegative n (2 ^ 64 - suc n)
negative n below large =
    let no : nat_lt n (2 ^ 63) ≡ false = grind (arith, nat_tests, large) in
    record { is = rw no refl; sum = omega (arith, below); small = omega (arith, large) }

pub signed-is : (n : ℕ) → n < 2 ^ 64 → ((n < 2 ^ 63) × (signed w64 n ≡ pos n)) ⊎ ((x : ℕ) × IsNegative n x)
signed-is n below =
    elim (cases_lt n (2 ^ 63)) [
      | inl small ↦ inl (small, to_z_pos w64 n small)
      | inr large ↦ inr (2 ^ 64 - suc n, negative n below large)
    ]

signed-fits : (n : ℕ) → n < 2 ^ 64 → FitsSigned w64 (signed w64 n)
signed-fits n below =
    elim (signed-is n below) [
      | inl is ↦ rw is.1 (record { sfits = is.0 })
      | inr is ↦ rw is.1.is (record { sfits = is.1.small })
    ]

magnitude : (z : ℤ) → FitsSigned w64 z → unsigned_abs z ≤ 2 ^ 63
magnitude (pos n) fits = omega (arith, fits.sfits)
magnitude (negsuc n) fits = omega (arith, fits.sfits)

product-fits : (x y : ℤ) → FitsSigned w64 x → unsigned_abs y ≤ 2 ^ 64 - 1 → FitsSigned w128 (x *ℤ y)
product-fits x y fits small = fits_signed_mul w128 x y (2 ^ 63) (2 ^ 64 - 1) (magnitude x fits) small (omega arith)

-- ---- the low halves

signed-low : (a b : ℕ) → a < 2 ^ 64 → b < 2 ^ 64 → (a * b) % 2 ^ 64 ≡ low_half (signed w64 a *ℤ signed w64 b)
unfolding int_wrap
signed-low a b below below' =
    sym (of_z-to_z w64 ((a * b) % 2 ^ 64) (mod_below (a * b) (2 ^ 64) (lit< tt)))
    ∙ ap (of_z w64) (wrapping_mul-bits w64 a b below below')
    ∙ of_z-to_z w64 (low_half (signed w64 a *ℤ signed w64 b)) (low-below (signed w64 a *ℤ signed w64 b))

pub signed-halves : SignedHalves
signed-halves a b below below' =
    let fits = signed-fits a below in
    let fits' = signed-fits b below' in
    let small = magnitude (signed w64 b) fits' in
    both-halves (signed w64 a *ℤ signed w64 b) _ (product-fits _ _ fits (omega (arith, small))) (signed-low a b below below')

opposite : (u v w : ℕ) → u + v ≡ w → neg_ℤ (pos u) +ℤ pos w ≡ pos v
opposite u v w is = omega (arith, ints, is)

mixed-low : (a b : ℕ) → a < 2 ^ 64 → pos ((a * b) % 2 ^ 64) ≡ int_rem_euclid (signed w64 a *ℤ pos b) (pos (2 ^ 64))
mixed-low a b below =
    elim (signed-is a below) [
      | inl is ↦ rw is.1 (sym (int_rem_euclid_is (pos (a * b)) (pos (2 ^ 64)) (2 ^ 64) 0 (a * b) (lit< tt) refl (omega (arith, ints))))
      | inr is ↦ (
          let sum : suc is.0 * b + a * b ≡ b * 2 ^ 64 = sym (add-mul (suc is.0) a b) ∙ rw is.1.sum (omega arith) in
          rw is.1.is (sym (int_rem_euclid_is (negsuc is.0 *ℤ pos b) (pos (2 ^ 64)) (2 ^ 64) b (a * b) (lit< tt) refl (opposite (suc is.0 * b) (a * b) (b * 2 ^ 64) sum))))
    ]

pub mixed-halves : MixedHalves
mixed-halves a b below below' =
    both-halves (signed w64 a *ℤ pos b) _ (product-fits _ (pos b) (signed-fits a below) (omega (arith, below')))
    (ap unsigned_abs (mixed-low a b below))
