-- The product of two numbers of 64 bits fits 128.
use Rattle.std.proofs.Common.{◌≡◌, ◌^◌, ◌≤◌, ℤ, pos, negsuc, ◌*ℤ◌, w64, to_z, of_z, FitsSigned, arith}
use Rattle.std.specs.Int.{w128}
use Rattle.std.specs.Int.RustNames.{unsigned_abs}
use Rattle.std.proofs.lemmas.Int.{to_z-of_z, fits_signed_mul, fits_signed_from_abs}

unsigned_abs_le : (z : ℤ) → FitsSigned w64 z → unsigned_abs z ≤ 2 ^ 63
unsigned_abs_le (pos n) fits = omega (arith, fits.sfits)
unsigned_abs_le (negsuc n) fits = omega (arith, fits.sfits)

wide : (z : ℤ) → FitsSigned w64 z → to_z w128 (of_z w128 z) ≡ z
wide z fits = to_z-of_z w128 z (fits_signed_from_abs w128 z (omega (arith, unsigned_abs_le z fits)))

product : (x y : ℤ) → FitsSigned w64 x → FitsSigned w64 y → to_z w128 (of_z w128 (x *ℤ y)) ≡ x *ℤ y
product x y fits fits' =
    to_z-of_z w128 (x *ℤ y)
    (fits_signed_mul w128 x y (2 ^ 63) (2 ^ 63) (unsigned_abs_le x fits) (unsigned_abs_le y fits') (omega arith))

pub wide-product : (x y : ℤ) → FitsSigned w64 x → FitsSigned w64 y
    → to_z w128 (of_z w128 (to_z w128 (of_z w128 x) *ℤ to_z w128 (of_z w128 y))) ≡ x *ℤ y
wide-product x y fits fits' = rw (wide x fits) (rw (wide y fits') (product x y fits fits'))
