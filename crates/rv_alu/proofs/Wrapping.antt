-- A sum, a difference or a product has the low 32 bits that it has after it wrapped at 64 bits.
use Rattle.std.proofs.Common.{◌≡◌, ℕ, ◌%◌, ◌^◌, ap, w32, w64, arith}
use Rattle.std.specs.Int.{cast_signed, cast_unsigned}
use Rattle.machine_defs.specs.Alu.{extended}

low_bits : (n : ℕ) → (n % 2 ^ 64) % 2 ^ 32 ≡ n % 2 ^ 32
low_bits n = omega arith

pub extended-wrapped : (n : ℕ) → extended (n % 2 ^ 64) ≡ extended n
unfolding extended
extended-wrapped n = ap (λ m. cast_unsigned w64 (cast_signed w32 m)) (low_bits n)

pub ruleset wrapped = (extended-wrapped)
