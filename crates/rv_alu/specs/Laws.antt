-- What the RISC-V manual says of products and divisions ("M" Standard Extension), of the numbers that registers hold.
use Rattle.std.specs.Prelude.{◌≡◌, ℕ, ◌+◌, ◌*◌, ◌%◌, ◌^◌, ◌<◌, pos, ◌+ℤ◌, ◌*ℤ◌}
use Rattle.std.specs.Int.{w64}
use Rattle.machine_defs.specs.declared.alu.Alu.TheVariants.{Mul, Mulh, Mulhsu, Mulhu, Div, Divu, Rem, Remu}
use Rattle.machine_defs.specs.Alu.{signed, value}

-- MUL gives the low half of a product, and MULHU, MULH and MULHSU its high half, for two unsigned numbers, two signed
-- ones, and a signed one by an unsigned one.
abbrev pub UnsignedHalves : Type 0
UnsignedHalves = (a b : ℕ) → value Mulhu a b * 2 ^ 64 + value Mul a b ≡ a * b

abbrev pub SignedHalves : Type 0
SignedHalves = (a b : ℕ) → a < 2 ^ 64 → b < 2 ^ 64
    → (signed w64 (value Mulh a b) *ℤ pos (2 ^ 64)) +ℤ pos (value Mul a b) ≡ signed w64 a *ℤ signed w64 b

abbrev pub MixedHalves : Type 0
MixedHalves = (a b : ℕ) → a < 2 ^ 64 → b < 2 ^ 64
    → (signed w64 (value Mulhsu a b) *ℤ pos (2 ^ 64)) +ℤ pos (value Mul a b) ≡ signed w64 a *ℤ pos b

-- The dividend is the quotient times the divisor and the remainder, in 64 bits: also where the divisor is 0, and where
-- the quotient does not fit.
abbrev pub UnsignedDividend : Type 0
UnsignedDividend = (a b : ℕ) → a < 2 ^ 64 → (value Divu a b * b + value Remu a b) % 2 ^ 64 ≡ a

abbrev pub SignedDividend : Type 0
SignedDividend = (a b : ℕ) → a < 2 ^ 64 → b < 2 ^ 64 → (value Div a b * b + value Rem a b) % 2 ^ 64 ≡ a
