-- The values of the operations on two registers: RV64I ("Integer Computational Instructions") and the
-- extension M. A register holds 64 bits, as a number below 2 ^ 64.
use Rattle.std.specs.Prelude.{ℕ, ◌+◌, ◌-◌, ◌*◌, ◌/◌, ◌%◌, ◌^◌, ◌==◌, nat_lt, ℤ, pos, negsuc, ◌*ℤ◌, if◌then◌else◌, bit_and, bit_or, bit_xor}
use Rattle.std.specs.Int.{Width, w32, w64, cast_signed, cast_unsigned, int_shr}
use Rattle.std.specs.Int.RustNames.{int_lt, int_div, int_rem}
use Rattle.machine_defs.specs.declared.alu.Alu.{Alu}
use Rattle.machine_defs.specs.declared.alu.Alu.TheVariants.{Add, Sub, Sll, Slt, Sltu, Xor, Srl, Sra, Or, And, Addw, Subw, Sllw, Srlw, Sraw, Mul, Mulh, Mulhsu, Mulhu, Div, Divu, Rem, Remu, Mulw, Divw, Divuw, Remw, Remuw}

-- the bits of a number in two's complement, from -2 ^ (width - 1) to 2 ^ width - 1, and the number that bits stand for
abbrev pub bits_of : Width → ℤ → ℕ
bits_of width z = cast_unsigned width z

abbrev pub signed : Width → ℕ → ℤ
signed width n = cast_signed width n

-- the W forms work on the low 32 bits, and sign-extend a result of 32 bits
abbrev pub low : ℕ → ℕ
low a = a % 2 ^ 32

unfoldable pub extended : ℕ → ℕ
extended n = bits_of w64 (signed w32 (n % 2 ^ 32))

-- 1 where a is below b
abbrev pub less : ℕ → ℕ → ℕ
less a b = if nat_lt a b then 1 else 0

unfoldable pub signed_less : ℕ → ℕ → ℕ
signed_less a b = if int_lt (signed w64 a) (signed w64 b) then 1 else 0

-- a shift to the right that fills up with the sign: it rounds down
unfoldable pub arithmetic_shift : Width → ℕ → ℕ → ℕ
arithmetic_shift width a amount = bits_of width (int_shr (signed width a) amount)

-- the high 64 bits of a product
unfoldable pub high : ℤ → ℕ
high product = bits_of w64 (int_shr product 64)

-- Division rounds toward zero, and the remainder has the sign of the dividend. Where the divisor is 0,
-- the quotient has all bits set, and the remainder is the dividend. The least number divided by -1
-- is 2 ^ 63 (or 2 ^ 31), whose bits are those of the least number.
unfoldable pub quotient : Width → ℕ → ℕ → ℕ
quotient width a b =
    if b == 0 then bits_of width (negsuc 0) else bits_of width (int_div (signed width a) (signed width b))

unfoldable pub remainder : Width → ℕ → ℕ → ℕ
remainder width a b = if b == 0 then a else bits_of width (int_rem (signed width a) (signed width b))

unfoldable pub unsigned_quotient : Width → ℕ → ℕ → ℕ
unsigned_quotient width a b = if b == 0 then bits_of width (negsuc 0) else a / b

unfoldable pub unsigned_remainder : ℕ → ℕ → ℕ
unsigned_remainder a b = if b == 0 then a else a % b

-- what an operation gives of two registers
abbrev pub value : Alu → ℕ → ℕ → ℕ
value Add a b = (a + b) % 2 ^ 64
value Sub a b = (a + (2 ^ 64 - b)) % 2 ^ 64
value Sll a b = (a * 2 ^ (b % 64)) % 2 ^ 64
value Slt a b = signed_less a b
value Sltu a b = less a b
value Xor a b = bit_xor a b
value Srl a b = a / 2 ^ (b % 64)
value Sra a b = arithmetic_shift w64 a (b % 64)
value Or a b = bit_or a b
value And a b = bit_and a b
value Addw a b = extended (a + b)
value Subw a b = extended (a + (2 ^ 64 - b))
value Sllw a b = extended (a * 2 ^ (b % 32))
value Srlw a b = extended (low a / 2 ^ (b % 32))
value Sraw a b = extended (arithmetic_shift w32 (low a) (b % 32))
value Mul a b = (a * b) % 2 ^ 64
value Mulh a b = high (signed w64 a *ℤ signed w64 b)
value Mulhsu a b = high (signed w64 a *ℤ pos b)
value Mulhu a b = (a * b) / 2 ^ 64
value Div a b = quotient w64 a b
value Divu a b = unsigned_quotient w64 a b
value Rem a b = remainder w64 a b
value Remu a b = unsigned_remainder a b
value Mulw a b = extended (a * b)
value Divw a b = extended (quotient w32 (low a) (low b))
value Divuw a b = extended (unsigned_quotient w32 (low a) (low b))
value Remw a b = extended (remainder w32 (low a) (low b))
value Remuw a b = extended (unsigned_remainder (low a) (low b))
