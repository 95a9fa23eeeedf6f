-- Where the bits of the operands stand in a word ("Base Instruction Formats", "Immediate Encoding Variants").
use Rattle.std.specs.Prelude.{◌≡◌, ℕ, ℤ, pos, ◌-ℤ◌, nat_lt, if◌then◌else◌, ◌+◌, ◌*◌, ◌/◌, ◌%◌, ◌^◌, ◌<◌}
use Rattle.machine_defs.specs.Instruction.{sign_extended, IsImmediate, IsShiftAmount}
use Rattle.machine_defs.specs.declared.operands.Operands.{Operands}
use Rattle.machine_defs.specs.declared.operands.Operands.TheVariants.{Registers, Immediate, Shift, WordShift, Address, Store, Branch, Jump, Upper, Bare}

abbrev pub FitsOperands : Operands → Type 0
FitsOperands (Registers rd rs1 rs2) = ((rd < 32) × (rs1 < 32) × (rs2 < 32)) × Unit {0}
FitsOperands (Immediate rd rs1 imm) = ((rd < 32) × (rs1 < 32)) × IsImmediate 12 1 imm
FitsOperands (Shift rd rs1 imm) = ((rd < 32) × (rs1 < 32)) × IsShiftAmount 64 imm
FitsOperands (WordShift rd rs1 imm) = ((rd < 32) × (rs1 < 32)) × IsShiftAmount 32 imm
FitsOperands (Address rd rs1 imm) = ((rd < 32) × (rs1 < 32)) × IsImmediate 12 1 imm
FitsOperands (Store rs1 rs2 imm) = ((rs1 < 32) × (rs2 < 32)) × IsImmediate 12 1 imm
FitsOperands (Branch rs1 rs2 imm) = ((rs1 < 32) × (rs2 < 32)) × IsImmediate 13 2 imm
FitsOperands (Jump rd imm) = (rd < 32) × IsImmediate 21 2 imm
FitsOperands (Upper rd imm) = (rd < 32) × IsImmediate 32 4096 imm
FitsOperands Bare = Unit {0} × Unit {0}

-- the number that bits stand for in two's complement, where the numbers end below `half`
abbrev pub extended : ℕ → ℕ → ℤ
extended half n = if nat_lt n half then pos n else (pos n -ℤ pos (half + half))

-- the bits of a number in two's complement
pub record AreBitsOf (width unit : ℕ) (imm : ℤ) (n : ℕ) : Type 0 where
  pub bound : n < 2 ^ width
  pub whole : n % unit ≡ 0
  pub number : imm ≡ sign_extended width n

pub record HasPair (a b high bits : ℕ) : Type 0 where
  pub first : a < 32
  pub second : b < 32
  pub sum : bits ≡ a * 128 + b * 32768 + high

-- the bits of the operands, with zeros elsewhere
abbrev pub HasBits : Operands → ℕ → Type 0
HasBits (Registers rd rs1 rs2) bits = HasPair rd rs1 (rs2 * 1048576) bits × (rs2 < 32)
HasBits (Immediate rd rs1 imm) bits = (n : ℕ) × AreBitsOf 12 1 imm n × HasPair rd rs1 (n * 1048576) bits
HasBits (Shift rd rs1 imm) bits = (n : ℕ) × (n < 64) × (imm ≡ pos n) × HasPair rd rs1 (n * 1048576) bits
HasBits (WordShift rd rs1 imm) bits = (n : ℕ) × (n < 32) × (imm ≡ pos n) × HasPair rd rs1 (n * 1048576) bits
HasBits (Address rd rs1 imm) bits = (n : ℕ) × AreBitsOf 12 1 imm n × HasPair rd rs1 (n * 1048576) bits
HasBits (Store rs1 rs2 imm) bits =
    (n : ℕ) × AreBitsOf 12 1 imm n × HasPair (n % 32) rs1 (rs2 * 1048576 + n / 32 * 33554432) bits × (rs2 < 32)
HasBits (Branch rs1 rs2 imm) bits =
    (n : ℕ) × AreBitsOf 13 2 imm n
    × HasPair (n / 2 % 16 * 2 + n / 2048 % 2) rs1 (rs2 * 1048576 + (n / 4096 * 64 + n / 32 % 64) * 33554432) bits × (rs2 < 32)
HasBits (Jump rd imm) bits =
    (n : ℕ) × AreBitsOf 21 2 imm n × (rd < 32)
    × (bits ≡ rd * 128 + n / 4096 % 256 * 4096 + n / 2048 % 2 * 1048576 + n / 2 % 1024 * 2097152 + n / 1048576 * 2147483648)
HasBits (Upper rd imm) bits = (n : ℕ) × AreBitsOf 32 4096 imm n × (rd < 32) × (bits ≡ rd * 128 + n)
HasBits Bare bits = bits ≡ 0
