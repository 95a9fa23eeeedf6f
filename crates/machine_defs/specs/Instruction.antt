-- The fields and the numbers that a word of code holds, and what an instruction costs.
use Rattle.std.specs.Prelude.{◌≡◌, ℕ, ◌+◌, ◌-◌, ◌*◌, ◌/◌, ◌%◌, ◌^◌, ◌<◌, ℤ, pos, ◌-ℤ◌, nat_lt, if◌then◌else◌}
use Rattle.machine_defs.specs.declared.ins.Ins.{Ins}
use Rattle.machine_defs.specs.declared.ins.Ins.TheVariants.{Lui, Auipc, Jal, Jalr, Beq, Bne, Blt, Bge, Bltu, Bgeu, Lb, Lh, Lw, Ld, Lbu, Lhu, Lwu, Sb, Sh, Sw, Sd, Addi, Slti, Sltiu, Xori, Ori, Andi, Slli, Srli, Srai, Addiw, Slliw, Srliw, Sraiw, Add, Sub, Sll, Slt, Sltu, Xor, Srl, Sra, Or, And, Mul, Mulh, Mulhsu, Mulhu, Div, Divu, Rem, Remu, Addw, Subw, Sllw, Srlw, Sraw, Mulw, Divw, Divuw, Remw, Remuw, Fence, FenceI, Ecall, Ebreak}

-- bits `high` to `low` of a word, as the RISC-V manual writes inst[high:low]
unfoldable pub bits : ℕ → ℕ → ℕ → ℕ
bits high low word = word / 2 ^ low % 2 ^ (high - low + 1)

-- bits `high` to `low` of a word, put where bit `place` is the lowest of them: a part of an immediate
abbrev pub part : ℕ → ℕ → ℕ → ℕ → ℕ
part high low place word = bits high low word * 2 ^ place

-- the number that `width` bits stand for in two's complement
unfoldable pub sign_extended : ℕ → ℕ → ℤ
sign_extended width n = if nat_lt n (2 ^ (width - 1)) then pos n else (pos n -ℤ pos (2 ^ width))

-- ---- the cycles that an instruction takes (RFC 0014, "Instruction Cycles")

abbrev pub base_cycles : ℕ
base_cycles = 1

-- a load or a store of 8 bytes, and of fewer
abbrev pub double_access_cycles : ℕ
double_access_cycles = 2

abbrev pub access_cycles : ℕ
access_cycles = 3

abbrev pub branch_cycles : ℕ
branch_cycles = 3

abbrev pub jump_cycles : ℕ
jump_cycles = 3

abbrev pub multiply_cycles : ℕ
multiply_cycles = 5

abbrev pub divide_cycles : ℕ
divide_cycles = 32

-- ECALL and EBREAK
abbrev pub environment_cycles : ℕ
environment_cycles = 500

abbrev pub cycles : Ins → ℕ
cycles (Ld rd rs1 imm) = double_access_cycles
cycles (Sd rs1 rs2 imm) = double_access_cycles
cycles (Lb rd rs1 imm) = access_cycles
cycles (Lh rd rs1 imm) = access_cycles
cycles (Lw rd rs1 imm) = access_cycles
cycles (Lbu rd rs1 imm) = access_cycles
cycles (Lhu rd rs1 imm) = access_cycles
cycles (Lwu rd rs1 imm) = access_cycles
cycles (Sb rs1 rs2 imm) = access_cycles
cycles (Sh rs1 rs2 imm) = access_cycles
cycles (Sw rs1 rs2 imm) = access_cycles
cycles (Beq rs1 rs2 imm) = branch_cycles
cycles (Bne rs1 rs2 imm) = branch_cycles
cycles (Blt rs1 rs2 imm) = branch_cycles
cycles (Bge rs1 rs2 imm) = branch_cycles
cycles (Bltu rs1 rs2 imm) = branch_cycles
cycles (Bgeu rs1 rs2 imm) = branch_cycles
cycles (Jal rd imm) = jump_cycles
cycles (Jalr rd rs1 imm) = jump_cycles
cycles (Mul rd rs1 rs2) = multiply_cycles
cycles (Mulh rd rs1 rs2) = multiply_cycles
cycles (Mulhsu rd rs1 rs2) = multiply_cycles
cycles (Mulhu rd rs1 rs2) = multiply_cycles
cycles (Mulw rd rs1 rs2) = multiply_cycles
cycles (Div rd rs1 rs2) = divide_cycles
cycles (Divu rd rs1 rs2) = divide_cycles
cycles (Rem rd rs1 rs2) = divide_cycles
cycles (Remu rd rs1 rs2) = divide_cycles
cycles (Divw rd rs1 rs2) = divide_cycles
cycles (Divuw rd rs1 rs2) = divide_cycles
cycles (Remw rd rs1 rs2) = divide_cycles
cycles (Remuw rd rs1 rs2) = divide_cycles
cycles Ecall = environment_cycles
cycles Ebreak = environment_cycles
cycles _ = base_cycles

-- ---- operands

-- the registers that an instruction names are x0 to x31
abbrev pub HasRegisters : Ins → Type 0
HasRegisters (Lui rd imm) = rd < 32
HasRegisters (Auipc rd imm) = rd < 32
HasRegisters (Jal rd imm) = rd < 32
HasRegisters (Jalr rd rs1 imm) = (rd < 32) × (rs1 < 32)
HasRegisters (Beq rs1 rs2 imm) = (rs1 < 32) × (rs2 < 32)
HasRegisters (Bne rs1 rs2 imm) = (rs1 < 32) × (rs2 < 32)
HasRegisters (Blt rs1 rs2 imm) = (rs1 < 32) × (rs2 < 32)
HasRegisters (Bge rs1 rs2 imm) = (rs1 < 32) × (rs2 < 32)
HasRegisters (Bltu rs1 rs2 imm) = (rs1 < 32) × (rs2 < 32)
HasRegisters (Bgeu rs1 rs2 imm) = (rs1 < 32) × (rs2 < 32)
HasRegisters (Lb rd rs1 imm) = (rd < 32) × (rs1 < 32)
HasRegisters (Lh rd rs1 imm) = (rd < 32) × (rs1 < 32)
HasRegisters (Lw rd rs1 imm) = (rd < 32) × (rs1 < 32)
HasRegisters (Ld rd rs1 imm) = (rd < 32) × (rs1 < 32)
HasRegisters (Lbu rd rs1 imm) = (rd < 32) × (rs1 < 32)
HasRegisters (Lhu rd rs1 imm) = (rd < 32) × (rs1 < 32)
HasRegisters (Lwu rd rs1 imm) = (rd < 32) × (rs1 < 32)
HasRegisters (Sb rs1 rs2 imm) = (rs1 < 32) × (rs2 < 32)
HasRegisters (Sh rs1 rs2 imm) = (rs1 < 32) × (rs2 < 32)
HasRegisters (Sw rs1 rs2 imm) = (rs1 < 32) × (rs2 < 32)
HasRegisters (Sd rs1 rs2 imm) = (rs1 < 32) × (rs2 < 32)
HasRegisters (Addi rd rs1 imm) = (rd < 32) × (rs1 < 32)
HasRegisters (Slti rd rs1 imm) = (rd < 32) × (rs1 < 32)
HasRegisters (Sltiu rd rs1 imm) = (rd < 32) × (rs1 < 32)
HasRegisters (Xori rd rs1 imm) = (rd < 32) × (rs1 < 32)
HasRegisters (Ori rd rs1 imm) = (rd < 32) × (rs1 < 32)
HasRegisters (Andi rd rs1 imm) = (rd < 32) × (rs1 < 32)
HasRegisters (Slli rd rs1 imm) = (rd < 32) × (rs1 < 32)
HasRegisters (Srli rd rs1 imm) = (rd < 32) × (rs1 < 32)
HasRegisters (Srai rd rs1 imm) = (rd < 32) × (rs1 < 32)
HasRegisters (Addiw rd rs1 imm) = (rd < 32) × (rs1 < 32)
HasRegisters (Slliw rd rs1 imm) = (rd < 32) × (rs1 < 32)
HasRegisters (Srliw rd rs1 imm) = (rd < 32) × (rs1 < 32)
HasRegisters (Sraiw rd rs1 imm) = (rd < 32) × (rs1 < 32)
HasRegisters (Add rd rs1 rs2) = (rd < 32) × (rs1 < 32) × (rs2 < 32)
HasRegisters (Sub rd rs1 rs2) = (rd < 32) × (rs1 < 32) × (rs2 < 32)
HasRegisters (Sll rd rs1 rs2) = (rd < 32) × (rs1 < 32) × (rs2 < 32)
HasRegisters (Slt rd rs1 rs2) = (rd < 32) × (rs1 < 32) × (rs2 < 32)
HasRegisters (Sltu rd rs1 rs2) = (rd < 32) × (rs1 < 32) × (rs2 < 32)
HasRegisters (Xor rd rs1 rs2) = (rd < 32) × (rs1 < 32) × (rs2 < 32)
HasRegisters (Srl rd rs1 rs2) = (rd < 32) × (rs1 < 32) × (rs2 < 32)
HasRegisters (Sra rd rs1 rs2) = (rd < 32) × (rs1 < 32) × (rs2 < 32)
HasRegisters (Or rd rs1 rs2) = (rd < 32) × (rs1 < 32) × (rs2 < 32)
HasRegisters (And rd rs1 rs2) = (rd < 32) × (rs1 < 32) × (rs2 < 32)
HasRegisters (Mul rd rs1 rs2) = (rd < 32) × (rs1 < 32) × (rs2 < 32)
HasRegisters (Mulh rd rs1 rs2) = (rd < 32) × (rs1 < 32) × (rs2 < 32)
HasRegisters (Mulhsu rd rs1 rs2) = (rd < 32) × (rs1 < 32) × (rs2 < 32)
HasRegisters (Mulhu rd rs1 rs2) = (rd < 32) × (rs1 < 32) × (rs2 < 32)
HasRegisters (Div rd rs1 rs2) = (rd < 32) × (rs1 < 32) × (rs2 < 32)
HasRegisters (Divu rd rs1 rs2) = (rd < 32) × (rs1 < 32) × (rs2 < 32)
HasRegisters (Rem rd rs1 rs2) = (rd < 32) × (rs1 < 32) × (rs2 < 32)
HasRegisters (Remu rd rs1 rs2) = (rd < 32) × (rs1 < 32) × (rs2 < 32)
HasRegisters (Addw rd rs1 rs2) = (rd < 32) × (rs1 < 32) × (rs2 < 32)
HasRegisters (Subw rd rs1 rs2) = (rd < 32) × (rs1 < 32) × (rs2 < 32)
HasRegisters (Sllw rd rs1 rs2) = (rd < 32) × (rs1 < 32) × (rs2 < 32)
HasRegisters (Srlw rd rs1 rs2) = (rd < 32) × (rs1 < 32) × (rs2 < 32)
HasRegisters (Sraw rd rs1 rs2) = (rd < 32) × (rs1 < 32) × (rs2 < 32)
HasRegisters (Mulw rd rs1 rs2) = (rd < 32) × (rs1 < 32) × (rs2 < 32)
HasRegisters (Divw rd rs1 rs2) = (rd < 32) × (rs1 < 32) × (rs2 < 32)
HasRegisters (Divuw rd rs1 rs2) = (rd < 32) × (rs1 < 32) × (rs2 < 32)
HasRegisters (Remw rd rs1 rs2) = (rd < 32) × (rs1 < 32) × (rs2 < 32)
HasRegisters (Remuw rd rs1 rs2) = (rd < 32) × (rs1 < 32) × (rs2 < 32)
HasRegisters Fence = Unit {0}
HasRegisters FenceI = Unit {0}
HasRegisters Ecall = Unit {0}
HasRegisters Ebreak = Unit {0}

-- A signed immediate of so many bits, a multiple of `unit`.
abbrev pub IsImmediate : ℕ → ℕ → ℤ → Type 0
IsImmediate width unit imm = (n : ℕ) × (n < 2 ^ width) × (n % unit ≡ 0) × (imm ≡ sign_extended width n)

-- the amount of a shift, below a bound
abbrev pub IsShiftAmount : ℕ → ℤ → Type 0
IsShiftAmount bound imm = (n : ℕ) × (n < bound) × (imm ≡ pos n)

-- An immediate has the bits of its format ("Immediate Encoding Variants"): U has 32 of which the low 12 are zero, J has
-- 21 and B 13 of which the lowest is zero, I and S have 12.
abbrev pub HasImmediate : Ins → Type 0
HasImmediate (Lui rd imm) = IsImmediate 32 4096 imm
HasImmediate (Auipc rd imm) = IsImmediate 32 4096 imm
HasImmediate (Jal rd imm) = IsImmediate 21 2 imm
HasImmediate (Jalr rd rs1 imm) = IsImmediate 12 1 imm
HasImmediate (Beq rs1 rs2 imm) = IsImmediate 13 2 imm
HasImmediate (Bne rs1 rs2 imm) = IsImmediate 13 2 imm
HasImmediate (Blt rs1 rs2 imm) = IsImmediate 13 2 imm
HasImmediate (Bge rs1 rs2 imm) = IsImmediate 13 2 imm
HasImmediate (Bltu rs1 rs2 imm) = IsImmediate 13 2 imm
HasImmediate (Bgeu rs1 rs2 imm) = IsImmediate 13 2 imm
HasImmediate (Lb rd rs1 imm) = IsImmediate 12 1 imm
HasImmediate (Lh rd rs1 imm) = IsImmediate 12 1 imm
HasImmediate (Lw rd rs1 imm) = IsImmediate 12 1 imm
HasImmediate (Ld rd rs1 imm) = IsImmediate 12 1 imm
HasImmediate (Lbu rd rs1 imm) = IsImmediate 12 1 imm
HasImmediate (Lhu rd rs1 imm) = IsImmediate 12 1 imm
HasImmediate (Lwu rd rs1 imm) = IsImmediate 12 1 imm
HasImmediate (Sb rs1 rs2 imm) = IsImmediate 12 1 imm
HasImmediate (Sh rs1 rs2 imm) = IsImmediate 12 1 imm
HasImmediate (Sw rs1 rs2 imm) = IsImmediate 12 1 imm
HasImmediate (Sd rs1 rs2 imm) = IsImmediate 12 1 imm
HasImmediate (Addi rd rs1 imm) = IsImmediate 12 1 imm
HasImmediate (Slti rd rs1 imm) = IsImmediate 12 1 imm
HasImmediate (Sltiu rd rs1 imm) = IsImmediate 12 1 imm
HasImmediate (Xori rd rs1 imm) = IsImmediate 12 1 imm
HasImmediate (Ori rd rs1 imm) = IsImmediate 12 1 imm
HasImmediate (Andi rd rs1 imm) = IsImmediate 12 1 imm
HasImmediate (Slli rd rs1 imm) = IsShiftAmount 64 imm
HasImmediate (Srli rd rs1 imm) = IsShiftAmount 64 imm
HasImmediate (Srai rd rs1 imm) = IsShiftAmount 64 imm
HasImmediate (Addiw rd rs1 imm) = IsImmediate 12 1 imm
HasImmediate (Slliw rd rs1 imm) = IsShiftAmount 32 imm
HasImmediate (Srliw rd rs1 imm) = IsShiftAmount 32 imm
HasImmediate (Sraiw rd rs1 imm) = IsShiftAmount 32 imm
HasImmediate _ = Unit {0}

-- An instruction fits its format.
abbrev pub FitsFormat : Ins → Type 0
FitsFormat ins = HasRegisters ins × HasImmediate ins
