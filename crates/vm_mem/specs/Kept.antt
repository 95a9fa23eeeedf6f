-- The form in which an instruction is kept, and what it stands for.
use Rattle.std.specs.Prelude.{ℕ, ◌==◌, ℤ, if◌then◌else◌}
use Rattle.std.specs.Int.{w32}
use mir.Val.{SFits}
use Rattle.machine_defs.specs.declared.ins.Ins.{Ins}
use Rattle.machine_defs.specs.declared.ins.Ins.TheVariants as ins
use Rattle.vm_mem.specs.declared.kept.Kept.{Kept}
use Rattle.vm_mem.specs.declared.kept.Kept.TheVariants.{Lui, Auipc, Jal, Jalr, Beq, Bne, Blt, Bge, Bltu, Bgeu, Lb, Lh, Lw, Ld, Lbu, Lhu, Lwu, Sb, Sh, Sw, Sd, Addi, Slti, Sltiu, Xori, Ori, Andi, Slli, Srli, Srai, Addiw, Slliw, Srliw, Sraiw, Add, Sub, Sll, Slt, Sltu, Xor, Srl, Sra, Or, And, Mul, Mulh, Mulhsu, Mulhu, Div, Divu, Rem, Remu, Addw, Subw, Sllw, Srlw, Sraw, Mulw, Divw, Divuw, Remw, Remuw, Fence, FenceI, Ecall, Ebreak}

-- 32 bits hold an immediate
abbrev pub IsShort : ℤ → Type 0
IsShort imm = SFits w32 imm

-- Where an instruction writes x0 its kept form has 32, which no instruction reads, and the other way round: so one that has 0
-- stands for none.
unfoldable pub target_of : ℕ → ℕ
target_of rd = if rd == 0 then 32 else if rd == 32 then 0 else rd

-- the instruction that a kept form stands for
abbrev pub instruction_of : Kept → Ins
instruction_of (Lui rd imm) = ins.Lui (target_of rd) imm
instruction_of (Auipc rd imm) = ins.Auipc (target_of rd) imm
instruction_of (Jal rd imm) = ins.Jal (target_of rd) imm
instruction_of (Jalr rd rs1 imm) = ins.Jalr (target_of rd) rs1 imm
instruction_of (Beq rs1 rs2 imm) = ins.Beq rs1 rs2 imm
instruction_of (Bne rs1 rs2 imm) = ins.Bne rs1 rs2 imm
instruction_of (Blt rs1 rs2 imm) = ins.Blt rs1 rs2 imm
instruction_of (Bge rs1 rs2 imm) = ins.Bge rs1 rs2 imm
instruction_of (Bltu rs1 rs2 imm) = ins.Bltu rs1 rs2 imm
instruction_of (Bgeu rs1 rs2 imm) = ins.Bgeu rs1 rs2 imm
instruction_of (Lb rd rs1 imm) = ins.Lb (target_of rd) rs1 imm
instruction_of (Lh rd rs1 imm) = ins.Lh (target_of rd) rs1 imm
instruction_of (Lw rd rs1 imm) = ins.Lw (target_of rd) rs1 imm
instruction_of (Ld rd rs1 imm) = ins.Ld (target_of rd) rs1 imm
instruction_of (Lbu rd rs1 imm) = ins.Lbu (target_of rd) rs1 imm
instruction_of (Lhu rd rs1 imm) = ins.Lhu (target_of rd) rs1 imm
instruction_of (Lwu rd rs1 imm) = ins.Lwu (target_of rd) rs1 imm
instruction_of (Sb rs1 rs2 imm) = ins.Sb rs1 rs2 imm
instruction_of (Sh rs1 rs2 imm) = ins.Sh rs1 rs2 imm
instruction_of (Sw rs1 rs2 imm) = ins.Sw rs1 rs2 imm
instruction_of (Sd rs1 rs2 imm) = ins.Sd rs1 rs2 imm
instruction_of (Addi rd rs1 imm) = ins.Addi (target_of rd) rs1 imm
instruction_of (Slti rd rs1 imm) = ins.Slti (target_of rd) rs1 imm
instruction_of (Sltiu rd rs1 imm) = ins.Sltiu (target_of rd) rs1 imm
instruction_of (Xori rd rs1 imm) = ins.Xori (target_of rd) rs1 imm
instruction_of (Ori rd rs1 imm) = ins.Ori (target_of rd) rs1 imm
instruction_of (Andi rd rs1 imm) = ins.Andi (target_of rd) rs1 imm
instruction_of (Slli rd rs1 imm) = ins.Slli (target_of rd) rs1 imm
instruction_of (Srli rd rs1 imm) = ins.Srli (target_of rd) rs1 imm
instruction_of (Srai rd rs1 imm) = ins.Srai (target_of rd) rs1 imm
instruction_of (Addiw rd rs1 imm) = ins.Addiw (target_of rd) rs1 imm
instruction_of (Slliw rd rs1 imm) = ins.Slliw (target_of rd) rs1 imm
instruction_of (Srliw rd rs1 imm) = ins.Srliw (target_of rd) rs1 imm
instruction_of (Sraiw rd rs1 imm) = ins.Sraiw (target_of rd) rs1 imm
instruction_of (Add rd rs1 rs2) = ins.Add (target_of rd) rs1 rs2
instruction_of (Sub rd rs1 rs2) = ins.Sub (target_of rd) rs1 rs2
instruction_of (Sll rd rs1 rs2) = ins.Sll (target_of rd) rs1 rs2
instruction_of (Slt rd rs1 rs2) = ins.Slt (target_of rd) rs1 rs2
instruction_of (Sltu rd rs1 rs2) = ins.Sltu (target_of rd) rs1 rs2
instruction_of (Xor rd rs1 rs2) = ins.Xor (target_of rd) rs1 rs2
instruction_of (Srl rd rs1 rs2) = ins.Srl (target_of rd) rs1 rs2
instruction_of (Sra rd rs1 rs2) = ins.Sra (target_of rd) rs1 rs2
instruction_of (Or rd rs1 rs2) = ins.Or (target_of rd) rs1 rs2
instruction_of (And rd rs1 rs2) = ins.And (target_of rd) rs1 rs2
instruction_of (Mul rd rs1 rs2) = ins.Mul (target_of rd) rs1 rs2
instruction_of (Mulh rd rs1 rs2) = ins.Mulh (target_of rd) rs1 rs2
instruction_of (Mulhsu rd rs1 rs2) = ins.Mulhsu (target_of rd) rs1 rs2
instruction_of (Mulhu rd rs1 rs2) = ins.Mulhu (target_of rd) rs1 rs2
instruction_of (Div rd rs1 rs2) = ins.Div (target_of rd) rs1 rs2
instruction_of (Divu rd rs1 rs2) = ins.Divu (target_of rd) rs1 rs2
instruction_of (Rem rd rs1 rs2) = ins.Rem (target_of rd) rs1 rs2
instruction_of (Remu rd rs1 rs2) = ins.Remu (target_of rd) rs1 rs2
instruction_of (Addw rd rs1 rs2) = ins.Addw (target_of rd) rs1 rs2
instruction_of (Subw rd rs1 rs2) = ins.Subw (target_of rd) rs1 rs2
instruction_of (Sllw rd rs1 rs2) = ins.Sllw (target_of rd) rs1 rs2
instruction_of (Srlw rd rs1 rs2) = ins.Srlw (target_of rd) rs1 rs2
instruction_of (Sraw rd rs1 rs2) = ins.Sraw (target_of rd) rs1 rs2
instruction_of (Mulw rd rs1 rs2) = ins.Mulw (target_of rd) rs1 rs2
instruction_of (Divw rd rs1 rs2) = ins.Divw (target_of rd) rs1 rs2
instruction_of (Divuw rd rs1 rs2) = ins.Divuw (target_of rd) rs1 rs2
instruction_of (Remw rd rs1 rs2) = ins.Remw (target_of rd) rs1 rs2
instruction_of (Remuw rd rs1 rs2) = ins.Remuw (target_of rd) rs1 rs2
instruction_of Fence = ins.Fence
instruction_of FenceI = ins.FenceI
instruction_of Ecall = ins.Ecall
instruction_of Ebreak = ins.Ebreak
