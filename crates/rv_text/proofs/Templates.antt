-- Each instruction has a template among those that are looked up by name.
use Rattle.std.proofs.Common.{◌≡◌, pos, length, Some, refl}
use Rattle.machine_defs.specs.declared.ins.Ins.{Ins}
use Rattle.machine_defs.specs.declared.ins.Ins.TheVariants.{Lui, Auipc, Jal, Jalr, Beq, Bne, Blt, Bge, Bltu, Bgeu, Lb, Lh, Lw, Ld, Lbu, Lhu, Lwu, Sb, Sh, Sw, Sd, Addi, Slti, Sltiu, Xori, Ori, Andi, Slli, Srli, Srai, Addiw, Slliw, Srliw, Sraiw, Add, Sub, Sll, Slt, Sltu, Xor, Srl, Sra, Or, And, Mul, Mulh, Mulhsu, Mulhu, Div, Divu, Rem, Remu, Addw, Subw, Sllw, Srlw, Sraw, Mulw, Divw, Divuw, Remw, Remuw, Fence, FenceI, Ecall, Ebreak}
use Rattle.rv_text.specs.declared.names.TheConstants.{TEMPLATES}
use Rattle.machine_defs.specs.declared.operands.Operands.{Operands}
use Rattle.machine_defs.specs.declared.operands.Operands.TheVariants.{Registers, Immediate, Shift, WordShift, Address, Store, Branch, Jump, Upper, Bare}
use Rattle.machine_defs.specs.Text.{form_of}
use Rattle.rv_text.specs.Reading.{named_in, space_at}

abbrev pub blank : Operands → Operands
blank (Registers _ _ _) = Registers 0 0 0
blank (Immediate _ _ _) = Immediate 0 0 (pos 0)
blank (Shift _ _ _) = Shift 0 0 (pos 0)
blank (WordShift _ _ _) = WordShift 0 0 (pos 0)
blank (Address _ _ _) = Address 0 0 (pos 0)
blank (Store _ _ _) = Store 0 0 (pos 0)
blank (Branch _ _ _) = Branch 0 0 (pos 0)
blank (Jump _ _) = Jump 0 (pos 0)
blank (Upper _ _) = Upper 0 (pos 0)
blank Bare = Bare

pub record HasTemplate (i : Ins) : Type 0 where
  pub template : Ins
  pub found : named_in TEMPLATES (form_of i).name ≡ Some template
  pub word : (form_of template).word ≡ (form_of i).word
  pub operands : (form_of template).operands ≡ blank (form_of i).operands
  pub no_space : space_at (form_of i).name ≡ length (form_of i).name

made : (i t : Ins) → named_in TEMPLATES (form_of i).name ≡ Some t → (form_of t).word ≡ (form_of i).word
    → (form_of t).operands ≡ blank (form_of i).operands → space_at (form_of i).name ≡ length (form_of i).name → HasTemplate i
made i t f w o n = record { template = t; found = f; word = w; operands = o; no_space = n }

pub template-of : (i : Ins) → HasTemplate i
unfolding named_in space_at
template-of (Lui rd imm) = made (Lui rd imm) (Lui 0 (pos 0)) refl refl refl refl
template-of (Auipc rd imm) = made (Auipc rd imm) (Auipc 0 (pos 0)) refl refl refl refl
template-of (Jal rd imm) = made (Jal rd imm) (Jal 0 (pos 0)) refl refl refl refl
template-of (Jalr rd rs1 imm) = made (Jalr rd rs1 imm) (Jalr 0 0 (pos 0)) refl refl refl refl
template-of (Beq rs1 rs2 imm) = made (Beq rs1 rs2 imm) (Beq 0 0 (pos 0)) refl refl refl refl
template-of (Bne rs1 rs2 imm) = made (Bne rs1 rs2 imm) (Bne 0 0 (pos 0)) refl refl refl refl
template-of (Blt rs1 rs2 imm) = made (Blt rs1 rs2 imm) (Blt 0 0 (pos 0)) refl refl refl refl
template-of (Bge rs1 rs2 imm) = made (Bge rs1 rs2 imm) (Bge 0 0 (pos 0)) refl refl refl refl
template-of (Bltu rs1 rs2 imm) = made (Bltu rs1 rs2 imm) (Bltu 0 0 (pos 0)) refl refl refl refl
template-of (Bgeu rs1 rs2 imm) = made (Bgeu rs1 rs2 imm) (Bgeu 0 0 (pos 0)) refl refl refl refl
template-of (Lb rd rs1 imm) = made (Lb rd rs1 imm) (Lb 0 0 (pos 0)) refl refl refl refl
template-of (Lh rd rs1 imm) = made (Lh rd rs1 imm) (Lh 0 0 (pos 0)) refl refl refl refl
template-of (Lw rd rs1 imm) = made (Lw rd rs1 imm) (Lw 0 0 (pos 0)) refl refl refl refl
template-of (Ld rd rs1 imm) = made (Ld rd rs1 imm) (Ld 0 0 (pos 0)) refl refl refl refl
template-of (Lbu rd rs1 imm) = made (Lbu rd rs1 imm) (Lbu 0 0 (pos 0)) refl refl refl refl
template-of (Lhu rd rs1 imm) = made (Lhu rd rs1 imm) (Lhu 0 0 (pos 0)) refl refl refl refl
template-of (Lwu rd rs1 imm) = made (Lwu rd rs1 imm) (Lwu 0 0 (pos 0)) refl refl refl refl
template-of (Sb rs1 rs2 imm) = made (Sb rs1 rs2 imm) (Sb 0 0 (pos 0)) refl refl refl refl
template-of (Sh rs1 rs2 imm) = made (Sh rs1 rs2 imm) (Sh 0 0 (pos 0)) refl refl refl refl
template-of (Sw rs1 rs2 imm) = made (Sw rs1 rs2 imm) (Sw 0 0 (pos 0)) refl refl refl refl
template-of (Sd rs1 rs2 imm) = made (Sd rs1 rs2 imm) (Sd 0 0 (pos 0)) refl refl refl refl
template-of (Addi rd rs1 imm) = made (Addi rd rs1 imm) (Addi 0 0 (pos 0)) refl refl refl refl
template-of (Slti rd rs1 imm) = made (Slti rd rs1 imm) (Slti 0 0 (pos 0)) refl refl refl refl
template-of (Sltiu rd rs1 imm) = made (Sltiu rd rs1 imm) (Sltiu 0 0 (pos 0)) refl refl refl refl
template-of (Xori rd rs1 imm) = made (Xori rd rs1 imm) (Xori 0 0 (pos 0)) refl refl refl refl
template-of (Ori rd rs1 imm) = made (Ori rd rs1 imm) (Ori 0 0 (pos 0)) refl refl refl refl
template-of (Andi rd rs1 imm) = made (Andi rd rs1 imm) (Andi 0 0 (pos 0)) refl refl refl refl
template-of (Slli rd rs1 imm) = made (Slli rd rs1 imm) (Slli 0 0 (pos 0)) refl refl refl refl
template-of (Srli rd rs1 imm) = made (Srli rd rs1 imm) (Srli 0 0 (pos 0)) refl refl refl refl
template-of (Srai rd rs1 imm) = made (Srai rd rs1 imm) (Srai 0 0 (pos 0)) refl refl refl refl
template-of (Addiw rd rs1 imm) = made (Addiw rd rs1 imm) (Addiw 0 0 (pos 0)) refl refl refl refl
template-of (Slliw rd rs1 imm) = made (Slliw rd rs1 imm) (Slliw 0 0 (pos 0)) refl refl refl refl
template-of (Srliw rd rs1 imm) = made (Srliw rd rs1 imm) (Srliw 0 0 (pos 0)) refl refl refl refl
template-of (Sraiw rd rs1 imm) = made (Sraiw rd rs1 imm) (Sraiw 0 0 (pos 0)) refl refl refl refl
template-of (Add rd rs1 rs2) = made (Add rd rs1 rs2) (Add 0 0 0) refl refl refl refl
template-of (Sub rd rs1 rs2) = made (Sub rd rs1 rs2) (Sub 0 0 0) refl refl refl refl
template-of (Sll rd rs1 rs2) = made (Sll rd rs1 rs2) (Sll 0 0 0) refl refl refl refl
template-of (Slt rd rs1 rs2) = made (Slt rd rs1 rs2) (Slt 0 0 0) refl refl refl refl
template-of (Sltu rd rs1 rs2) = made (Sltu rd rs1 rs2) (Sltu 0 0 0) refl refl refl refl
template-of (Xor rd rs1 rs2) = made (Xor rd rs1 rs2) (Xor 0 0 0) refl refl refl refl
template-of (Srl rd rs1 rs2) = made (Srl rd rs1 rs2) (Srl 0 0 0) refl refl refl refl
template-of (Sra rd rs1 rs2) = made (Sra rd rs1 rs2) (Sra 0 0 0) refl refl refl refl
template-of (Or rd rs1 rs2) = made (Or rd rs1 rs2) (Or 0 0 0) refl refl refl refl
template-of (And rd rs1 rs2) = made (And rd rs1 rs2) (And 0 0 0) refl refl refl refl
template-of (Mul rd rs1 rs2) = made (Mul rd rs1 rs2) (Mul 0 0 0) refl refl refl refl
template-of (Mulh rd rs1 rs2) = made (Mulh rd rs1 rs2) (Mulh 0 0 0) refl refl refl refl
template-of (Mulhsu rd rs1 rs2) = made (Mulhsu rd rs1 rs2) (Mulhsu 0 0 0) refl refl refl refl
template-of (Mulhu rd rs1 rs2) = made (Mulhu rd rs1 rs2) (Mulhu 0 0 0) refl refl refl refl
template-of (Div rd rs1 rs2) = made (Div rd rs1 rs2) (Div 0 0 0) refl refl refl refl
template-of (Divu rd rs1 rs2) = made (Divu rd rs1 rs2) (Divu 0 0 0) refl refl refl refl
template-of (Rem rd rs1 rs2) = made (Rem rd rs1 rs2) (Rem 0 0 0) refl refl refl refl
template-of (Remu rd rs1 rs2) = made (Remu rd rs1 rs2) (Remu 0 0 0) refl refl refl refl
template-of (Addw rd rs1 rs2) = made (Addw rd rs1 rs2) (Addw 0 0 0) refl refl refl refl
template-of (Subw rd rs1 rs2) = made (Subw rd rs1 rs2) (Subw 0 0 0) refl refl refl refl
template-of (Sllw rd rs1 rs2) = made (Sllw rd rs1 rs2) (Sllw 0 0 0) refl refl refl refl
template-of (Srlw rd rs1 rs2) = made (Srlw rd rs1 rs2) (Srlw 0 0 0) refl refl refl refl
template-of (Sraw rd rs1 rs2) = made (Sraw rd rs1 rs2) (Sraw 0 0 0) refl refl refl refl
template-of (Mulw rd rs1 rs2) = made (Mulw rd rs1 rs2) (Mulw 0 0 0) refl refl refl refl
template-of (Divw rd rs1 rs2) = made (Divw rd rs1 rs2) (Divw 0 0 0) refl refl refl refl
template-of (Divuw rd rs1 rs2) = made (Divuw rd rs1 rs2) (Divuw 0 0 0) refl refl refl refl
template-of (Remw rd rs1 rs2) = made (Remw rd rs1 rs2) (Remw 0 0 0) refl refl refl refl
template-of (Remuw rd rs1 rs2) = made (Remuw rd rs1 rs2) (Remuw 0 0 0) refl refl refl refl
template-of Fence = made Fence Fence refl refl refl refl
template-of FenceI = made FenceI FenceI refl refl refl refl
template-of Ecall = made Ecall Ecall refl refl refl refl
template-of Ebreak = made Ebreak Ebreak refl refl refl refl
