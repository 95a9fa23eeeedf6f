-- Lines stand for at most one code, or have one first bad line.
use Rattle.std.proofs.Common.{◌≡◌, ◌⊎◌, inl, inr, ℕ, ◌+◌, List, [], ◌∷◌, ◌++◌, refl, sym, ap, ◌∙◌, subst, arith}
use Rattle.std.specs.Prelude.{◌≢◌}
use Rattle.std.specs.Int.{w32, to_le_bytes}
use Rattle.machine_defs.specs.declared.ins.Ins.{Ins}
use Rattle.machine_defs.specs.declared.ins.Ins.TheVariants.{Lui, Auipc, Jal, Jalr, Beq, Bne, Blt, Bge, Bltu, Bgeu, Lb, Lh, Lw, Ld, Lbu, Lhu, Lwu, Sb, Sh, Sw, Sd, Addi, Slti, Sltiu, Xori, Ori, Andi, Slli, Srli, Srai, Addiw, Slliw, Srliw, Sraiw, Add, Sub, Sll, Slt, Sltu, Xor, Srl, Sra, Or, And, Mul, Mulh, Mulhsu, Mulhu, Div, Divu, Rem, Remu, Addw, Subw, Sllw, Srlw, Sraw, Mulw, Divw, Divuw, Remw, Remuw, Fence, FenceI, Ecall, Ebreak}
use Rattle.machine_defs.specs.Instruction.{FitsFormat}
use Rattle.machine_defs.specs.Text.{form_of, operands_text, show, IsWord}
use Rattle.machine_defs.specs.Assembly.{IsSkipped, IsLineOf, IsBad, Assembles, IsFirstBad}
use Rattle.machine_defs.specs.TextLaws.{OneCodeAssembles, OneLineIsFirstBad, NoneIsBadOfCode}
use Rattle.rv_text.proofs.OneWord.{one-word}
use Rattle.rv_text.proofs.OneText.{one-text}

-- ---- One line

-- the names begin with a letter
abbrev Begins : List ℕ → Type 0
Begins [] = ⊥
Begins (c ∷ cs) = c ≡ 35 → ⊥

name-begins : (i : Ins) → Begins (form_of i).name
name-begins (Lui rd imm) = λ e. omega (arith, e)
name-begins (Auipc rd imm) = λ e. omega (arith, e)
name-begins (Jal rd imm) = λ e. omega (arith, e)
name-begins (Jalr rd rs1 imm) = λ e. omega (arith, e)
name-begins (Beq rs1 rs2 imm) = λ e. omega (arith, e)
name-begins (Bne rs1 rs2 imm) = λ e. omega (arith, e)
name-begins (Blt rs1 rs2 imm) = λ e. omega (arith, e)
name-begins (Bge rs1 rs2 imm) = λ e. omega (arith, e)
name-begins (Bltu rs1 rs2 imm) = λ e. omega (arith, e)
name-begins (Bgeu rs1 rs2 imm) = λ e. omega (arith, e)
name-begins (Lb rd rs1 imm) = λ e. omega (arith, e)
name-begins (Lh rd rs1 imm) = λ e. omega (arith, e)
name-begins (Lw rd rs1 imm) = λ e. omega (arith, e)
name-begins (Ld rd rs1 imm) = λ e. omega (arith, e)
name-begins (Lbu rd rs1 imm) = λ e. omega (arith, e)
name-begins (Lhu rd rs1 imm) = λ e. omega (arith, e)
name-begins (Lwu rd rs1 imm) = λ e. omega (arith, e)
name-begins (Sb rs1 rs2 imm) = λ e. omega (arith, e)
name-begins (Sh rs1 rs2 imm) = λ e. omega (arith, e)
name-begins (Sw rs1 rs2 imm) = λ e. omega (arith, e)
name-begins (Sd rs1 rs2 imm) = λ e. omega (arith, e)
name-begins (Addi rd rs1 imm) = λ e. omega (arith, e)
name-begins (Slti rd rs1 imm) = λ e. omega (arith, e)
name-begins (Sltiu rd rs1 imm) = λ e. omega (arith, e)
name-begins (Xori rd rs1 imm) = λ e. omega (arith, e)
name-begins (Ori rd rs1 imm) = λ e. omega (arith, e)
name-begins (Andi rd rs1 imm) = λ e. omega (arith, e)
name-begins (Slli rd rs1 imm) = λ e. omega (arith, e)
name-begins (Srli rd rs1 imm) = λ e. omega (arith, e)
name-begins (Srai rd rs1 imm) = λ e. omega (arith, e)
name-begins (Addiw rd rs1 imm) = λ e. omega (arith, e)
name-begins (Slliw rd rs1 imm) = λ e. omega (arith, e)
name-begins (Srliw rd rs1 imm) = λ e. omega (arith, e)
name-begins (Sraiw rd rs1 imm) = λ e. omega (arith, e)
name-begins (Add rd rs1 rs2) = λ e. omega (arith, e)
name-begins (Sub rd rs1 rs2) = λ e. omega (arith, e)
name-begins (Sll rd rs1 rs2) = λ e. omega (arith, e)
name-begins (Slt rd rs1 rs2) = λ e. omega (arith, e)
name-begins (Sltu rd rs1 rs2) = λ e. omega (arith, e)
name-begins (Xor rd rs1 rs2) = λ e. omega (arith, e)
name-begins (Srl rd rs1 rs2) = λ e. omega (arith, e)
name-begins (Sra rd rs1 rs2) = λ e. omega (arith, e)
name-begins (Or rd rs1 rs2) = λ e. omega (arith, e)
name-begins (And rd rs1 rs2) = λ e. omega (arith, e)
name-begins (Mul rd rs1 rs2) = λ e. omega (arith, e)
name-begins (Mulh rd rs1 rs2) = λ e. omega (arith, e)
name-begins (Mulhsu rd rs1 rs2) = λ e. omega (arith, e)
name-begins (Mulhu rd rs1 rs2) = λ e. omega (arith, e)
name-begins (Div rd rs1 rs2) = λ e. omega (arith, e)
name-begins (Divu rd rs1 rs2) = λ e. omega (arith, e)
name-begins (Rem rd rs1 rs2) = λ e. omega (arith, e)
name-begins (Remu rd rs1 rs2) = λ e. omega (arith, e)
name-begins (Addw rd rs1 rs2) = λ e. omega (arith, e)
name-begins (Subw rd rs1 rs2) = λ e. omega (arith, e)
name-begins (Sllw rd rs1 rs2) = λ e. omega (arith, e)
name-begins (Srlw rd rs1 rs2) = λ e. omega (arith, e)
name-begins (Sraw rd rs1 rs2) = λ e. omega (arith, e)
name-begins (Mulw rd rs1 rs2) = λ e. omega (arith, e)
name-begins (Divw rd rs1 rs2) = λ e. omega (arith, e)
name-begins (Divuw rd rs1 rs2) = λ e. omega (arith, e)
name-begins (Remw rd rs1 rs2) = λ e. omega (arith, e)
name-begins (Remuw rd rs1 rs2) = λ e. omega (arith, e)
name-begins Fence = λ e. omega (arith, e)
name-begins FenceI = λ e. omega (arith, e)
name-begins Ecall = λ e. omega (arith, e)
name-begins Ebreak = λ e. omega (arith, e)

begins-more : (name rest : List ℕ) → Begins name → IsSkipped (name ++ rest) → ⊥
begins-more [] rest begins skipped = begins
begins-more (c ∷ cs) rest begins skipped = begins skipped

-- the text of an instruction is not skipped
shown : (i : Ins) → IsSkipped (show i) → ⊥
unfolding show
shown i skipped = begins-more (form_of i).name (operands_text (form_of i).operands) (name-begins i) skipped

not-skipped : (i : Ins) (line : List ℕ) → line ≡ show i → IsSkipped line → ⊥
not-skipped i line text skipped = shown i (subst IsSkipped text skipped)

one-line : (line bytes other : List ℕ) → IsLineOf line bytes → IsLineOf line other → bytes ≡ other
one-line line bytes other (inl a) (inl b) = a.1 ∙ sym b.1
one-line line bytes other (inl a) (inr b) = absurd (not-skipped b.0 line b.3 a.0)
one-line line bytes other (inr a) (inl b) = absurd (not-skipped a.0 line a.3 b.0)
one-line line bytes other (inr a) (inr b) =
    let same : a.0 ≡ b.0 = one-text a.0 b.0 a.2 b.2 (sym a.3 ∙ b.3) in
    let word : a.1 ≡ b.1 = one-word b.0 a.1 b.1 (subst (λ i. IsWord i a.1) same a.4) b.4 in
    a.5 ∙ ap (to_le_bytes w32) word ∙ sym b.5

none-bad : (line bytes : List ℕ) → IsLineOf line bytes → IsBad line → ⊥
none-bad line bytes (inl a) bad = bad.0 a.0
none-bad line bytes (inr a) bad = bad.1 a.0 a.2 a.3

-- ---- All lines

pub one-code : OneCodeAssembles
unfolding Assembles
one-code [] code other a b = a ∙ sym b
one-code (line ∷ lines) code other a b =
    a.4 ∙ ap (λ here. here ++ a.1) (one-line line a.0 b.0 a.2 b.2) ∙ ap (λ rest. b.0 ++ rest) (one-code lines a.1 b.1 a.3 b.3) ∙ sym b.4

pub one-bad-line : OneLineIsFirstBad
unfolding IsFirstBad
one-bad-line [] number other a b = absurd a
one-bad-line (line ∷ lines) number other (inl a) (inl b) = a.0 ∙ sym b.0
one-bad-line (line ∷ lines) number other (inl a) (inr b) = absurd (none-bad line b.0 b.2 a.1)
one-bad-line (line ∷ lines) number other (inr a) (inl b) = absurd (none-bad line a.0 a.2 b.1)
one-bad-line (line ∷ lines) number other (inr a) (inr b) = a.4 ∙ ap (λ n. 1 + n) (one-bad-line lines a.1 b.1 a.3 b.3) ∙ sym b.4

pub none-bad-of-code : NoneIsBadOfCode
unfolding Assembles IsFirstBad
none-bad-of-code [] code number a b = b
none-bad-of-code (line ∷ lines) code number a (inl b) = none-bad line a.0 a.2 b.1
none-bad-of-code (line ∷ lines) code number a (inr b) = none-bad-of-code lines a.1 b.1 a.3 b.3
