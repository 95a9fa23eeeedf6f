-- The full forms: the base instructions of RV64I, those of its extension M, and FENCE.I, as the
-- RISC-V manual lists them ("RV32/64G Instruction Set Listings"). A row has the fields that are fixed, from
-- left to right as in the manual, and the operands.
use Rattle.std.specs.Prelude.{ℕ, ℤ, pos, ◌+◌, ◌-◌, ◌*◌, ◌^◌, List, [], ◌∷◌, ◌++◌}
use Rattle.machine_defs.specs.declared.ins.Ins.{Ins}
use Rattle.machine_defs.specs.declared.ins.Ins.TheVariants.{Lui, Auipc, Jal, Jalr, Beq, Bne, Blt, Bge, Bltu, Bgeu, Lb, Lh, Lw, Ld, Lbu, Lhu, Lwu, Sb, Sh, Sw, Sd, Addi, Slti, Sltiu, Xori, Ori, Andi, Slli, Srli, Srai, Addiw, Slliw, Srliw, Sraiw, Add, Sub, Sll, Slt, Sltu, Xor, Srl, Sra, Or, And, Mul, Mulh, Mulhsu, Mulhu, Div, Divu, Rem, Remu, Addw, Subw, Sllw, Srlw, Sraw, Mulw, Divw, Divuw, Remw, Remuw, Fence, FenceI, Ecall, Ebreak}
use Rattle.machine_defs.specs.Instruction.{bits, part, sign_extended}
use Rattle.machine_defs.specs.Row.{Pattern, Row}

-- ---- operands ("Base Instruction Formats")

unfoldable pub rd : ℕ → ℕ
rd word = bits 11 7 word

unfoldable pub rs1 : ℕ → ℕ
rs1 word = bits 19 15 word

unfoldable pub rs2 : ℕ → ℕ
rs2 word = bits 24 20 word

-- the immediates by the formats that have them ("Immediate Encoding Variants")
unfoldable pub i_immediate : ℕ → ℤ
i_immediate word = sign_extended 12 (bits 31 20 word)

unfoldable pub s_immediate : ℕ → ℤ
s_immediate word = sign_extended 12 (part 31 25 5 word + part 11 7 0 word)

unfoldable pub b_immediate : ℕ → ℤ
b_immediate word = sign_extended 13 (part 31 31 12 word + part 7 7 11 word + part 30 25 5 word + part 11 8 1 word)

unfoldable pub u_immediate : ℕ → ℤ
u_immediate word = sign_extended 32 (part 31 12 12 word)

unfoldable pub j_immediate : ℕ → ℤ
j_immediate word = sign_extended 21 (part 31 31 20 word + part 19 12 12 word + part 20 20 11 word + part 30 21 1 word)

-- the amounts of a shift of 64 bits and of one of 32
unfoldable pub shift_amount : ℕ → ℤ
shift_amount word = pos (bits 25 20 word)

unfoldable pub word_shift_amount : ℕ → ℤ
word_shift_amount word = pos (bits 24 20 word)

abbrev pub r_type : (ℕ → ℕ → ℕ → Ins) → ℕ → Ins
r_type form word = form (rd word) (rs1 word) (rs2 word)

abbrev pub i_type : (ℕ → ℕ → ℤ → Ins) → ℕ → Ins
i_type form word = form (rd word) (rs1 word) (i_immediate word)

abbrev pub s_type : (ℕ → ℕ → ℤ → Ins) → ℕ → Ins
s_type form word = form (rs1 word) (rs2 word) (s_immediate word)

abbrev pub b_type : (ℕ → ℕ → ℤ → Ins) → ℕ → Ins
b_type form word = form (rs1 word) (rs2 word) (b_immediate word)

abbrev pub u_type : (ℕ → ℤ → Ins) → ℕ → Ins
u_type form word = form (rd word) (u_immediate word)

abbrev pub j_type : (ℕ → ℤ → Ins) → ℕ → Ins
j_type form word = form (rd word) (j_immediate word)

abbrev pub shift : (ℕ → ℕ → ℤ → Ins) → ℕ → Ins
shift form word = form (rd word) (rs1 word) (shift_amount word)

abbrev pub word_shift : (ℕ → ℕ → ℤ → Ins) → ℕ → Ins
word_shift form word = form (rd word) (rs1 word) (word_shift_amount word)

abbrev pub no_operands : Ins → ℕ → Ins
no_operands form word = form

-- ---- the formats, by the fields that are fixed

-- bits `high` to `low` are those of a code
abbrev pub field : ℕ → ℕ → ℕ → Pattern
field high low code = record { mask = 2 ^ (high + 1) - 2 ^ low; value = code * 2 ^ low }

-- the same of two fields that lie apart
abbrev pub both : Pattern → Pattern → Pattern
both p q = record { mask = p.mask + q.mask; value = p.value + q.value }

abbrev pub with_opcode : ℕ → Pattern
with_opcode opcode = field 6 0 opcode

abbrev pub with_funct3 : ℕ → ℕ → Pattern
with_funct3 funct3 opcode = both (field 14 12 funct3) (with_opcode opcode)

abbrev pub row : Pattern → (ℕ → Ins) → Row
row pattern instruction = record { pattern = pattern; except = []; instruction = instruction }

abbrev pub u_row : ℕ → (ℕ → ℤ → Ins) → Row
u_row opcode form = row (with_opcode opcode) (u_type form)

abbrev pub j_row : ℕ → (ℕ → ℤ → Ins) → Row
j_row opcode form = row (with_opcode opcode) (j_type form)

abbrev pub i_row : ℕ → ℕ → (ℕ → ℕ → ℤ → Ins) → Row
i_row funct3 opcode form = row (with_funct3 funct3 opcode) (i_type form)

abbrev pub s_row : ℕ → ℕ → (ℕ → ℕ → ℤ → Ins) → Row
s_row funct3 opcode form = row (with_funct3 funct3 opcode) (s_type form)

abbrev pub b_row : ℕ → ℕ → (ℕ → ℕ → ℤ → Ins) → Row
b_row funct3 opcode form = row (with_funct3 funct3 opcode) (b_type form)

abbrev pub r_row : ℕ → ℕ → ℕ → (ℕ → ℕ → ℕ → Ins) → Row
r_row funct7 funct3 opcode form = row (both (field 31 25 funct7) (with_funct3 funct3 opcode)) (r_type form)

-- shifts by an amount of 6 bits, and by one of 5
abbrev pub shift_row : ℕ → ℕ → ℕ → (ℕ → ℕ → ℤ → Ins) → Row
shift_row funct6 funct3 opcode form = row (both (field 31 26 funct6) (with_funct3 funct3 opcode)) (shift form)

abbrev pub word_shift_row : ℕ → ℕ → ℕ → (ℕ → ℕ → ℤ → Ins) → Row
word_shift_row funct7 funct3 opcode form = row (both (field 31 25 funct7) (with_funct3 funct3 opcode)) (word_shift form)

-- the other fields of a fence are ignored ("Memory Ordering Instructions")
abbrev pub fence_row : ℕ → ℕ → Ins → Row
fence_row funct3 opcode form = row (with_funct3 funct3 opcode) (no_operands form)

-- rs1, funct3 and rd are 0
abbrev pub system_row : ℕ → ℕ → Ins → Row
system_row funct12 opcode form = row (both (field 31 20 funct12) (both (field 19 7 0) (with_opcode opcode))) (no_operands form)

-- ---- the rows, by opcode

abbrev pub opcode_forms : List Row
opcode_forms =
    u_row 0b0110111 Lui
    ∷ u_row 0b0010111 Auipc
    ∷ j_row 0b1101111 Jal
    ∷ []

abbrev pub jump_register_forms : List Row
jump_register_forms =
    i_row 0b000 0b1100111 Jalr
    ∷ []

abbrev pub branch_forms : List Row
branch_forms =
    b_row 0b000 0b1100011 Beq
    ∷ b_row 0b001 0b1100011 Bne
    ∷ b_row 0b100 0b1100011 Blt
    ∷ b_row 0b101 0b1100011 Bge
    ∷ b_row 0b110 0b1100011 Bltu
    ∷ b_row 0b111 0b1100011 Bgeu
    ∷ []

abbrev pub load_forms : List Row
load_forms =
    i_row 0b000 0b0000011 Lb
    ∷ i_row 0b001 0b0000011 Lh
    ∷ i_row 0b010 0b0000011 Lw
    ∷ i_row 0b011 0b0000011 Ld
    ∷ i_row 0b100 0b0000011 Lbu
    ∷ i_row 0b101 0b0000011 Lhu
    ∷ i_row 0b110 0b0000011 Lwu
    ∷ []

abbrev pub store_forms : List Row
store_forms =
    s_row 0b000 0b0100011 Sb
    ∷ s_row 0b001 0b0100011 Sh
    ∷ s_row 0b010 0b0100011 Sw
    ∷ s_row 0b011 0b0100011 Sd
    ∷ []

abbrev pub immediate_forms : List Row
immediate_forms =
    i_row 0b000 0b0010011 Addi
    ∷ i_row 0b010 0b0010011 Slti
    ∷ i_row 0b011 0b0010011 Sltiu
    ∷ i_row 0b100 0b0010011 Xori
    ∷ i_row 0b110 0b0010011 Ori
    ∷ i_row 0b111 0b0010011 Andi
    ∷ []

abbrev pub shift_forms : List Row
shift_forms =
    shift_row 0b000000 0b001 0b0010011 Slli
    ∷ shift_row 0b000000 0b101 0b0010011 Srli
    ∷ shift_row 0b010000 0b101 0b0010011 Srai
    ∷ []

abbrev pub word_immediate_forms : List Row
word_immediate_forms =
    i_row 0b000 0b0011011 Addiw
    ∷ []

abbrev pub word_shift_forms : List Row
word_shift_forms =
    word_shift_row 0b0000000 0b001 0b0011011 Slliw
    ∷ word_shift_row 0b0000000 0b101 0b0011011 Srliw
    ∷ word_shift_row 0b0100000 0b101 0b0011011 Sraiw
    ∷ []

abbrev pub register_forms : List Row
register_forms =
    r_row 0b0000000 0b000 0b0110011 Add
    ∷ r_row 0b0000000 0b001 0b0110011 Sll
    ∷ r_row 0b0000000 0b010 0b0110011 Slt
    ∷ r_row 0b0000000 0b011 0b0110011 Sltu
    ∷ r_row 0b0000000 0b100 0b0110011 Xor
    ∷ r_row 0b0000000 0b101 0b0110011 Srl
    ∷ r_row 0b0000000 0b110 0b0110011 Or
    ∷ r_row 0b0000000 0b111 0b0110011 And
    ∷ r_row 0b0100000 0b000 0b0110011 Sub
    ∷ r_row 0b0100000 0b101 0b0110011 Sra
    ∷ r_row 0b0000001 0b000 0b0110011 Mul
    ∷ r_row 0b0000001 0b001 0b0110011 Mulh
    ∷ r_row 0b0000001 0b010 0b0110011 Mulhsu
    ∷ r_row 0b0000001 0b011 0b0110011 Mulhu
    ∷ r_row 0b0000001 0b100 0b0110011 Div
    ∷ r_row 0b0000001 0b101 0b0110011 Divu
    ∷ r_row 0b0000001 0b110 0b0110011 Rem
    ∷ r_row 0b0000001 0b111 0b0110011 Remu
    ∷ []

abbrev pub word_register_forms : List Row
word_register_forms =
    r_row 0b0000000 0b000 0b0111011 Addw
    ∷ r_row 0b0000000 0b001 0b0111011 Sllw
    ∷ r_row 0b0000000 0b101 0b0111011 Srlw
    ∷ r_row 0b0100000 0b000 0b0111011 Subw
    ∷ r_row 0b0100000 0b101 0b0111011 Sraw
    ∷ r_row 0b0000001 0b000 0b0111011 Mulw
    ∷ r_row 0b0000001 0b100 0b0111011 Divw
    ∷ r_row 0b0000001 0b101 0b0111011 Divuw
    ∷ r_row 0b0000001 0b110 0b0111011 Remw
    ∷ r_row 0b0000001 0b111 0b0111011 Remuw
    ∷ []

abbrev pub fence_forms : List Row
fence_forms =
    fence_row 0b000 0b0001111 Fence
    ∷ fence_row 0b001 0b0001111 FenceI
    ∷ []

abbrev pub system_forms : List Row
system_forms =
    system_row 0b000000000000 0b1110011 Ecall
    ∷ system_row 0b000000000001 0b1110011 Ebreak
    ∷ []

unfoldable pub full_forms : List Row
full_forms =
    opcode_forms ++ jump_register_forms ++ branch_forms ++ load_forms ++ store_forms
    ++ immediate_forms ++ shift_forms ++ word_immediate_forms ++ word_shift_forms
    ++ register_forms ++ word_register_forms ++ fence_forms ++ system_forms
