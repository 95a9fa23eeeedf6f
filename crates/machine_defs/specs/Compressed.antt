-- The compressed forms: those of the RISC-V manual's extension C that RV64 has without
-- floating-point numbers ("RVC Instruction Set Listings"), each as the full form that it stands for.
-- A row has the mask of the fields that are fixed, their value, and the patterns that are reserved or
-- belong to another row.
use Rattle.std.specs.Prelude.{ℕ, ℤ, pos, ◌+◌, List, [], ◌∷◌, ◌++◌}
use Rattle.machine_defs.specs.declared.ins.Ins.{Ins}
use Rattle.machine_defs.specs.declared.ins.Ins.TheVariants.{Lui, Jal, Jalr, Beq, Bne, Lw, Ld, Sw, Sd, Addi, Andi, Slli, Srli, Srai, Addiw, Add, Sub, Xor, Or, And, Addw, Subw, Ebreak}
use Rattle.machine_defs.specs.Instruction.{bits, part, sign_extended}
use Rattle.machine_defs.specs.Row.{Row, Pattern}

-- ---- registers ("Compressed Instruction Formats")

-- rd or rs1, and rs2, of the forms that reach all registers
unfoldable pub c_rd : ℕ → ℕ
c_rd half = bits 11 7 half

unfoldable pub c_rs2 : ℕ → ℕ
c_rs2 half = bits 6 2 half

-- x8 to x15, of the forms with three bits for a register: rd' or rs1', and rs2'
unfoldable pub c_short_rs1 : ℕ → ℕ
c_short_rs1 half = 8 + bits 9 7 half

unfoldable pub c_short_rs2 : ℕ → ℕ
c_short_rs2 half = 8 + bits 4 2 half

-- x0, the return address and the stack pointer
abbrev pub zero_register : ℕ
zero_register = 0

abbrev pub return_address : ℕ
return_address = 1

abbrev pub stack_pointer : ℕ
stack_pointer = 2

-- ---- immediates

unfoldable pub c_immediate : ℕ → ℤ
c_immediate half = sign_extended 6 (part 12 12 5 half + part 6 2 0 half)

unfoldable pub c_shift_amount : ℕ → ℤ
c_shift_amount half = pos (part 12 12 5 half + part 6 2 0 half)

unfoldable pub c_lui_immediate : ℕ → ℤ
c_lui_immediate half = sign_extended 18 (part 12 12 17 half + part 6 2 12 half)

unfoldable pub c_addi4spn_immediate : ℕ → ℤ
c_addi4spn_immediate half = pos (part 12 11 4 half + part 10 7 6 half + part 6 6 2 half + part 5 5 3 half)

unfoldable pub c_addi16sp_immediate : ℕ → ℤ
c_addi16sp_immediate half =
    sign_extended 10 (part 12 12 9 half + part 6 6 4 half + part 5 5 6 half + part 4 3 7 half + part 2 2 5 half)

-- offsets of loads and stores, by the width and the base
unfoldable pub c_word_offset : ℕ → ℤ
c_word_offset half = pos (part 12 10 3 half + part 6 6 2 half + part 5 5 6 half)

unfoldable pub c_double_offset : ℕ → ℤ
c_double_offset half = pos (part 12 10 3 half + part 6 5 6 half)

unfoldable pub c_lwsp_offset : ℕ → ℤ
c_lwsp_offset half = pos (part 12 12 5 half + part 6 4 2 half + part 3 2 6 half)

unfoldable pub c_ldsp_offset : ℕ → ℤ
c_ldsp_offset half = pos (part 12 12 5 half + part 6 5 3 half + part 4 2 6 half)

unfoldable pub c_swsp_offset : ℕ → ℤ
c_swsp_offset half = pos (part 12 9 2 half + part 8 7 6 half)

unfoldable pub c_sdsp_offset : ℕ → ℤ
c_sdsp_offset half = pos (part 12 10 3 half + part 9 7 6 half)

-- offsets of a jump and of a branch
unfoldable pub c_jump_offset : ℕ → ℤ
c_jump_offset half =
    sign_extended 12 (part 12 12 11 half + part 11 11 4 half + part 10 9 8 half + part 8 8 10 half
    + part 7 7 6 half + part 6 6 7 half + part 5 3 1 half + part 2 2 5 half)

unfoldable pub c_branch_offset : ℕ → ℤ
c_branch_offset half =
    sign_extended 9 (part 12 12 8 half + part 11 10 3 half + part 6 5 6 half + part 4 3 1 half + part 2 2 5 half)

-- ---- the rows, by quadrant

abbrev pub pattern : ℕ → ℕ → Pattern
pattern mask value = record { mask = mask; value = value }

abbrev pub compressed_row : ℕ → ℕ → List Pattern → (ℕ → Ins) → Row
compressed_row mask value except instruction =
    record { pattern = pattern mask value; except = except; instruction = instruction }

-- what rows leave out
abbrev pub rd_zero : Pattern
rd_zero = pattern 0x0f80 0

abbrev pub rd_stack_pointer : Pattern
rd_stack_pointer = pattern 0x0f80 0x0100

abbrev pub rs2_zero : Pattern
rs2_zero = pattern 0x007c 0

abbrev pub immediate_zero : Pattern
immediate_zero = pattern 0x107c 0

abbrev pub wide_immediate_zero : Pattern
wide_immediate_zero = pattern 0x1fe0 0

abbrev pub quadrant_0_forms : List Row
quadrant_0_forms =
    -- C.ADDI4SPN
    compressed_row 0xe003 0x0000 (wide_immediate_zero ∷ [])
    (λ c. Addi (c_short_rs2 c) stack_pointer (c_addi4spn_immediate c))
    -- C.LW
    ∷ compressed_row 0xe003 0x4000 [] (λ c. Lw (c_short_rs2 c) (c_short_rs1 c) (c_word_offset c))
    -- C.LD
    ∷ compressed_row 0xe003 0x6000 [] (λ c. Ld (c_short_rs2 c) (c_short_rs1 c) (c_double_offset c))
    -- C.SW
    ∷ compressed_row 0xe003 0xc000 [] (λ c. Sw (c_short_rs1 c) (c_short_rs2 c) (c_word_offset c))
    -- C.SD
    ∷ compressed_row 0xe003 0xe000 [] (λ c. Sd (c_short_rs1 c) (c_short_rs2 c) (c_double_offset c))
    ∷ []

abbrev pub c_immediate_and_jump_forms : List Row
c_immediate_and_jump_forms =
    -- C.ADDI, and C.NOP
    compressed_row 0xe003 0x0001 [] (λ c. Addi (c_rd c) (c_rd c) (c_immediate c))
    -- C.ADDIW
    ∷ compressed_row 0xe003 0x2001 (rd_zero ∷ []) (λ c. Addiw (c_rd c) (c_rd c) (c_immediate c))
    -- C.LI
    ∷ compressed_row 0xe003 0x4001 [] (λ c. Addi (c_rd c) zero_register (c_immediate c))
    -- C.J
    ∷ compressed_row 0xe003 0xa001 [] (λ c. Jal zero_register (c_jump_offset c))
    -- C.BEQZ
    ∷ compressed_row 0xe003 0xc001 [] (λ c. Beq (c_short_rs1 c) zero_register (c_branch_offset c))
    -- C.BNEZ
    ∷ compressed_row 0xe003 0xe001 [] (λ c. Bne (c_short_rs1 c) zero_register (c_branch_offset c))
    ∷ []

abbrev pub c_upper_forms : List Row
c_upper_forms =
    -- C.ADDI16SP
    compressed_row 0xef83 0x6101 (immediate_zero ∷ [])
    (λ c. Addi stack_pointer stack_pointer (c_addi16sp_immediate c))
    -- C.LUI
    ∷ compressed_row 0xe003 0x6001 (rd_stack_pointer ∷ immediate_zero ∷ [])
    (λ c. Lui (c_rd c) (c_lui_immediate c))
    ∷ []

abbrev pub c_arithmetic_forms : List Row
c_arithmetic_forms =
    -- C.SRLI
    compressed_row 0xec03 0x8001 [] (λ c. Srli (c_short_rs1 c) (c_short_rs1 c) (c_shift_amount c))
    -- C.SRAI
    ∷ compressed_row 0xec03 0x8401 [] (λ c. Srai (c_short_rs1 c) (c_short_rs1 c) (c_shift_amount c))
    -- C.ANDI
    ∷ compressed_row 0xec03 0x8801 [] (λ c. Andi (c_short_rs1 c) (c_short_rs1 c) (c_immediate c))
    ∷ []

abbrev pub c_register_arithmetic_forms : List Row
c_register_arithmetic_forms =
    -- C.SUB
    compressed_row 0xfc63 0x8c01 [] (λ c. Sub (c_short_rs1 c) (c_short_rs1 c) (c_short_rs2 c))
    -- C.XOR
    ∷ compressed_row 0xfc63 0x8c21 [] (λ c. Xor (c_short_rs1 c) (c_short_rs1 c) (c_short_rs2 c))
    -- C.OR
    ∷ compressed_row 0xfc63 0x8c41 [] (λ c. Or (c_short_rs1 c) (c_short_rs1 c) (c_short_rs2 c))
    -- C.AND
    ∷ compressed_row 0xfc63 0x8c61 [] (λ c. And (c_short_rs1 c) (c_short_rs1 c) (c_short_rs2 c))
    -- C.SUBW
    ∷ compressed_row 0xfc63 0x9c01 [] (λ c. Subw (c_short_rs1 c) (c_short_rs1 c) (c_short_rs2 c))
    -- C.ADDW
    ∷ compressed_row 0xfc63 0x9c21 [] (λ c. Addw (c_short_rs1 c) (c_short_rs1 c) (c_short_rs2 c))
    ∷ []

abbrev pub quadrant_1_forms : List Row
quadrant_1_forms =
    c_immediate_and_jump_forms ++ c_upper_forms ++ c_arithmetic_forms ++ c_register_arithmetic_forms

abbrev pub c_shift_and_stack_forms : List Row
c_shift_and_stack_forms =
    -- C.SLLI
    compressed_row 0xe003 0x0002 [] (λ c. Slli (c_rd c) (c_rd c) (c_shift_amount c))
    -- C.LWSP
    ∷ compressed_row 0xe003 0x4002 (rd_zero ∷ []) (λ c. Lw (c_rd c) stack_pointer (c_lwsp_offset c))
    -- C.LDSP
    ∷ compressed_row 0xe003 0x6002 (rd_zero ∷ []) (λ c. Ld (c_rd c) stack_pointer (c_ldsp_offset c))
    -- C.SWSP
    ∷ compressed_row 0xe003 0xc002 [] (λ c. Sw stack_pointer (c_rs2 c) (c_swsp_offset c))
    -- C.SDSP
    ∷ compressed_row 0xe003 0xe002 [] (λ c. Sd stack_pointer (c_rs2 c) (c_sdsp_offset c))
    ∷ []

abbrev pub c_register_forms : List Row
c_register_forms =
    -- C.JR
    compressed_row 0xf07f 0x8002 (rd_zero ∷ []) (λ c. Jalr zero_register (c_rd c) (pos 0))
    -- C.MV
    ∷ compressed_row 0xf003 0x8002 (rs2_zero ∷ []) (λ c. Add (c_rd c) zero_register (c_rs2 c))
    -- C.EBREAK
    ∷ compressed_row 0xffff 0x9002 [] (λ c. Ebreak)
    -- C.JALR
    ∷ compressed_row 0xf07f 0x9002 (rd_zero ∷ []) (λ c. Jalr return_address (c_rd c) (pos 0))
    -- C.ADD
    ∷ compressed_row 0xf003 0x9002 (rs2_zero ∷ []) (λ c. Add (c_rd c) (c_rd c) (c_rs2 c))
    ∷ []

abbrev pub quadrant_2_forms : List Row
quadrant_2_forms = c_shift_and_stack_forms ++ c_register_forms

unfoldable pub compressed_forms : List Row
compressed_forms = quadrant_0_forms ++ quadrant_1_forms ++ quadrant_2_forms
