-- The full form of each compressed form.
use Rattle.std.proofs.Common.{◌≡◌, ℕ, ◌+◌, ◌*◌, ◌/◌, ◌%◌, ◌^◌, ◌<◌, ◌≤◌, ℤ, pos, Bool, true, false, cond, ◌==◌, List, [], ◌∷◌, Option, Some, IfSome, inl, inr, ◌⊎◌, refl, sym, ap, subst, ◌∙◌, lit<, arith}
use Rattle.std.specs.Option.{option_map}
use Rattle.std.proofs.lemmas.Int.{ints}
use Rattle.std.proofs.lemmas.Bool.Decides.{nat_tests}
use Rattle.std.proofs.lemmas.Bool.{eq-eqb, cases_lt}
use Rattle.machine_defs.specs.declared.ins.Ins.{Ins}
use Rattle.machine_defs.specs.declared.ins.Ins.TheVariants.{Lui, Jal, Jalr, Beq, Bne, Lw, Ld, Sw, Sd, Addi, Andi, Slli, Srli, Srai, Addiw, Add, Sub, Xor, Or, And, Addw, Subw, Ebreak}
use Rattle.machine_defs.specs.Instruction.{bits, part, sign_extended}
use Rattle.machine_defs.specs.Row.{Row, matches, encoded_in}
use Rattle.machine_defs.specs.Table.{u_row, j_row, i_row, s_row, b_row, r_row, shift_row, system_row, full_forms}
use Rattle.machine_defs.specs.Compressed.{c_rd, c_rs2, c_short_rs1, c_short_rs2, zero_register, return_address, stack_pointer, c_immediate, c_shift_amount, c_lui_immediate, c_addi4spn_immediate, c_addi16sp_immediate, c_word_offset, c_double_offset, c_lwsp_offset, c_ldsp_offset, c_swsp_offset, c_sdsp_offset, c_jump_offset, c_branch_offset, compressed_forms}
use Rattle.machine_defs.specs.Decode.{decode, with_length, HasFullForm}
use Rattle.machine_defs.proofs.RowLaws.{narrowed, hit}
use Rattle.machine_defs.proofs.DecodeLaws.{below-c_rd, below-c_rs2, below-c_short_rs1, below-c_short_rs2, below-zero, below-ra, below-sp, ◌also◌}
use Rattle.rv_decode.proofs.FullForms.{IsGiven, r_given, i_given, s_given, b_given, u_given, j_given, shift_given}

-- ---- the full forms that compressed forms stand for

lui-given : (d n : ℕ) (z : ℤ) → d < 32 → n < 1048576 → sign_extended 32 (n * 4096) ≡ z → IsGiven (Lui d z)
unfolding full_forms
lui-given =
    u_given 0x37 Lui (lit< tt) refl
    (λ w h. narrowed full_forms w (record { mask = 0x0000007f; value = 0x00000037 }) h ∙ hit w (u_row 0b0110111 Lui) refl h)

jal-given : (d n : ℕ) (z : ℤ) → d < 32 → n < 2097152 → n % 2 ≡ 0 → sign_extended 21 n ≡ z → IsGiven (Jal d z)
unfolding full_forms
jal-given =
    j_given 0x6f Jal (lit< tt) refl
    (λ w h. narrowed full_forms w (record { mask = 0x0000007f; value = 0x0000006f }) h ∙ hit w (j_row 0b1101111 Jal) refl h)

jalr-given : (d a n : ℕ) (z : ℤ) → d < 32 → a < 32 → n < 4096 → sign_extended 12 n ≡ z → IsGiven (Jalr d a z)
unfolding full_forms
jalr-given =
    i_given 0x67 0 Jalr (lit< tt) (lit< tt) refl
    (λ w h. narrowed full_forms w (record { mask = 0x0000707f; value = 0x00000067 }) h ∙ hit w (i_row 0b000 0b1100111 Jalr) refl h)

beq-given : (a b n : ℕ) (z : ℤ) → a < 32 → b < 32 → n < 8192 → n % 2 ≡ 0 → sign_extended 13 n ≡ z → IsGiven (Beq a b z)
unfolding full_forms
beq-given =
    b_given 0x63 0 Beq (lit< tt) (lit< tt) refl
    (λ w h. narrowed full_forms w (record { mask = 0x0000707f; value = 0x00000063 }) h ∙ hit w (b_row 0b000 0b1100011 Beq) refl h)

bne-given : (a b n : ℕ) (z : ℤ) → a < 32 → b < 32 → n < 8192 → n % 2 ≡ 0 → sign_extended 13 n ≡ z → IsGiven (Bne a b z)
unfolding full_forms
bne-given =
    b_given 0x63 1 Bne (lit< tt) (lit< tt) refl
    (λ w h. narrowed full_forms w (record { mask = 0x0000707f; value = 0x00001063 }) h ∙ hit w (b_row 0b001 0b1100011 Bne) refl h)

lw-given : (d a n : ℕ) (z : ℤ) → d < 32 → a < 32 → n < 4096 → sign_extended 12 n ≡ z → IsGiven (Lw d a z)
unfolding full_forms
lw-given =
    i_given 0x3 2 Lw (lit< tt) (lit< tt) refl
    (λ w h. narrowed full_forms w (record { mask = 0x0000707f; value = 0x00002003 }) h ∙ hit w (i_row 0b010 0b0000011 Lw) refl h)

ld-given : (d a n : ℕ) (z : ℤ) → d < 32 → a < 32 → n < 4096 → sign_extended 12 n ≡ z → IsGiven (Ld d a z)
unfolding full_forms
ld-given =
    i_given 0x3 3 Ld (lit< tt) (lit< tt) refl
    (λ w h. narrowed full_forms w (record { mask = 0x0000707f; value = 0x00003003 }) h ∙ hit w (i_row 0b011 0b0000011 Ld) refl h)

sw-given : (a b n : ℕ) (z : ℤ) → a < 32 → b < 32 → n < 4096 → sign_extended 12 n ≡ z → IsGiven (Sw a b z)
unfolding full_forms
sw-given =
    s_given 0x23 2 Sw (lit< tt) (lit< tt) refl
    (λ w h. narrowed full_forms w (record { mask = 0x0000707f; value = 0x00002023 }) h ∙ hit w (s_row 0b010 0b0100011 Sw) refl h)

sd-given : (a b n : ℕ) (z : ℤ) → a < 32 → b < 32 → n < 4096 → sign_extended 12 n ≡ z → IsGiven (Sd a b z)
unfolding full_forms
sd-given =
    s_given 0x23 3 Sd (lit< tt) (lit< tt) refl
    (λ w h. narrowed full_forms w (record { mask = 0x0000707f; value = 0x00003023 }) h ∙ hit w (s_row 0b011 0b0100011 Sd) refl h)

addi-given : (d a n : ℕ) (z : ℤ) → d < 32 → a < 32 → n < 4096 → sign_extended 12 n ≡ z → IsGiven (Addi d a z)
unfolding full_forms
addi-given =
    i_given 0x13 0 Addi (lit< tt) (lit< tt) refl
    (λ w h. narrowed full_forms w (record { mask = 0x0000707f; value = 0x00000013 }) h ∙ hit w (i_row 0b000 0b0010011 Addi) refl h)

andi-given : (d a n : ℕ) (z : ℤ) → d < 32 → a < 32 → n < 4096 → sign_extended 12 n ≡ z → IsGiven (Andi d a z)
unfolding full_forms
andi-given =
    i_given 0x13 7 Andi (lit< tt) (lit< tt) refl
    (λ w h. narrowed full_forms w (record { mask = 0x0000707f; value = 0x00007013 }) h ∙ hit w (i_row 0b111 0b0010011 Andi) refl h)

slli-given : (d a n : ℕ) → d < 32 → a < 32 → n < 64 → IsGiven (Slli d a (pos n))
unfolding full_forms
slli-given =
    shift_given 0x0 1 Slli (lit< tt) (lit< tt)
    (λ w h. narrowed full_forms w (record { mask = 0xfc00707f; value = 0x00001013 }) h ∙ hit w (shift_row 0b000000 0b001 0b0010011 Slli) refl h)

srli-given : (d a n : ℕ) → d < 32 → a < 32 → n < 64 → IsGiven (Srli d a (pos n))
unfolding full_forms
srli-given =
    shift_given 0x0 5 Srli (lit< tt) (lit< tt)
    (λ w h. narrowed full_forms w (record { mask = 0xfc00707f; value = 0x00005013 }) h ∙ hit w (shift_row 0b000000 0b101 0b0010011 Srli) refl h)

srai-given : (d a n : ℕ) → d < 32 → a < 32 → n < 64 → IsGiven (Srai d a (pos n))
unfolding full_forms
srai-given =
    shift_given 0x10 5 Srai (lit< tt) (lit< tt)
    (λ w h. narrowed full_forms w (record { mask = 0xfc00707f; value = 0x40005013 }) h ∙ hit w (shift_row 0b010000 0b101 0b0010011 Srai) refl h)

addiw-given : (d a n : ℕ) (z : ℤ) → d < 32 → a < 32 → n < 4096 → sign_extended 12 n ≡ z → IsGiven (Addiw d a z)
unfolding full_forms
addiw-given =
    i_given 0x1b 0 Addiw (lit< tt) (lit< tt) refl
    (λ w h. narrowed full_forms w (record { mask = 0x0000707f; value = 0x0000001b }) h ∙ hit w (i_row 0b000 0b0011011 Addiw) refl h)

add-given : (d a b : ℕ) → d < 32 → a < 32 → b < 32 → IsGiven (Add d a b)
unfolding full_forms
add-given =
    r_given 0x33 0 0x0 Add (lit< tt) (lit< tt) (lit< tt) refl
    (λ w h. narrowed full_forms w (record { mask = 0xfe00707f; value = 0x00000033 }) h ∙ hit w (r_row 0b0000000 0b000 0b0110011 Add) refl h)

sub-given : (d a b : ℕ) → d < 32 → a < 32 → b < 32 → IsGiven (Sub d a b)
unfolding full_forms
sub-given =
    r_given 0x33 0 0x20 Sub (lit< tt) (lit< tt) (lit< tt) refl
    (λ w h. narrowed full_forms w (record { mask = 0xfe00707f; value = 0x40000033 }) h ∙ hit w (r_row 0b0100000 0b000 0b0110011 Sub) refl h)

xor-given : (d a b : ℕ) → d < 32 → a < 32 → b < 32 → IsGiven (Xor d a b)
unfolding full_forms
xor-given =
    r_given 0x33 4 0x0 Xor (lit< tt) (lit< tt) (lit< tt) refl
    (λ w h. narrowed full_forms w (record { mask = 0xfe00707f; value = 0x00004033 }) h ∙ hit w (r_row 0b0000000 0b100 0b0110011 Xor) refl h)

or-given : (d a b : ℕ) → d < 32 → a < 32 → b < 32 → IsGiven (Or d a b)
unfolding full_forms
or-given =
    r_given 0x33 6 0x0 Or (lit< tt) (lit< tt) (lit< tt) refl
    (λ w h. narrowed full_forms w (record { mask = 0xfe00707f; value = 0x00006033 }) h ∙ hit w (r_row 0b0000000 0b110 0b0110011 Or) refl h)

and-given : (d a b : ℕ) → d < 32 → a < 32 → b < 32 → IsGiven (And d a b)
unfolding full_forms
and-given =
    r_given 0x33 7 0x0 And (lit< tt) (lit< tt) (lit< tt) refl
    (λ w h. narrowed full_forms w (record { mask = 0xfe00707f; value = 0x00007033 }) h ∙ hit w (r_row 0b0000000 0b111 0b0110011 And) refl h)

addw-given : (d a b : ℕ) → d < 32 → a < 32 → b < 32 → IsGiven (Addw d a b)
unfolding full_forms
addw-given =
    r_given 0x3b 0 0x0 Addw (lit< tt) (lit< tt) (lit< tt) refl
    (λ w h. narrowed full_forms w (record { mask = 0xfe00707f; value = 0x0000003b }) h ∙ hit w (r_row 0b0000000 0b000 0b0111011 Addw) refl h)

subw-given : (d a b : ℕ) → d < 32 → a < 32 → b < 32 → IsGiven (Subw d a b)
unfolding full_forms
subw-given =
    r_given 0x3b 0 0x20 Subw (lit< tt) (lit< tt) (lit< tt) refl
    (λ w h. narrowed full_forms w (record { mask = 0xfe00707f; value = 0x4000003b }) h ∙ hit w (r_row 0b0100000 0b000 0b0111011 Subw) refl h)

ebreak-given : IsGiven Ebreak
unfolding full_forms
ebreak-given = (
  0x00100073,
  lit< tt,
  refl,
  narrowed full_forms 0x00100073 (record { mask = 0xffffffff; value = 0x00100073 }) refl
      ∙ hit 0x00100073 (system_row 0b000000000001 0b1110011 Ebreak) refl refl,
)

-- ---- immediates, in the width of the full form

-- a number of some bits that is negative has ones above them
unsigned_12 : (m : ℕ) → m < 2048 → sign_extended 12 m ≡ pos m
unfolding sign_extended
unsigned_12 m small = grind (arith, nat_tests)

order : (a b : ℕ) → (a < b) ⊎ (b ≤ a)
order a b = cases_lt a b

widen_6_12 : (m : ℕ) → m < 64
    → (n : ℕ) × (n < 4096) × (sign_extended 12 n ≡ sign_extended 6 m) × ((n ≡ m) ⊎ (n ≡ m + 4032))
unfolding sign_extended
widen_6_12 m small =
    elim (order m 32) [
      | inl positive ↦ (m, omega arith, grind (arith, nat_tests), inl refl)
      | inr negative ↦ (m + 4032, omega arith, grind (arith, nat_tests, ints), inr refl)
    ]

widen_10_12 : (m : ℕ) → m < 1024
    → (n : ℕ) × (n < 4096) × (sign_extended 12 n ≡ sign_extended 10 m) × ((n ≡ m) ⊎ (n ≡ m + 3072))
unfolding sign_extended
widen_10_12 m small =
    elim (order m 512) [
      | inl positive ↦ (m, omega arith, grind (arith, nat_tests), inl refl)
      | inr negative ↦ (m + 3072, omega arith, grind (arith, nat_tests, ints), inr refl)
    ]

widen_9_13 : (m : ℕ) → m < 512
    → (n : ℕ) × (n < 8192) × (sign_extended 13 n ≡ sign_extended 9 m) × ((n ≡ m) ⊎ (n ≡ m + 7680))
unfolding sign_extended
widen_9_13 m small =
    elim (order m 256) [
      | inl positive ↦ (m, omega arith, grind (arith, nat_tests), inl refl)
      | inr negative ↦ (m + 7680, omega arith, grind (arith, nat_tests, ints), inr refl)
    ]

widen_12_21 : (m : ℕ) → m < 4096
    → (n : ℕ) × (n < 2097152) × (sign_extended 21 n ≡ sign_extended 12 m) × ((n ≡ m) ⊎ (n ≡ m + 2093056))
unfolding sign_extended
widen_12_21 m small =
    elim (order m 2048) [
      | inl positive ↦ (m, omega arith, grind (arith, nat_tests), inl refl)
      | inr negative ↦ (m + 2093056, omega arith, grind (arith, nat_tests, ints), inr refl)
    ]

widen_18_32 : (m : ℕ) → m < 262144
    → (n : ℕ) × (n < 4294967296) × (sign_extended 32 n ≡ sign_extended 18 m) × ((n ≡ m) ⊎ (n ≡ m + 4294705152))
unfolding sign_extended
widen_18_32 m small =
    elim (order m 131072) [
      | inl positive ↦ (m, omega arith, grind (arith, nat_tests), inl refl)
      | inr negative ↦ (m + 4294705152, omega arith, grind (arith, nat_tests, ints), inr refl)
    ]

-- ---- the immediates of compressed forms

c_immediate-12 : (c : ℕ) → (n : ℕ) × (n < 4096) × (sign_extended 12 n ≡ c_immediate c)
unfolding c_immediate bits
c_immediate-12 c =
    let m : ℕ = (part 12 12 5 c + part 6 2 0 c) in
    let wide = widen_6_12 m (omega arith) in
    (wide.0, wide.1, wide.2)

c_addi16sp_immediate-12 : (c : ℕ) → (n : ℕ) × (n < 4096) × (sign_extended 12 n ≡ c_addi16sp_immediate c)
unfolding c_addi16sp_immediate bits
c_addi16sp_immediate-12 c =
    let m : ℕ = (part 12 12 9 c + part 6 6 4 c + part 5 5 6 c + part 4 3 7 c + part 2 2 5 c) in
    let wide = widen_10_12 m (omega arith) in
    (wide.0, wide.1, wide.2)

c_addi4spn_immediate-12 : (c : ℕ) → (n : ℕ) × (n < 4096) × (sign_extended 12 n ≡ c_addi4spn_immediate c)
unfolding c_addi4spn_immediate bits
c_addi4spn_immediate-12 c =
    let m : ℕ = (part 12 11 4 c + part 10 7 6 c + part 6 6 2 c + part 5 5 3 c) in
    (m, omega arith, unsigned_12 m (omega arith))

c_word_offset-12 : (c : ℕ) → (n : ℕ) × (n < 4096) × (sign_extended 12 n ≡ c_word_offset c)
unfolding c_word_offset bits
c_word_offset-12 c =
    let m : ℕ = (part 12 10 3 c + part 6 6 2 c + part 5 5 6 c) in
    (m, omega arith, unsigned_12 m (omega arith))

c_double_offset-12 : (c : ℕ) → (n : ℕ) × (n < 4096) × (sign_extended 12 n ≡ c_double_offset c)
unfolding c_double_offset bits
c_double_offset-12 c =
    let m : ℕ = (part 12 10 3 c + part 6 5 6 c) in
    (m, omega arith, unsigned_12 m (omega arith))

c_lwsp_offset-12 : (c : ℕ) → (n : ℕ) × (n < 4096) × (sign_extended 12 n ≡ c_lwsp_offset c)
unfolding c_lwsp_offset bits
c_lwsp_offset-12 c =
    let m : ℕ = (part 12 12 5 c + part 6 4 2 c + part 3 2 6 c) in
    (m, omega arith, unsigned_12 m (omega arith))

c_ldsp_offset-12 : (c : ℕ) → (n : ℕ) × (n < 4096) × (sign_extended 12 n ≡ c_ldsp_offset c)
unfolding c_ldsp_offset bits
c_ldsp_offset-12 c =
    let m : ℕ = (part 12 12 5 c + part 6 5 3 c + part 4 2 6 c) in
    (m, omega arith, unsigned_12 m (omega arith))

c_swsp_offset-12 : (c : ℕ) → (n : ℕ) × (n < 4096) × (sign_extended 12 n ≡ c_swsp_offset c)
unfolding c_swsp_offset bits
c_swsp_offset-12 c =
    let m : ℕ = (part 12 9 2 c + part 8 7 6 c) in
    (m, omega arith, unsigned_12 m (omega arith))

c_sdsp_offset-12 : (c : ℕ) → (n : ℕ) × (n < 4096) × (sign_extended 12 n ≡ c_sdsp_offset c)
unfolding c_sdsp_offset bits
c_sdsp_offset-12 c =
    let m : ℕ = (part 12 10 3 c + part 9 7 6 c) in
    (m, omega arith, unsigned_12 m (omega arith))

c_shift_amount-6 : (c : ℕ) → (n : ℕ) × (n < 64) × (pos n ≡ c_shift_amount c)
unfolding c_shift_amount bits
c_shift_amount-6 c =
    let m : ℕ = (part 12 12 5 c + part 6 2 0 c) in
    (m, omega arith, refl)

c_lui_immediate-20 : (c : ℕ) → (n : ℕ) × (n < 1048576) × (sign_extended 32 (n * 4096) ≡ c_lui_immediate c)
unfolding c_lui_immediate bits
c_lui_immediate-20 c =
    let m : ℕ = (part 12 12 17 c + part 6 2 12 c) in
    let wide = widen_18_32 m (omega arith) in
    let whole : wide.0 / 4096 * 4096 ≡ wide.0 = elim wide.3 [ inl same ↦ omega arith | inr above ↦ omega arith ] in
    let small = wide.1 in
    (wide.0 / 4096, omega arith, ap (sign_extended 32) whole ∙ wide.2)

c_jump_offset-21 : (c : ℕ) → (n : ℕ) × (n < 2097152) × (n % 2 ≡ 0) × (sign_extended 21 n ≡ c_jump_offset c)
unfolding c_jump_offset bits
c_jump_offset-21 c =
    let m : ℕ = (part 12 12 11 c + part 11 11 4 c + part 10 9 8 c + part 8 8 10 c + part 7 7 6 c + part 6 6 7 c + part 5 3 1 c + part 2 2 5 c) in
    let wide = widen_12_21 m (omega arith) in
    let even : wide.0 % 2 ≡ 0 = elim wide.3 [ inl same ↦ omega arith | inr above ↦ omega arith ] in
    (wide.0, wide.1, even, wide.2)

c_branch_offset-13 : (c : ℕ) → (n : ℕ) × (n < 8192) × (n % 2 ≡ 0) × (sign_extended 13 n ≡ c_branch_offset c)
unfolding c_branch_offset bits
c_branch_offset-13 c =
    let m : ℕ = (part 12 12 8 c + part 11 10 3 c + part 6 5 6 c + part 4 3 1 c + part 2 2 5 c) in
    let wide = widen_9_13 m (omega arith) in
    let even : wide.0 % 2 ≡ 0 = elim wide.3 [ inl same ↦ omega arith | inr above ↦ omega arith ] in
    (wide.0, wide.1, even, wide.2)

-- ---- each compressed form

abbrev pub EachGiven : List Row → Type 0
EachGiven [] = Unit {0}
EachGiven (row ∷ rows) = ((c : ℕ) → IsGiven (row.instruction c)) × EachGiven rows

compressed_forms_given : EachGiven compressed_forms
unfolding compressed_forms
compressed_forms_given =
    (λ c. let wide = c_addi4spn_immediate-12 c in addi-given (c_short_rs2 c) stack_pointer wide.0 (c_addi4spn_immediate c) (below-c_short_rs2 c) (below-sp c) wide.1 wide.2)
    also (λ c. let wide = c_word_offset-12 c in lw-given (c_short_rs2 c) (c_short_rs1 c) wide.0 (c_word_offset c) (below-c_short_rs2 c) (below-c_short_rs1 c) wide.1 wide.2)
    also (λ c. let wide = c_double_offset-12 c in ld-given (c_short_rs2 c) (c_short_rs1 c) wide.0 (c_double_offset c) (below-c_short_rs2 c) (below-c_short_rs1 c) wide.1 wide.2)
    also (λ c. let wide = c_word_offset-12 c in sw-given (c_short_rs1 c) (c_short_rs2 c) wide.0 (c_word_offset c) (below-c_short_rs1 c) (below-c_short_rs2 c) wide.1 wide.2)
    also (λ c. let wide = c_double_offset-12 c in sd-given (c_short_rs1 c) (c_short_rs2 c) wide.0 (c_double_offset c) (below-c_short_rs1 c) (below-c_short_rs2 c) wide.1 wide.2)
    also (λ c. let wide = c_immediate-12 c in addi-given (c_rd c) (c_rd c) wide.0 (c_immediate c) (below-c_rd c) (below-c_rd c) wide.1 wide.2)
    also (λ c. let wide = c_immediate-12 c in addiw-given (c_rd c) (c_rd c) wide.0 (c_immediate c) (below-c_rd c) (below-c_rd c) wide.1 wide.2)
    also (λ c. let wide = c_immediate-12 c in addi-given (c_rd c) zero_register wide.0 (c_immediate c) (below-c_rd c) (below-zero c) wide.1 wide.2)
    also (λ c. let wide = c_jump_offset-21 c in jal-given zero_register wide.0 (c_jump_offset c) (below-zero c) wide.1 wide.2 wide.3)
    also (λ c. let wide = c_branch_offset-13 c in beq-given (c_short_rs1 c) zero_register wide.0 (c_branch_offset c) (below-c_short_rs1 c) (below-zero c) wide.1 wide.2 wide.3)
    also (λ c. let wide = c_branch_offset-13 c in bne-given (c_short_rs1 c) zero_register wide.0 (c_branch_offset c) (below-c_short_rs1 c) (below-zero c) wide.1 wide.2 wide.3)
    also (λ c. let wide = c_addi16sp_immediate-12 c in addi-given stack_pointer stack_pointer wide.0 (c_addi16sp_immediate c) (below-sp c) (below-sp c) wide.1 wide.2)
    also (λ c. let wide = c_lui_immediate-20 c in lui-given (c_rd c) wide.0 (c_lui_immediate c) (below-c_rd c) wide.1 wide.2)
    also (λ c. let n = c_shift_amount-6 c in subst (λ (z : ℤ). IsGiven (Srli (c_short_rs1 c) (c_short_rs1 c) z)) n.2 (srli-given (c_short_rs1 c) (c_short_rs1 c) n.0 (below-c_short_rs1 c) (below-c_short_rs1 c) n.1))
    also (λ c. let n = c_shift_amount-6 c in subst (λ (z : ℤ). IsGiven (Srai (c_short_rs1 c) (c_short_rs1 c) z)) n.2 (srai-given (c_short_rs1 c) (c_short_rs1 c) n.0 (below-c_short_rs1 c) (below-c_short_rs1 c) n.1))
    also (λ c. let wide = c_immediate-12 c in andi-given (c_short_rs1 c) (c_short_rs1 c) wide.0 (c_immediate c) (below-c_short_rs1 c) (below-c_short_rs1 c) wide.1 wide.2)
    also (λ c. sub-given (c_short_rs1 c) (c_short_rs1 c) (c_short_rs2 c) (below-c_short_rs1 c) (below-c_short_rs1 c) (below-c_short_rs2 c))
    also (λ c. xor-given (c_short_rs1 c) (c_short_rs1 c) (c_short_rs2 c) (below-c_short_rs1 c) (below-c_short_rs1 c) (below-c_short_rs2 c))
    also (λ c. or-given (c_short_rs1 c) (c_short_rs1 c) (c_short_rs2 c) (below-c_short_rs1 c) (below-c_short_rs1 c) (below-c_short_rs2 c))
    also (λ c. and-given (c_short_rs1 c) (c_short_rs1 c) (c_short_rs2 c) (below-c_short_rs1 c) (below-c_short_rs1 c) (below-c_short_rs2 c))
    also (λ c. subw-given (c_short_rs1 c) (c_short_rs1 c) (c_short_rs2 c) (below-c_short_rs1 c) (below-c_short_rs1 c) (below-c_short_rs2 c))
    also (λ c. addw-given (c_short_rs1 c) (c_short_rs1 c) (c_short_rs2 c) (below-c_short_rs1 c) (below-c_short_rs1 c) (below-c_short_rs2 c))
    also (λ c. let n = c_shift_amount-6 c in subst (λ (z : ℤ). IsGiven (Slli (c_rd c) (c_rd c) z)) n.2 (slli-given (c_rd c) (c_rd c) n.0 (below-c_rd c) (below-c_rd c) n.1))
    also (λ c. let wide = c_lwsp_offset-12 c in lw-given (c_rd c) stack_pointer wide.0 (c_lwsp_offset c) (below-c_rd c) (below-sp c) wide.1 wide.2)
    also (λ c. let wide = c_ldsp_offset-12 c in ld-given (c_rd c) stack_pointer wide.0 (c_ldsp_offset c) (below-c_rd c) (below-sp c) wide.1 wide.2)
    also (λ c. let wide = c_swsp_offset-12 c in sw-given stack_pointer (c_rs2 c) wide.0 (c_swsp_offset c) (below-sp c) (below-c_rs2 c) wide.1 wide.2)
    also (λ c. let wide = c_sdsp_offset-12 c in sd-given stack_pointer (c_rs2 c) wide.0 (c_sdsp_offset c) (below-sp c) (below-c_rs2 c) wide.1 wide.2)
    also (λ c. jalr-given zero_register (c_rd c) 0 (pos 0) (below-zero c) (below-c_rd c) (lit< tt) (unsigned_12 0 (lit< tt)))
    also (λ c. add-given (c_rd c) zero_register (c_rs2 c) (below-c_rd c) (below-zero c) (below-c_rs2 c))
    also (λ c. ebreak-given)
    also (λ c. jalr-given return_address (c_rd c) 0 (pos 0) (below-ra c) (below-c_rd c) (lit< tt) (unsigned_12 0 (lit< tt)))
    also (λ c. add-given (c_rd c) (c_rd c) (c_rs2 c) (below-c_rd c) (below-c_rd c) (below-c_rs2 c))
    also tt

one_given : (b : Bool) (i : Ins) (rest : Option Ins) → IsGiven i → IfSome rest IsGiven → IfSome (cond b (Some i) rest) IsGiven
one_given true i rest here later = here
one_given false i rest here later = later

each_given : (rows : List Row) → EachGiven rows → (c : ℕ) → IfSome (encoded_in rows c) IsGiven
unfolding encoded_in
each_given [] each c = tt
each_given (row ∷ rows) each c =
    one_given (matches c row) (row.instruction c) (encoded_in rows c) (each.0 c) (each_given rows each.1 c)

has_full_form : (i : Ins) → IsGiven i → HasFullForm i
unfolding decode
has_full_form i g =
    let long : (g.0 % 4 == 3) ≡ true = eq-eqb _ _ g.2 in
    (g.0, g.1, rw long (ap (option_map (with_length 4)) g.3))

pub compressed-full : (half : ℕ) (i : Ins) → Some i ≡ encoded_in compressed_forms half → HasFullForm i
compressed-full half i e =
    has_full_form i (subst (λ (o : Option Ins). IfSome o IsGiven) (sym e) (each_given compressed_forms compressed_forms_given half))

pub full-full : (word : ℕ) (i : Ins) → word < 2 ^ 32 → word % 4 ≡ 3 → Some i ≡ encoded_in full_forms word → HasFullForm i
full-full word i within low e = has_full_form i (word, within, low, sym e)
