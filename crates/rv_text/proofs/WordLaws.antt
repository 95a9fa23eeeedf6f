-- The word that has an instruction's fixed bits and the bits of its operands encodes it: a line for each instruction,
-- whose row of the table such a word matches.
use Rattle.std.proofs.Common.{◌≡◌, ℕ, ◌+◌, ◌%◌, ℤ, refl, sym, ◌∙◌, subst, lit<}
use Rattle.machine_defs.specs.declared.ins.Ins.{Ins}
use Rattle.machine_defs.specs.declared.ins.Ins.TheVariants.{Lui, Auipc, Jal, Jalr, Beq, Bne, Blt, Bge, Bltu, Bgeu, Lb, Lh, Lw, Ld, Lbu, Lhu, Lwu, Sb, Sh, Sw, Sd, Addi, Slti, Sltiu, Xori, Ori, Andi, Slli, Srli, Srai, Addiw, Slliw, Srliw, Sraiw, Add, Sub, Sll, Slt, Sltu, Xor, Srl, Sra, Or, And, Mul, Mulh, Mulhsu, Mulhu, Div, Divu, Rem, Remu, Addw, Subw, Sllw, Srlw, Sraw, Mulw, Divw, Divuw, Remw, Remuw, Fence, FenceI, Ecall, Ebreak}
use Rattle.machine_defs.specs.Instruction.{bits, FitsFormat}
use Rattle.machine_defs.specs.Table.{rd, rs1, rs2, r_row, i_row, s_row, b_row, u_row, j_row, shift_row, word_shift_row, fence_row, system_row, full_forms}
use Rattle.machine_defs.proofs.RowLaws.{narrowed, hit}
use Rattle.machine_defs.specs.declared.operands.Operands.TheVariants.{Registers, Immediate, Shift, WordShift, Address, Store, Branch, Jump, Upper, Bare}
use Rattle.rv_text.specs.Words.{HasBits, FitsOperands}
use Rattle.machine_defs.specs.Text.{form_of, IsWord, IsZeroWhereUnread}
use Rattle.rv_text.proofs.Formats.{IsFullForm, r_is, i_is, s_is, b_is, u_is, j_is, shift_is, word_shift_is, bare_is}

lui-is : (d : ℕ) (z : ℤ) (bits w : ℕ) → HasBits (Upper d z) bits → w ≡ (0x00000037 + bits) % 4294967296 → IsFullForm (Lui d z) w
unfolding full_forms
lui-is =
    u_is 0x00000037 Lui (lit< tt) refl
    (λ w h. narrowed full_forms w (record { mask = 0x0000007f; value = 0x00000037 }) h ∙ hit w (u_row 55 Lui) refl h)

auipc-is : (d : ℕ) (z : ℤ) (bits w : ℕ) → HasBits (Upper d z) bits → w ≡ (0x00000017 + bits) % 4294967296 → IsFullForm (Auipc d z) w
unfolding full_forms
auipc-is =
    u_is 0x00000017 Auipc (lit< tt) refl
    (λ w h. narrowed full_forms w (record { mask = 0x0000007f; value = 0x00000017 }) h ∙ hit w (u_row 23 Auipc) refl h)

jal-is : (d : ℕ) (z : ℤ) (bits w : ℕ) → HasBits (Jump d z) bits → w ≡ (0x0000006f + bits) % 4294967296 → IsFullForm (Jal d z) w
unfolding full_forms
jal-is =
    j_is 0x0000006f Jal (lit< tt) refl
    (λ w h. narrowed full_forms w (record { mask = 0x0000007f; value = 0x0000006f }) h ∙ hit w (j_row 111 Jal) refl h)

jalr-is : (d a : ℕ) (z : ℤ) (bits w : ℕ) → HasBits (Address d a z) bits → w ≡ (0x00000067 + bits) % 4294967296 → IsFullForm (Jalr d a z) w
unfolding full_forms
jalr-is =
    i_is 0x00000067 103 0 Jalr refl (lit< tt) (lit< tt) refl
    (λ w h. narrowed full_forms w (record { mask = 0x0000707f; value = 0x00000067 }) h ∙ hit w (i_row 0 103 Jalr) refl h)

beq-is : (a b : ℕ) (z : ℤ) (bits w : ℕ) → HasBits (Branch a b z) bits → w ≡ (0x00000063 + bits) % 4294967296 → IsFullForm (Beq a b z) w
unfolding full_forms
beq-is =
    b_is 0x00000063 99 0 Beq refl (lit< tt) (lit< tt) refl
    (λ w h. narrowed full_forms w (record { mask = 0x0000707f; value = 0x00000063 }) h ∙ hit w (b_row 0 99 Beq) refl h)

bne-is : (a b : ℕ) (z : ℤ) (bits w : ℕ) → HasBits (Branch a b z) bits → w ≡ (0x00001063 + bits) % 4294967296 → IsFullForm (Bne a b z) w
unfolding full_forms
bne-is =
    b_is 0x00001063 99 1 Bne refl (lit< tt) (lit< tt) refl
    (λ w h. narrowed full_forms w (record { mask = 0x0000707f; value = 0x00001063 }) h ∙ hit w (b_row 1 99 Bne) refl h)

blt-is : (a b : ℕ) (z : ℤ) (bits w : ℕ) → HasBits (Branch a b z) bits → w ≡ (0x00004063 + bits) % 4294967296 → IsFullForm (Blt a b z) w
unfolding full_forms
blt-is =
    b_is 0x00004063 99 4 Blt refl (lit< tt) (lit< tt) refl
    (λ w h. narrowed full_forms w (record { mask = 0x0000707f; value = 0x00004063 }) h ∙ hit w (b_row 4 99 Blt) refl h)

bge-is : (a b : ℕ) (z : ℤ) (bits w : ℕ) → HasBits (Branch a b z) bits → w ≡ (0x00005063 + bits) % 4294967296 → IsFullForm (Bge a b z) w
unfolding full_forms
bge-is =
    b_is 0x00005063 99 5 Bge refl (lit< tt) (lit< tt) refl
    (λ w h. narrowed full_forms w (record { mask = 0x0000707f; value = 0x00005063 }) h ∙ hit w (b_row 5 99 Bge) refl h)

bltu-is : (a b : ℕ) (z : ℤ) (bits w : ℕ) → HasBits (Branch a b z) bits → w ≡ (0x00006063 + bits) % 4294967296 → IsFullForm (Bltu a b z) w
unfolding full_forms
bltu-is =
    b_is 0x00006063 99 6 Bltu refl (lit< tt) (lit< tt) refl
    (λ w h. narrowed full_forms w (record { mask = 0x0000707f; value = 0x00006063 }) h ∙ hit w (b_row 6 99 Bltu) refl h)

bgeu-is : (a b : ℕ) (z : ℤ) (bits w : ℕ) → HasBits (Branch a b z) bits → w ≡ (0x00007063 + bits) % 4294967296 → IsFullForm (Bgeu a b z) w
unfolding full_forms
bgeu-is =
    b_is 0x00007063 99 7 Bgeu refl (lit< tt) (lit< tt) refl
    (λ w h. narrowed full_forms w (record { mask = 0x0000707f; value = 0x00007063 }) h ∙ hit w (b_row 7 99 Bgeu) refl h)

lb-is : (d a : ℕ) (z : ℤ) (bits w : ℕ) → HasBits (Address d a z) bits → w ≡ (0x00000003 + bits) % 4294967296 → IsFullForm (Lb d a z) w
unfolding full_forms
lb-is =
    i_is 0x00000003 3 0 Lb refl (lit< tt) (lit< tt) refl
    (λ w h. narrowed full_forms w (record { mask = 0x0000707f; value = 0x00000003 }) h ∙ hit w (i_row 0 3 Lb) refl h)

lh-is : (d a : ℕ) (z : ℤ) (bits w : ℕ) → HasBits (Address d a z) bits → w ≡ (0x00001003 + bits) % 4294967296 → IsFullForm (Lh d a z) w
unfolding full_forms
lh-is =
    i_is 0x00001003 3 1 Lh refl (lit< tt) (lit< tt) refl
    (λ w h. narrowed full_forms w (record { mask = 0x0000707f; value = 0x00001003 }) h ∙ hit w (i_row 1 3 Lh) refl h)

lw-is : (d a : ℕ) (z : ℤ) (bits w : ℕ) → HasBits (Address d a z) bits → w ≡ (0x00002003 + bits) % 4294967296 → IsFullForm (Lw d a z) w
unfolding full_forms
lw-is =
    i_is 0x00002003 3 2 Lw refl (lit< tt) (lit< tt) refl
    (λ w h. narrowed full_forms w (record { mask = 0x0000707f; value = 0x00002003 }) h ∙ hit w (i_row 2 3 Lw) refl h)

ld-is : (d a : ℕ) (z : ℤ) (bits w : ℕ) → HasBits (Address d a z) bits → w ≡ (0x00003003 + bits) % 4294967296 → IsFullForm (Ld d a z) w
unfolding full_forms
ld-is =
    i_is 0x00003003 3 3 Ld refl (lit< tt) (lit< tt) refl
    (λ w h. narrowed full_forms w (record { mask = 0x0000707f; value = 0x00003003 }) h ∙ hit w (i_row 3 3 Ld) refl h)

lbu-is : (d a : ℕ) (z : ℤ) (bits w : ℕ) → HasBits (Address d a z) bits → w ≡ (0x00004003 + bits) % 4294967296 → IsFullForm (Lbu d a z) w
unfolding full_forms
lbu-is =
    i_is 0x00004003 3 4 Lbu refl (lit< tt) (lit< tt) refl
    (λ w h. narrowed full_forms w (record { mask = 0x0000707f; value = 0x00004003 }) h ∙ hit w (i_row 4 3 Lbu) refl h)

lhu-is : (d a : ℕ) (z : ℤ) (bits w : ℕ) → HasBits (Address d a z) bits → w ≡ (0x00005003 + bits) % 4294967296 → IsFullForm (Lhu d a z) w
unfolding full_forms
lhu-is =
    i_is 0x00005003 3 5 Lhu refl (lit< tt) (lit< tt) refl
    (λ w h. narrowed full_forms w (record { mask = 0x0000707f; value = 0x00005003 }) h ∙ hit w (i_row 5 3 Lhu) refl h)

lwu-is : (d a : ℕ) (z : ℤ) (bits w : ℕ) → HasBits (Address d a z) bits → w ≡ (0x00006003 + bits) % 4294967296 → IsFullForm (Lwu d a z) w
unfolding full_forms
lwu-is =
    i_is 0x00006003 3 6 Lwu refl (lit< tt) (lit< tt) refl
    (λ w h. narrowed full_forms w (record { mask = 0x0000707f; value = 0x00006003 }) h ∙ hit w (i_row 6 3 Lwu) refl h)

sb-is : (a b : ℕ) (z : ℤ) (bits w : ℕ) → HasBits (Store a b z) bits → w ≡ (0x00000023 + bits) % 4294967296 → IsFullForm (Sb a b z) w
unfolding full_forms
sb-is =
    s_is 0x00000023 35 0 Sb refl (lit< tt) (lit< tt) refl
    (λ w h. narrowed full_forms w (record { mask = 0x0000707f; value = 0x00000023 }) h ∙ hit w (s_row 0 35 Sb) refl h)

sh-is : (a b : ℕ) (z : ℤ) (bits w : ℕ) → HasBits (Store a b z) bits → w ≡ (0x00001023 + bits) % 4294967296 → IsFullForm (Sh a b z) w
unfolding full_forms
sh-is =
    s_is 0x00001023 35 1 Sh refl (lit< tt) (lit< tt) refl
    (λ w h. narrowed full_forms w (record { mask = 0x0000707f; value = 0x00001023 }) h ∙ hit w (s_row 1 35 Sh) refl h)

sw-is : (a b : ℕ) (z : ℤ) (bits w : ℕ) → HasBits (Store a b z) bits → w ≡ (0x00002023 + bits) % 4294967296 → IsFullForm (Sw a b z) w
unfolding full_forms
sw-is =
    s_is 0x00002023 35 2 Sw refl (lit< tt) (lit< tt) refl
    (λ w h. narrowed full_forms w (record { mask = 0x0000707f; value = 0x00002023 }) h ∙ hit w (s_row 2 35 Sw) refl h)

sd-is : (a b : ℕ) (z : ℤ) (bits w : ℕ) → HasBits (Store a b z) bits → w ≡ (0x00003023 + bits) % 4294967296 → IsFullForm (Sd a b z) w
unfolding full_forms
sd-is =
    s_is 0x00003023 35 3 Sd refl (lit< tt) (lit< tt) refl
    (λ w h. narrowed full_forms w (record { mask = 0x0000707f; value = 0x00003023 }) h ∙ hit w (s_row 3 35 Sd) refl h)

addi-is : (d a : ℕ) (z : ℤ) (bits w : ℕ) → HasBits (Immediate d a z) bits → w ≡ (0x00000013 + bits) % 4294967296 → IsFullForm (Addi d a z) w
unfolding full_forms
addi-is =
    i_is 0x00000013 19 0 Addi refl (lit< tt) (lit< tt) refl
    (λ w h. narrowed full_forms w (record { mask = 0x0000707f; value = 0x00000013 }) h ∙ hit w (i_row 0 19 Addi) refl h)

slti-is : (d a : ℕ) (z : ℤ) (bits w : ℕ) → HasBits (Immediate d a z) bits → w ≡ (0x00002013 + bits) % 4294967296 → IsFullForm (Slti d a z) w
unfolding full_forms
slti-is =
    i_is 0x00002013 19 2 Slti refl (lit< tt) (lit< tt) refl
    (λ w h. narrowed full_forms w (record { mask = 0x0000707f; value = 0x00002013 }) h ∙ hit w (i_row 2 19 Slti) refl h)

sltiu-is : (d a : ℕ) (z : ℤ) (bits w : ℕ) → HasBits (Immediate d a z) bits → w ≡ (0x00003013 + bits) % 4294967296 → IsFullForm (Sltiu d a z) w
unfolding full_forms
sltiu-is =
    i_is 0x00003013 19 3 Sltiu refl (lit< tt) (lit< tt) refl
    (λ w h. narrowed full_forms w (record { mask = 0x0000707f; value = 0x00003013 }) h ∙ hit w (i_row 3 19 Sltiu) refl h)

xori-is : (d a : ℕ) (z : ℤ) (bits w : ℕ) → HasBits (Immediate d a z) bits → w ≡ (0x00004013 + bits) % 4294967296 → IsFullForm (Xori d a z) w
unfolding full_forms
xori-is =
    i_is 0x00004013 19 4 Xori refl (lit< tt) (lit< tt) refl
    (λ w h. narrowed full_forms w (record { mask = 0x0000707f; value = 0x00004013 }) h ∙ hit w (i_row 4 19 Xori) refl h)

ori-is : (d a : ℕ) (z : ℤ) (bits w : ℕ) → HasBits (Immediate d a z) bits → w ≡ (0x00006013 + bits) % 4294967296 → IsFullForm (Ori d a z) w
unfolding full_forms
ori-is =
    i_is 0x00006013 19 6 Ori refl (lit< tt) (lit< tt) refl
    (λ w h. narrowed full_forms w (record { mask = 0x0000707f; value = 0x00006013 }) h ∙ hit w (i_row 6 19 Ori) refl h)

andi-is : (d a : ℕ) (z : ℤ) (bits w : ℕ) → HasBits (Immediate d a z) bits → w ≡ (0x00007013 + bits) % 4294967296 → IsFullForm (Andi d a z) w
unfolding full_forms
andi-is =
    i_is 0x00007013 19 7 Andi refl (lit< tt) (lit< tt) refl
    (λ w h. narrowed full_forms w (record { mask = 0x0000707f; value = 0x00007013 }) h ∙ hit w (i_row 7 19 Andi) refl h)

slli-is : (d a : ℕ) (z : ℤ) (bits w : ℕ) → HasBits (Shift d a z) bits → w ≡ (0x00001013 + bits) % 4294967296 → IsFullForm (Slli d a z) w
unfolding full_forms
slli-is =
    shift_is 0x00001013 0 1 Slli refl (lit< tt) (lit< tt)
    (λ w h. narrowed full_forms w (record { mask = 0xfc00707f; value = 0x00001013 }) h ∙ hit w (shift_row 0 1 0x13 Slli) refl h)

srli-is : (d a : ℕ) (z : ℤ) (bits w : ℕ) → HasBits (Shift d a z) bits → w ≡ (0x00005013 + bits) % 4294967296 → IsFullForm (Srli d a z) w
unfolding full_forms
srli-is =
    shift_is 0x00005013 0 5 Srli refl (lit< tt) (lit< tt)
    (λ w h. narrowed full_forms w (record { mask = 0xfc00707f; value = 0x00005013 }) h ∙ hit w (shift_row 0 5 0x13 Srli) refl h)

srai-is : (d a : ℕ) (z : ℤ) (bits w : ℕ) → HasBits (Shift d a z) bits → w ≡ (0x40005013 + bits) % 4294967296 → IsFullForm (Srai d a z) w
unfolding full_forms
srai-is =
    shift_is 0x40005013 16 5 Srai refl (lit< tt) (lit< tt)
    (λ w h. narrowed full_forms w (record { mask = 0xfc00707f; value = 0x40005013 }) h ∙ hit w (shift_row 16 5 0x13 Srai) refl h)

addiw-is : (d a : ℕ) (z : ℤ) (bits w : ℕ) → HasBits (Immediate d a z) bits → w ≡ (0x0000001b + bits) % 4294967296 → IsFullForm (Addiw d a z) w
unfolding full_forms
addiw-is =
    i_is 0x0000001b 27 0 Addiw refl (lit< tt) (lit< tt) refl
    (λ w h. narrowed full_forms w (record { mask = 0x0000707f; value = 0x0000001b }) h ∙ hit w (i_row 0 27 Addiw) refl h)

slliw-is : (d a : ℕ) (z : ℤ) (bits w : ℕ) → HasBits (WordShift d a z) bits → w ≡ (0x0000101b + bits) % 4294967296 → IsFullForm (Slliw d a z) w
unfolding full_forms
slliw-is =
    word_shift_is 0x0000101b 0 1 Slliw refl (lit< tt) (lit< tt)
    (λ w h. narrowed full_forms w (record { mask = 0xfe00707f; value = 0x0000101b }) h ∙ hit w (word_shift_row 0 1 0x1b Slliw) refl h)

srliw-is : (d a : ℕ) (z : ℤ) (bits w : ℕ) → HasBits (WordShift d a z) bits → w ≡ (0x0000501b + bits) % 4294967296 → IsFullForm (Srliw d a z) w
unfolding full_forms
srliw-is =
    word_shift_is 0x0000501b 0 5 Srliw refl (lit< tt) (lit< tt)
    (λ w h. narrowed full_forms w (record { mask = 0xfe00707f; value = 0x0000501b }) h ∙ hit w (word_shift_row 0 5 0x1b Srliw) refl h)

sraiw-is : (d a : ℕ) (z : ℤ) (bits w : ℕ) → HasBits (WordShift d a z) bits → w ≡ (0x4000501b + bits) % 4294967296 → IsFullForm (Sraiw d a z) w
unfolding full_forms
sraiw-is =
    word_shift_is 0x4000501b 32 5 Sraiw refl (lit< tt) (lit< tt)
    (λ w h. narrowed full_forms w (record { mask = 0xfe00707f; value = 0x4000501b }) h ∙ hit w (word_shift_row 32 5 0x1b Sraiw) refl h)

add-is : (d a b bits w : ℕ) → HasBits (Registers d a b) bits → w ≡ (0x00000033 + bits) % 4294967296 → IsFullForm (Add d a b) w
unfolding full_forms
add-is =
    r_is 0x00000033 51 0 0 Add refl (lit< tt) (lit< tt) (lit< tt) refl
    (λ w h. narrowed full_forms w (record { mask = 0xfe00707f; value = 0x00000033 }) h ∙ hit w (r_row 0 0 51 Add) refl h)

sub-is : (d a b bits w : ℕ) → HasBits (Registers d a b) bits → w ≡ (0x40000033 + bits) % 4294967296 → IsFullForm (Sub d a b) w
unfolding full_forms
sub-is =
    r_is 0x40000033 51 0 32 Sub refl (lit< tt) (lit< tt) (lit< tt) refl
    (λ w h. narrowed full_forms w (record { mask = 0xfe00707f; value = 0x40000033 }) h ∙ hit w (r_row 32 0 51 Sub) refl h)

sll-is : (d a b bits w : ℕ) → HasBits (Registers d a b) bits → w ≡ (0x00001033 + bits) % 4294967296 → IsFullForm (Sll d a b) w
unfolding full_forms
sll-is =
    r_is 0x00001033 51 1 0 Sll refl (lit< tt) (lit< tt) (lit< tt) refl
    (λ w h. narrowed full_forms w (record { mask = 0xfe00707f; value = 0x00001033 }) h ∙ hit w (r_row 0 1 51 Sll) refl h)

slt-is : (d a b bits w : ℕ) → HasBits (Registers d a b) bits → w ≡ (0x00002033 + bits) % 4294967296 → IsFullForm (Slt d a b) w
unfolding full_forms
slt-is =
    r_is 0x00002033 51 2 0 Slt refl (lit< tt) (lit< tt) (lit< tt) refl
    (λ w h. narrowed full_forms w (record { mask = 0xfe00707f; value = 0x00002033 }) h ∙ hit w (r_row 0 2 51 Slt) refl h)

sltu-is : (d a b bits w : ℕ) → HasBits (Registers d a b) bits → w ≡ (0x00003033 + bits) % 4294967296 → IsFullForm (Sltu d a b) w
unfolding full_forms
sltu-is =
    r_is 0x00003033 51 3 0 Sltu refl (lit< tt) (lit< tt) (lit< tt) refl
    (λ w h. narrowed full_forms w (record { mask = 0xfe00707f; value = 0x00003033 }) h ∙ hit w (r_row 0 3 51 Sltu) refl h)

xor-is : (d a b bits w : ℕ) → HasBits (Registers d a b) bits → w ≡ (0x00004033 + bits) % 4294967296 → IsFullForm (Xor d a b) w
unfolding full_forms
xor-is =
    r_is 0x00004033 51 4 0 Xor refl (lit< tt) (lit< tt) (lit< tt) refl
    (λ w h. narrowed full_forms w (record { mask = 0xfe00707f; value = 0x00004033 }) h ∙ hit w (r_row 0 4 51 Xor) refl h)

srl-is : (d a b bits w : ℕ) → HasBits (Registers d a b) bits → w ≡ (0x00005033 + bits) % 4294967296 → IsFullForm (Srl d a b) w
unfolding full_forms
srl-is =
    r_is 0x00005033 51 5 0 Srl refl (lit< tt) (lit< tt) (lit< tt) refl
    (λ w h. narrowed full_forms w (record { mask = 0xfe00707f; value = 0x00005033 }) h ∙ hit w (r_row 0 5 51 Srl) refl h)

sra-is : (d a b bits w : ℕ) → HasBits (Registers d a b) bits → w ≡ (0x40005033 + bits) % 4294967296 → IsFullForm (Sra d a b) w
unfolding full_forms
sra-is =
    r_is 0x40005033 51 5 32 Sra refl (lit< tt) (lit< tt) (lit< tt) refl
    (λ w h. narrowed full_forms w (record { mask = 0xfe00707f; value = 0x40005033 }) h ∙ hit w (r_row 32 5 51 Sra) refl h)

or-is : (d a b bits w : ℕ) → HasBits (Registers d a b) bits → w ≡ (0x00006033 + bits) % 4294967296 → IsFullForm (Or d a b) w
unfolding full_forms
or-is =
    r_is 0x00006033 51 6 0 Or refl (lit< tt) (lit< tt) (lit< tt) refl
    (λ w h. narrowed full_forms w (record { mask = 0xfe00707f; value = 0x00006033 }) h ∙ hit w (r_row 0 6 51 Or) refl h)

and-is : (d a b bits w : ℕ) → HasBits (Registers d a b) bits → w ≡ (0x00007033 + bits) % 4294967296 → IsFullForm (And d a b) w
unfolding full_forms
and-is =
    r_is 0x00007033 51 7 0 And refl (lit< tt) (lit< tt) (lit< tt) refl
    (λ w h. narrowed full_forms w (record { mask = 0xfe00707f; value = 0x00007033 }) h ∙ hit w (r_row 0 7 51 And) refl h)

mul-is : (d a b bits w : ℕ) → HasBits (Registers d a b) bits → w ≡ (0x02000033 + bits) % 4294967296 → IsFullForm (Mul d a b) w
unfolding full_forms
mul-is =
    r_is 0x02000033 51 0 1 Mul refl (lit< tt) (lit< tt) (lit< tt) refl
    (λ w h. narrowed full_forms w (record { mask = 0xfe00707f; value = 0x02000033 }) h ∙ hit w (r_row 1 0 51 Mul) refl h)

mulh-is : (d a b bits w : ℕ) → HasBits (Registers d a b) bits → w ≡ (0x02001033 + bits) % 4294967296 → IsFullForm (Mulh d a b) w
unfolding full_forms
mulh-is =
    r_is 0x02001033 51 1 1 Mulh refl (lit< tt) (lit< tt) (lit< tt) refl
    (λ w h. narrowed full_forms w (record { mask = 0xfe00707f; value = 0x02001033 }) h ∙ hit w (r_row 1 1 51 Mulh) refl h)

mulhsu-is : (d a b bits w : ℕ) → HasBits (Registers d a b) bits → w ≡ (0x02002033 + bits) % 4294967296 → IsFullForm (Mulhsu d a b) w
unfolding full_forms
mulhsu-is =
    r_is 0x02002033 51 2 1 Mulhsu refl (lit< tt) (lit< tt) (lit< tt) refl
    (λ w h. narrowed full_forms w (record { mask = 0xfe00707f; value = 0x02002033 }) h ∙ hit w (r_row 1 2 51 Mulhsu) refl h)

mulhu-is : (d a b bits w : ℕ) → HasBits (Registers d a b) bits → w ≡ (0x02003033 + bits) % 4294967296 → IsFullForm (Mulhu d a b) w
unfolding full_forms
mulhu-is =
    r_is 0x02003033 51 3 1 Mulhu refl (lit< tt) (lit< tt) (lit< tt) refl
    (λ w h. narrowed full_forms w (record { mask = 0xfe00707f; value = 0x02003033 }) h ∙ hit w (r_row 1 3 51 Mulhu) refl h)

div-is : (d a b bits w : ℕ) → HasBits (Registers d a b) bits → w ≡ (0x02004033 + bits) % 4294967296 → IsFullForm (Div d a b) w
unfolding full_forms
div-is =
    r_is 0x02004033 51 4 1 Div refl (lit< tt) (lit< tt) (lit< tt) refl
    (λ w h. narrowed full_forms w (record { mask = 0xfe00707f; value = 0x02004033 }) h ∙ hit w (r_row 1 4 51 Div) refl h)

divu-is : (d a b bits w : ℕ) → HasBits (Registers d a b) bits → w ≡ (0x02005033 + bits) % 4294967296 → IsFullForm (Divu d a b) w
unfolding full_forms
divu-is =
    r_is 0x02005033 51 5 1 Divu refl (lit< tt) (lit< tt) (lit< tt) refl
    (λ w h. narrowed full_forms w (record { mask = 0xfe00707f; value = 0x02005033 }) h ∙ hit w (r_row 1 5 51 Divu) refl h)

rem-is : (d a b bits w : ℕ) → HasBits (Registers d a b) bits → w ≡ (0x02006033 + bits) % 4294967296 → IsFullForm (Rem d a b) w
unfolding full_forms
rem-is =
    r_is 0x02006033 51 6 1 Rem refl (lit< tt) (lit< tt) (lit< tt) refl
    (λ w h. narrowed full_forms w (record { mask = 0xfe00707f; value = 0x02006033 }) h ∙ hit w (r_row 1 6 51 Rem) refl h)

remu-is : (d a b bits w : ℕ) → HasBits (Registers d a b) bits → w ≡ (0x02007033 + bits) % 4294967296 → IsFullForm (Remu d a b) w
unfolding full_forms
remu-is =
    r_is 0x02007033 51 7 1 Remu refl (lit< tt) (lit< tt) (lit< tt) refl
    (λ w h. narrowed full_forms w (record { mask = 0xfe00707f; value = 0x02007033 }) h ∙ hit w (r_row 1 7 51 Remu) refl h)

addw-is : (d a b bits w : ℕ) → HasBits (Registers d a b) bits → w ≡ (0x0000003b + bits) % 4294967296 → IsFullForm (Addw d a b) w
unfolding full_forms
addw-is =
    r_is 0x0000003b 59 0 0 Addw refl (lit< tt) (lit< tt) (lit< tt) refl
    (λ w h. narrowed full_forms w (record { mask = 0xfe00707f; value = 0x0000003b }) h ∙ hit w (r_row 0 0 59 Addw) refl h)

subw-is : (d a b bits w : ℕ) → HasBits (Registers d a b) bits → w ≡ (0x4000003b + bits) % 4294967296 → IsFullForm (Subw d a b) w
unfolding full_forms
subw-is =
    r_is 0x4000003b 59 0 32 Subw refl (lit< tt) (lit< tt) (lit< tt) refl
    (λ w h. narrowed full_forms w (record { mask = 0xfe00707f; value = 0x4000003b }) h ∙ hit w (r_row 32 0 59 Subw) refl h)

sllw-is : (d a b bits w : ℕ) → HasBits (Registers d a b) bits → w ≡ (0x0000103b + bits) % 4294967296 → IsFullForm (Sllw d a b) w
unfolding full_forms
sllw-is =
    r_is 0x0000103b 59 1 0 Sllw refl (lit< tt) (lit< tt) (lit< tt) refl
    (λ w h. narrowed full_forms w (record { mask = 0xfe00707f; value = 0x0000103b }) h ∙ hit w (r_row 0 1 59 Sllw) refl h)

srlw-is : (d a b bits w : ℕ) → HasBits (Registers d a b) bits → w ≡ (0x0000503b + bits) % 4294967296 → IsFullForm (Srlw d a b) w
unfolding full_forms
srlw-is =
    r_is 0x0000503b 59 5 0 Srlw refl (lit< tt) (lit< tt) (lit< tt) refl
    (λ w h. narrowed full_forms w (record { mask = 0xfe00707f; value = 0x0000503b }) h ∙ hit w (r_row 0 5 59 Srlw) refl h)

sraw-is : (d a b bits w : ℕ) → HasBits (Registers d a b) bits → w ≡ (0x4000503b + bits) % 4294967296 → IsFullForm (Sraw d a b) w
unfolding full_forms
sraw-is =
    r_is 0x4000503b 59 5 32 Sraw refl (lit< tt) (lit< tt) (lit< tt) refl
    (λ w h. narrowed full_forms w (record { mask = 0xfe00707f; value = 0x4000503b }) h ∙ hit w (r_row 32 5 59 Sraw) refl h)

mulw-is : (d a b bits w : ℕ) → HasBits (Registers d a b) bits → w ≡ (0x0200003b + bits) % 4294967296 → IsFullForm (Mulw d a b) w
unfolding full_forms
mulw-is =
    r_is 0x0200003b 59 0 1 Mulw refl (lit< tt) (lit< tt) (lit< tt) refl
    (λ w h. narrowed full_forms w (record { mask = 0xfe00707f; value = 0x0200003b }) h ∙ hit w (r_row 1 0 59 Mulw) refl h)

divw-is : (d a b bits w : ℕ) → HasBits (Registers d a b) bits → w ≡ (0x0200403b + bits) % 4294967296 → IsFullForm (Divw d a b) w
unfolding full_forms
divw-is =
    r_is 0x0200403b 59 4 1 Divw refl (lit< tt) (lit< tt) (lit< tt) refl
    (λ w h. narrowed full_forms w (record { mask = 0xfe00707f; value = 0x0200403b }) h ∙ hit w (r_row 1 4 59 Divw) refl h)

divuw-is : (d a b bits w : ℕ) → HasBits (Registers d a b) bits → w ≡ (0x0200503b + bits) % 4294967296 → IsFullForm (Divuw d a b) w
unfolding full_forms
divuw-is =
    r_is 0x0200503b 59 5 1 Divuw refl (lit< tt) (lit< tt) (lit< tt) refl
    (λ w h. narrowed full_forms w (record { mask = 0xfe00707f; value = 0x0200503b }) h ∙ hit w (r_row 1 5 59 Divuw) refl h)

remw-is : (d a b bits w : ℕ) → HasBits (Registers d a b) bits → w ≡ (0x0200603b + bits) % 4294967296 → IsFullForm (Remw d a b) w
unfolding full_forms
remw-is =
    r_is 0x0200603b 59 6 1 Remw refl (lit< tt) (lit< tt) (lit< tt) refl
    (λ w h. narrowed full_forms w (record { mask = 0xfe00707f; value = 0x0200603b }) h ∙ hit w (r_row 1 6 59 Remw) refl h)

remuw-is : (d a b bits w : ℕ) → HasBits (Registers d a b) bits → w ≡ (0x0200703b + bits) % 4294967296 → IsFullForm (Remuw d a b) w
unfolding full_forms
remuw-is =
    r_is 0x0200703b 59 7 1 Remuw refl (lit< tt) (lit< tt) (lit< tt) refl
    (λ w h. narrowed full_forms w (record { mask = 0xfe00707f; value = 0x0200703b }) h ∙ hit w (r_row 1 7 59 Remuw) refl h)

fence-is : (bits w : ℕ) → HasBits Bare bits → w ≡ (0x0000000f + bits) % 4294967296 → (w ≡ 0x0000000f) × IsFullForm Fence 0x0000000f
unfolding full_forms
fence-is =
    bare_is 0x0000000f Fence (lit< tt) refl
    (narrowed full_forms 0x0000000f (record { mask = 0x0000707f; value = 0x0000000f }) refl ∙ hit 0x0000000f (fence_row 0 0x0f Fence) refl refl)

fence_i-is : (bits w : ℕ) → HasBits Bare bits → w ≡ (0x0000100f + bits) % 4294967296 → (w ≡ 0x0000100f) × IsFullForm FenceI 0x0000100f
unfolding full_forms
fence_i-is =
    bare_is 0x0000100f FenceI (lit< tt) refl
    (narrowed full_forms 0x0000100f (record { mask = 0x0000707f; value = 0x0000100f }) refl ∙ hit 0x0000100f (fence_row 1 0x0f FenceI) refl refl)

ecall-is : (bits w : ℕ) → HasBits Bare bits → w ≡ (0x00000073 + bits) % 4294967296 → (w ≡ 0x00000073) × IsFullForm Ecall 0x00000073
unfolding full_forms
ecall-is =
    bare_is 0x00000073 Ecall (lit< tt) refl
    (narrowed full_forms 0x00000073 (record { mask = 0xffffffff; value = 0x00000073 }) refl ∙ hit 0x00000073 (system_row 0 0x73 Ecall) refl refl)

ebreak-is : (bits w : ℕ) → HasBits Bare bits → w ≡ (0x00100073 + bits) % 4294967296 → (w ≡ 0x00100073) × IsFullForm Ebreak 0x00100073
unfolding full_forms
ebreak-is =
    bare_is 0x00100073 Ebreak (lit< tt) refl
    (narrowed full_forms 0x00100073 (record { mask = 0xffffffff; value = 0x00100073 }) refl ∙ hit 0x00100073 (system_row 1 0x73 Ebreak) refl refl)

bare-word : (i : Ins) (w fixed : ℕ) → (w ≡ fixed) × IsFullForm i fixed → IsZeroWhereUnread i fixed → IsWord i w
bare-word i w fixed h zero = let P : ℕ → Type 0 = IsWord i in subst P (sym h.0) (h.1.0, h.1.1, zero)

pub word-is : (i : Ins) (bits w : ℕ) → HasBits (form_of i).operands bits → w ≡ ((form_of i).word + bits) % 4294967296 → IsWord i w
word-is (Lui rd imm) bits w h s = let f = lui-is rd imm bits w h s in (f.0, f.1, tt)
word-is (Auipc rd imm) bits w h s = let f = auipc-is rd imm bits w h s in (f.0, f.1, tt)
word-is (Jal rd imm) bits w h s = let f = jal-is rd imm bits w h s in (f.0, f.1, tt)
word-is (Jalr rd rs1 imm) bits w h s = let f = jalr-is rd rs1 imm bits w h s in (f.0, f.1, tt)
word-is (Beq rs1 rs2 imm) bits w h s = let f = beq-is rs1 rs2 imm bits w h s in (f.0, f.1, tt)
word-is (Bne rs1 rs2 imm) bits w h s = let f = bne-is rs1 rs2 imm bits w h s in (f.0, f.1, tt)
word-is (Blt rs1 rs2 imm) bits w h s = let f = blt-is rs1 rs2 imm bits w h s in (f.0, f.1, tt)
word-is (Bge rs1 rs2 imm) bits w h s = let f = bge-is rs1 rs2 imm bits w h s in (f.0, f.1, tt)
word-is (Bltu rs1 rs2 imm) bits w h s = let f = bltu-is rs1 rs2 imm bits w h s in (f.0, f.1, tt)
word-is (Bgeu rs1 rs2 imm) bits w h s = let f = bgeu-is rs1 rs2 imm bits w h s in (f.0, f.1, tt)
word-is (Lb rd rs1 imm) bits w h s = let f = lb-is rd rs1 imm bits w h s in (f.0, f.1, tt)
word-is (Lh rd rs1 imm) bits w h s = let f = lh-is rd rs1 imm bits w h s in (f.0, f.1, tt)
word-is (Lw rd rs1 imm) bits w h s = let f = lw-is rd rs1 imm bits w h s in (f.0, f.1, tt)
word-is (Ld rd rs1 imm) bits w h s = let f = ld-is rd rs1 imm bits w h s in (f.0, f.1, tt)
word-is (Lbu rd rs1 imm) bits w h s = let f = lbu-is rd rs1 imm bits w h s in (f.0, f.1, tt)
word-is (Lhu rd rs1 imm) bits w h s = let f = lhu-is rd rs1 imm bits w h s in (f.0, f.1, tt)
word-is (Lwu rd rs1 imm) bits w h s = let f = lwu-is rd rs1 imm bits w h s in (f.0, f.1, tt)
word-is (Sb rs1 rs2 imm) bits w h s = let f = sb-is rs1 rs2 imm bits w h s in (f.0, f.1, tt)
word-is (Sh rs1 rs2 imm) bits w h s = let f = sh-is rs1 rs2 imm bits w h s in (f.0, f.1, tt)
word-is (Sw rs1 rs2 imm) bits w h s = let f = sw-is rs1 rs2 imm bits w h s in (f.0, f.1, tt)
word-is (Sd rs1 rs2 imm) bits w h s = let f = sd-is rs1 rs2 imm bits w h s in (f.0, f.1, tt)
word-is (Addi rd rs1 imm) bits w h s = let f = addi-is rd rs1 imm bits w h s in (f.0, f.1, tt)
word-is (Slti rd rs1 imm) bits w h s = let f = slti-is rd rs1 imm bits w h s in (f.0, f.1, tt)
word-is (Sltiu rd rs1 imm) bits w h s = let f = sltiu-is rd rs1 imm bits w h s in (f.0, f.1, tt)
word-is (Xori rd rs1 imm) bits w h s = let f = xori-is rd rs1 imm bits w h s in (f.0, f.1, tt)
word-is (Ori rd rs1 imm) bits w h s = let f = ori-is rd rs1 imm bits w h s in (f.0, f.1, tt)
word-is (Andi rd rs1 imm) bits w h s = let f = andi-is rd rs1 imm bits w h s in (f.0, f.1, tt)
word-is (Slli rd rs1 imm) bits w h s = let f = slli-is rd rs1 imm bits w h s in (f.0, f.1, tt)
word-is (Srli rd rs1 imm) bits w h s = let f = srli-is rd rs1 imm bits w h s in (f.0, f.1, tt)
word-is (Srai rd rs1 imm) bits w h s = let f = srai-is rd rs1 imm bits w h s in (f.0, f.1, tt)
word-is (Addiw rd rs1 imm) bits w h s = let f = addiw-is rd rs1 imm bits w h s in (f.0, f.1, tt)
word-is (Slliw rd rs1 imm) bits w h s = let f = slliw-is rd rs1 imm bits w h s in (f.0, f.1, tt)
word-is (Srliw rd rs1 imm) bits w h s = let f = srliw-is rd rs1 imm bits w h s in (f.0, f.1, tt)
word-is (Sraiw rd rs1 imm) bits w h s = let f = sraiw-is rd rs1 imm bits w h s in (f.0, f.1, tt)
word-is (Add rd rs1 rs2) bits w h s = let f = add-is rd rs1 rs2 bits w h s in (f.0, f.1, tt)
word-is (Sub rd rs1 rs2) bits w h s = let f = sub-is rd rs1 rs2 bits w h s in (f.0, f.1, tt)
word-is (Sll rd rs1 rs2) bits w h s = let f = sll-is rd rs1 rs2 bits w h s in (f.0, f.1, tt)
word-is (Slt rd rs1 rs2) bits w h s = let f = slt-is rd rs1 rs2 bits w h s in (f.0, f.1, tt)
word-is (Sltu rd rs1 rs2) bits w h s = let f = sltu-is rd rs1 rs2 bits w h s in (f.0, f.1, tt)
word-is (Xor rd rs1 rs2) bits w h s = let f = xor-is rd rs1 rs2 bits w h s in (f.0, f.1, tt)
word-is (Srl rd rs1 rs2) bits w h s = let f = srl-is rd rs1 rs2 bits w h s in (f.0, f.1, tt)
word-is (Sra rd rs1 rs2) bits w h s = let f = sra-is rd rs1 rs2 bits w h s in (f.0, f.1, tt)
word-is (Or rd rs1 rs2) bits w h s = let f = or-is rd rs1 rs2 bits w h s in (f.0, f.1, tt)
word-is (And rd rs1 rs2) bits w h s = let f = and-is rd rs1 rs2 bits w h s in (f.0, f.1, tt)
word-is (Mul rd rs1 rs2) bits w h s = let f = mul-is rd rs1 rs2 bits w h s in (f.0, f.1, tt)
word-is (Mulh rd rs1 rs2) bits w h s = let f = mulh-is rd rs1 rs2 bits w h s in (f.0, f.1, tt)
word-is (Mulhsu rd rs1 rs2) bits w h s = let f = mulhsu-is rd rs1 rs2 bits w h s in (f.0, f.1, tt)
word-is (Mulhu rd rs1 rs2) bits w h s = let f = mulhu-is rd rs1 rs2 bits w h s in (f.0, f.1, tt)
word-is (Div rd rs1 rs2) bits w h s = let f = div-is rd rs1 rs2 bits w h s in (f.0, f.1, tt)
word-is (Divu rd rs1 rs2) bits w h s = let f = divu-is rd rs1 rs2 bits w h s in (f.0, f.1, tt)
word-is (Rem rd rs1 rs2) bits w h s = let f = rem-is rd rs1 rs2 bits w h s in (f.0, f.1, tt)
word-is (Remu rd rs1 rs2) bits w h s = let f = remu-is rd rs1 rs2 bits w h s in (f.0, f.1, tt)
word-is (Addw rd rs1 rs2) bits w h s = let f = addw-is rd rs1 rs2 bits w h s in (f.0, f.1, tt)
word-is (Subw rd rs1 rs2) bits w h s = let f = subw-is rd rs1 rs2 bits w h s in (f.0, f.1, tt)
word-is (Sllw rd rs1 rs2) bits w h s = let f = sllw-is rd rs1 rs2 bits w h s in (f.0, f.1, tt)
word-is (Srlw rd rs1 rs2) bits w h s = let f = srlw-is rd rs1 rs2 bits w h s in (f.0, f.1, tt)
word-is (Sraw rd rs1 rs2) bits w h s = let f = sraw-is rd rs1 rs2 bits w h s in (f.0, f.1, tt)
word-is (Mulw rd rs1 rs2) bits w h s = let f = mulw-is rd rs1 rs2 bits w h s in (f.0, f.1, tt)
word-is (Divw rd rs1 rs2) bits w h s = let f = divw-is rd rs1 rs2 bits w h s in (f.0, f.1, tt)
word-is (Divuw rd rs1 rs2) bits w h s = let f = divuw-is rd rs1 rs2 bits w h s in (f.0, f.1, tt)
word-is (Remw rd rs1 rs2) bits w h s = let f = remw-is rd rs1 rs2 bits w h s in (f.0, f.1, tt)
word-is (Remuw rd rs1 rs2) bits w h s = let f = remuw-is rd rs1 rs2 bits w h s in (f.0, f.1, tt)
word-is Fence bits w h s = bare-word Fence w 0x0000000f (fence-is bits w h s) refl
word-is FenceI bits w h s = bare-word FenceI w 0x0000100f (fence_i-is bits w h s) refl
word-is Ecall bits w h s = bare-word Ecall w 0x00000073 (ecall-is bits w h s) tt
word-is Ebreak bits w h s = bare-word Ebreak w 0x00100073 (ebreak-is bits w h s) tt

-- ---- what fits

pub fits-is : (i : Ins) → FitsFormat i → FitsOperands (form_of i).operands
fits-is (Lui rd imm) h = h
fits-is (Auipc rd imm) h = h
fits-is (Jal rd imm) h = h
fits-is (Jalr rd rs1 imm) h = h
fits-is (Beq rs1 rs2 imm) h = h
fits-is (Bne rs1 rs2 imm) h = h
fits-is (Blt rs1 rs2 imm) h = h
fits-is (Bge rs1 rs2 imm) h = h
fits-is (Bltu rs1 rs2 imm) h = h
fits-is (Bgeu rs1 rs2 imm) h = h
fits-is (Lb rd rs1 imm) h = h
fits-is (Lh rd rs1 imm) h = h
fits-is (Lw rd rs1 imm) h = h
fits-is (Ld rd rs1 imm) h = h
fits-is (Lbu rd rs1 imm) h = h
fits-is (Lhu rd rs1 imm) h = h
fits-is (Lwu rd rs1 imm) h = h
fits-is (Sb rs1 rs2 imm) h = h
fits-is (Sh rs1 rs2 imm) h = h
fits-is (Sw rs1 rs2 imm) h = h
fits-is (Sd rs1 rs2 imm) h = h
fits-is (Addi rd rs1 imm) h = h
fits-is (Slti rd rs1 imm) h = h
fits-is (Sltiu rd rs1 imm) h = h
fits-is (Xori rd rs1 imm) h = h
fits-is (Ori rd rs1 imm) h = h
fits-is (Andi rd rs1 imm) h = h
fits-is (Slli rd rs1 imm) h = h
fits-is (Srli rd rs1 imm) h = h
fits-is (Srai rd rs1 imm) h = h
fits-is (Addiw rd rs1 imm) h = h
fits-is (Slliw rd rs1 imm) h = h
fits-is (Srliw rd rs1 imm) h = h
fits-is (Sraiw rd rs1 imm) h = h
fits-is (Add rd rs1 rs2) h = h
fits-is (Sub rd rs1 rs2) h = h
fits-is (Sll rd rs1 rs2) h = h
fits-is (Slt rd rs1 rs2) h = h
fits-is (Sltu rd rs1 rs2) h = h
fits-is (Xor rd rs1 rs2) h = h
fits-is (Srl rd rs1 rs2) h = h
fits-is (Sra rd rs1 rs2) h = h
fits-is (Or rd rs1 rs2) h = h
fits-is (And rd rs1 rs2) h = h
fits-is (Mul rd rs1 rs2) h = h
fits-is (Mulh rd rs1 rs2) h = h
fits-is (Mulhsu rd rs1 rs2) h = h
fits-is (Mulhu rd rs1 rs2) h = h
fits-is (Div rd rs1 rs2) h = h
fits-is (Divu rd rs1 rs2) h = h
fits-is (Rem rd rs1 rs2) h = h
fits-is (Remu rd rs1 rs2) h = h
fits-is (Addw rd rs1 rs2) h = h
fits-is (Subw rd rs1 rs2) h = h
fits-is (Sllw rd rs1 rs2) h = h
fits-is (Srlw rd rs1 rs2) h = h
fits-is (Sraw rd rs1 rs2) h = h
fits-is (Mulw rd rs1 rs2) h = h
fits-is (Divw rd rs1 rs2) h = h
fits-is (Divuw rd rs1 rs2) h = h
fits-is (Remw rd rs1 rs2) h = h
fits-is (Remuw rd rs1 rs2) h = h
fits-is Fence h = h
fits-is FenceI h = h
fits-is Ecall h = h
fits-is Ebreak h = h
