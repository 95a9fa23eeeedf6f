-- At most one word encodes an instruction in the full form: its fixed bits are those of its row, and its other bits are those of its operands.
use Rattle.std.proofs.Common.{◌≡◌, ℕ, ℤ, pos, ◌-ℤ◌, ◌+◌, ◌-◌, ◌*◌, ◌/◌, ◌%◌, ◌^◌, ◌<◌, Bool, true, false, cond, List, [], ◌∷◌, Option, Some, None, bit_and, bit_or, inl, inr, refl, sym, ap, ◌∙◌, subst, lit<, arith}
use Rattle.std.specs.Prelude.{nat_lt, ◌==◌}
use Rattle.std.specs.List.{list_any}
use Rattle.std.specs.Option.{option_map}
use Rattle.std.proofs.lemmas.Nat.{and_mask, mod_below}
use Rattle.std.proofs.lemmas.Nat.Bits.{and_high}
use Rattle.std.proofs.lemmas.Int.{ints}
use Rattle.std.proofs.lemmas.Bool.{cases_lt}
use Rattle.std.proofs.lemmas.Bool.Decides.{nat_tests}
use Rattle.machine_defs.specs.declared.ins.Ins.{Ins}
use Rattle.machine_defs.specs.Instruction.{bits, part, sign_extended}
use Rattle.machine_defs.specs.Row.{Row, fits, matches, encoded_in}
use Rattle.machine_defs.specs.Table.{rd, rs1, rs2, i_immediate, s_immediate, b_immediate, u_immediate, j_immediate, shift_amount, word_shift_amount, full_forms}
use Rattle.machine_defs.specs.Compressed.{compressed_forms}
use Rattle.machine_defs.specs.Decode.{decode, with_length}
use Rattle.machine_defs.proofs.DecodeLaws.{◌also◌}
use Rattle.machine_defs.proofs.RowLaws.{equal_from_true, implied, joined}
use Rattle.machine_defs.specs.declared.operands.Operands.{Operands}
use Rattle.machine_defs.specs.declared.operands.Operands.TheVariants.{Registers, Immediate, Shift, WordShift, Address, Store, Branch, Jump, Upper, Bare}
use Rattle.machine_defs.specs.Text.{form_of, IsWord, IsZeroWhereUnread}
use Rattle.machine_defs.specs.TextLaws.{OneWordEncodes}
use Rattle.rv_text.specs.Words.{extended}
use Rattle.rv_text.proofs.Widths.{extended-is}

-- ---- What a word has of an instruction

-- the fixed bits, and the operands
abbrev IsCoded : ℕ → Operands → ℕ → Type 0
IsCoded fixed (Registers d a b) w = (bit_and w 0xfe00707f ≡ fixed) × (d ≡ rd w) × (a ≡ rs1 w) × (b ≡ rs2 w)
IsCoded fixed (Immediate d a z) w = (bit_and w 0x0000707f ≡ fixed) × (d ≡ rd w) × (a ≡ rs1 w) × (z ≡ i_immediate w)
IsCoded fixed (Shift d a z) w = (bit_and w 0xfc00707f ≡ fixed) × (d ≡ rd w) × (a ≡ rs1 w) × (z ≡ shift_amount w)
IsCoded fixed (WordShift d a z) w = (bit_and w 0xfe00707f ≡ fixed) × (d ≡ rd w) × (a ≡ rs1 w) × (z ≡ word_shift_amount w)
IsCoded fixed (Address d a z) w = (bit_and w 0x0000707f ≡ fixed) × (d ≡ rd w) × (a ≡ rs1 w) × (z ≡ i_immediate w)
IsCoded fixed (Store a b z) w = (bit_and w 0x0000707f ≡ fixed) × (a ≡ rs1 w) × (b ≡ rs2 w) × (z ≡ s_immediate w)
IsCoded fixed (Branch a b z) w = (bit_and w 0x0000707f ≡ fixed) × (a ≡ rs1 w) × (b ≡ rs2 w) × (z ≡ b_immediate w)
IsCoded fixed (Jump d z) w = (bit_and w 0x0000007f ≡ fixed) × (d ≡ rd w) × (z ≡ j_immediate w)
IsCoded fixed (Upper d z) w = (bit_and w 0x0000007f ≡ fixed) × (d ≡ rd w) × (z ≡ u_immediate w)
IsCoded fixed Bare w = w ≡ fixed

abbrev Codes : Ins → ℕ → Type 0
Codes i w = IsCoded (form_of i).word (form_of i).operands w

-- ---- The rows

whole-word : (w fixed : ℕ) → w < 2 ^ 32 → bit_and w 0xffffffff ≡ fixed → w ≡ fixed
whole-word w fixed small e = let all : w % 4294967296 ≡ fixed = sym (and_mask w 32) ∙ e in omega (arith, small, all)

fence-word : (w fixed : ℕ) → bit_or fixed 0 ≡ fixed → w < 2 ^ 32 → bit_and w 0x0000707f ≡ fixed → bit_and w 0xffff8f80 ≡ 0 → w ≡ fixed
fence-word w fixed same small e zero =
    whole-word w fixed small (joined w 0x0000707f 0xffff8f80 ∙ ap (λ v. bit_or v (bit_and w 0xffff8f80)) e ∙ ap (bit_or fixed) zero ∙ same)

-- a word of the row has what the row's instruction has
abbrev IsCodedIn : Row → Type 0
IsCodedIn row = (w : ℕ) → w < 2 ^ 32 → IsZeroWhereUnread (row.instruction w) w → bit_and w row.pattern.mask ≡ row.pattern.value → Codes (row.instruction w) w

abbrev EachCodes : List Row → Type 0
EachCodes [] = Unit {0}
EachCodes (row ∷ rows) = IsCodedIn row × EachCodes rows

full_forms_code : EachCodes full_forms
unfolding full_forms
full_forms_code =
    (λ w small zero e. (e, refl, refl)) also (λ w small zero e. (e, refl, refl)) also (λ w small zero e. (e, refl, refl))
    also (λ w small zero e. (e, refl, refl, refl)) also (λ w small zero e. (e, refl, refl, refl)) also (λ w small zero e. (e, refl, refl, refl))
    also (λ w small zero e. (e, refl, refl, refl)) also (λ w small zero e. (e, refl, refl, refl)) also (λ w small zero e. (e, refl, refl, refl))
    also (λ w small zero e. (e, refl, refl, refl)) also (λ w small zero e. (e, refl, refl, refl)) also (λ w small zero e. (e, refl, refl, refl))
    also (λ w small zero e. (e, refl, refl, refl)) also (λ w small zero e. (e, refl, refl, refl)) also (λ w small zero e. (e, refl, refl, refl))
    also (λ w small zero e. (e, refl, refl, refl)) also (λ w small zero e. (e, refl, refl, refl)) also (λ w small zero e. (e, refl, refl, refl))
    also (λ w small zero e. (e, refl, refl, refl)) also (λ w small zero e. (e, refl, refl, refl)) also (λ w small zero e. (e, refl, refl, refl))
    also (λ w small zero e. (e, refl, refl, refl)) also (λ w small zero e. (e, refl, refl, refl)) also (λ w small zero e. (e, refl, refl, refl))
    also (λ w small zero e. (e, refl, refl, refl)) also (λ w small zero e. (e, refl, refl, refl)) also (λ w small zero e. (e, refl, refl, refl))
    also (λ w small zero e. (e, refl, refl, refl)) also (λ w small zero e. (e, refl, refl, refl)) also (λ w small zero e. (e, refl, refl, refl))
    also (λ w small zero e. (e, refl, refl, refl)) also (λ w small zero e. (e, refl, refl, refl)) also (λ w small zero e. (e, refl, refl, refl))
    also (λ w small zero e. (e, refl, refl, refl)) also (λ w small zero e. (e, refl, refl, refl)) also (λ w small zero e. (e, refl, refl, refl))
    also (λ w small zero e. (e, refl, refl, refl)) also (λ w small zero e. (e, refl, refl, refl)) also (λ w small zero e. (e, refl, refl, refl))
    also (λ w small zero e. (e, refl, refl, refl)) also (λ w small zero e. (e, refl, refl, refl)) also (λ w small zero e. (e, refl, refl, refl))
    also (λ w small zero e. (e, refl, refl, refl)) also (λ w small zero e. (e, refl, refl, refl)) also (λ w small zero e. (e, refl, refl, refl))
    also (λ w small zero e. (e, refl, refl, refl)) also (λ w small zero e. (e, refl, refl, refl)) also (λ w small zero e. (e, refl, refl, refl))
    also (λ w small zero e. (e, refl, refl, refl)) also (λ w small zero e. (e, refl, refl, refl)) also (λ w small zero e. (e, refl, refl, refl))
    also (λ w small zero e. (e, refl, refl, refl)) also (λ w small zero e. (e, refl, refl, refl)) also (λ w small zero e. (e, refl, refl, refl))
    also (λ w small zero e. (e, refl, refl, refl)) also (λ w small zero e. (e, refl, refl, refl)) also (λ w small zero e. (e, refl, refl, refl))
    also (λ w small zero e. (e, refl, refl, refl)) also (λ w small zero e. (e, refl, refl, refl)) also (λ w small zero e. (e, refl, refl, refl))
    also (λ w small zero e. (e, refl, refl, refl)) also (λ w small zero e. (e, refl, refl, refl)) also (λ w small zero e. fence-word w 0x0000000f refl small e zero)
    also (λ w small zero e. fence-word w 0x0000100f refl small e zero) also (λ w small zero e. whole-word w 0x00000073 small e) also (λ w small zero e. whole-word w 0x00100073 small e) also tt

some-ins : (a b : Ins) → Some a ≡ Some b → a ≡ b
some-ins a b e = cc

unless : (b c : Bool) → cond b false c ≡ true → c ≡ true
unless true c e = absurd (cc)
unless false c e = e

coded : (rows : List Row) → EachCodes rows → (w : ℕ) (i : Ins) → w < 2 ^ 32 → IsZeroWhereUnread i w → encoded_in rows w ≡ Some i → Codes i w
unfolding encoded_in
coded [] each w i small zero e = absurd (cc)
coded (row ∷ rows) each w i small zero e = one (matches w row) refl (λ is. coded rows each.1 w i small zero is) e
  where
    one : (b : Bool) → matches w row ≡ b → (encoded_in rows w ≡ Some i → Codes i w) → cond b (Some (row.instruction w)) (encoded_in rows w) ≡ Some i → Codes i w
    one true m later is =
        let same : row.instruction w ≡ i = some-ins (row.instruction w) i is in
        let fit : bit_and w row.pattern.mask ≡ row.pattern.value = equal_from_true _ _ (unless (list_any (fits w) row.except) (fits w row.pattern) m) in
        subst (λ j. Codes j w) same (each.0 w small (subst (λ j. IsZeroWhereUnread j w) (sym same) zero) fit)
    one false m later is = later is

-- ---- The words of a table

some-pair : (a b : Ins × ℕ) → Some a ≡ Some b → a ≡ b
some-pair a b e = cc

long : (found : Option Ins) (i : Ins) → option_map (with_length 4) found ≡ Some (i, 4) → found ≡ Some i
long (Some ins) i is = ap Some (ap (λ (d : Ins × ℕ). d.0) (some-pair (ins, 4) (i, 4) is))
long None i is = absurd (cc)

short : (found : Option Ins) (i : Ins) → option_map (with_length 2) found ≡ Some (i, 4) → ⊥
short (Some ins) i is = let same : 2 ≡ 4 = ap (λ (d : Ins × ℕ). d.1) (some-pair (ins, 2) (i, 4) is) in omega (arith, same)
short None i is = cc

either : (four : Bool) (w : ℕ) (i : Ins)
    → cond four (option_map (with_length 4) (encoded_in full_forms w)) (option_map (with_length 2) (encoded_in compressed_forms (w % 2 ^ 16))) ≡ Some (i, 4)
    → encoded_in full_forms w ≡ Some i
either true w i is = long (encoded_in full_forms w) i is
either false w i is = absurd (short (encoded_in compressed_forms (w % 2 ^ 16)) i is)

full-form-of : (w : ℕ) (i : Ins) → decode w ≡ Some (i, 4) → encoded_in full_forms w ≡ Some i
unfolding decode
full-form-of w i is = either (w % 4 == 3) w i is

word-codes : (i : Ins) (w : ℕ) → IsWord i w → Codes i w
word-codes i w word = coded full_forms full_forms_code w i word.0 word.2 (full-form-of w i word.1)

-- ---- Words with the same bits

opcode-same : (w v mask fixed : ℕ) → bit_and mask 0x7f ≡ 0x7f → bit_and w mask ≡ fixed → bit_and v mask ≡ fixed → w % 128 ≡ v % 128
opcode-same w v mask fixed within e f =
    sym (and_mask w 7) ∙ implied w mask fixed 0x7f e within ∙ sym (implied v mask fixed 0x7f f within) ∙ and_mask v 7

minor-same : (w v mask fixed : ℕ) → bit_and mask 0x7000 ≡ 0x7000 → bit_and w mask ≡ fixed → bit_and v mask ≡ fixed → w / 4096 % 8 ≡ v / 4096 % 8
minor-same w v mask fixed within e f =
    let same : w / 4096 % 8 * 4096 ≡ v / 4096 % 8 * 4096 =
    sym (and_high w 3 12) ∙ implied w mask fixed 0x7000 e within ∙ sym (implied v mask fixed 0x7000 f within) ∙ and_high v 3 12 in
    omega (arith, same)

major-same : (w v mask fixed : ℕ) → bit_and mask 0xfe000000 ≡ 0xfe000000 → bit_and w mask ≡ fixed → bit_and v mask ≡ fixed
    → w / 33554432 % 128 ≡ v / 33554432 % 128
major-same w v mask fixed within e f =
    let same : w / 33554432 % 128 * 33554432 ≡ v / 33554432 % 128 * 33554432 =
    sym (and_high w 7 25) ∙ implied w mask fixed 0xfe000000 e within ∙ sym (implied v mask fixed 0xfe000000 f within) ∙ and_high v 7 25 in
    omega (arith, same)

six-same : (w v mask fixed : ℕ) → bit_and mask 0xfc000000 ≡ 0xfc000000 → bit_and w mask ≡ fixed → bit_and v mask ≡ fixed
    → w / 67108864 % 64 ≡ v / 67108864 % 64
six-same w v mask fixed within e f =
    let same : w / 67108864 % 64 * 67108864 ≡ v / 67108864 % 64 * 67108864 =
    sym (and_high w 6 26) ∙ implied w mask fixed 0xfc000000 e within ∙ sym (implied v mask fixed 0xfc000000 f within) ∙ and_high v 6 26 in
    omega (arith, same)

-- the parts of a word, from the lowest on
low-same : (w v : ℕ) → w % 128 ≡ v % 128 → w / 128 % 32 ≡ v / 128 % 32 → w % 4096 ≡ v % 4096
low-same w v a b = omega (arith, a, b)

third-same : (w v : ℕ) → w % 4096 ≡ v % 4096 → w / 4096 % 8 ≡ v / 4096 % 8 → w % 32768 ≡ v % 32768
third-same w v a b = omega (arith, a, b)

fourth-same : (w v : ℕ) → w % 32768 ≡ v % 32768 → w / 32768 % 32 ≡ v / 32768 % 32 → w % 1048576 ≡ v % 1048576
fourth-same w v a b = omega (arith, a, b)

fifth-same : (w v : ℕ) → w % 1048576 ≡ v % 1048576 → w / 1048576 % 32 ≡ v / 1048576 % 32 → w % 33554432 ≡ v % 33554432
fifth-same w v a b = omega (arith, a, b)

all-same : (w v : ℕ) → w < 2 ^ 32 → v < 2 ^ 32 → w % 33554432 ≡ v % 33554432 → w / 33554432 % 128 ≡ v / 33554432 % 128 → w ≡ v
all-same w v s t a b = omega (arith, s, t, a, b)

-- of the fields by the manual's names
rd-same : (w v d : ℕ) → d ≡ rd w → d ≡ rd v → w / 128 % 32 ≡ v / 128 % 32
unfolding rd bits
rd-same w v d a b = sym a ∙ b

rs1-same : (w v d : ℕ) → d ≡ rs1 w → d ≡ rs1 v → w / 32768 % 32 ≡ v / 32768 % 32
unfolding rs1 bits
rs1-same w v d a b = sym a ∙ b

rs2-same : (w v d : ℕ) → d ≡ rs2 w → d ≡ rs2 v → w / 1048576 % 32 ≡ v / 1048576 % 32
unfolding rs2 bits
rs2-same w v d a b = sym a ∙ b

-- ---- The bits of a number

extended-same : (half n m : ℕ) → n < half + half → m < half + half → extended half n ≡ extended half m → n ≡ m
extended-same half n m a b e = elim (cases_lt n half) [
  | inl low ↦ elim (cases_lt m half) [ inl l ↦ grind (arith, nat_tests, ints) | inr h ↦ grind (arith, nat_tests, ints) ]
  | inr high ↦ elim (cases_lt m half) [ inl l ↦ grind (arith, nat_tests, ints) | inr h ↦ grind (arith, nat_tests, ints) ]
]

sign-same : (width half n m : ℕ) → 2 ^ (width - 1) ≡ half → 2 ^ width ≡ half + half → n < half + half → m < half + half
    → sign_extended width n ≡ sign_extended width m → n ≡ m
sign-same width half n m e f a b same = extended-same half n m a b (sym (extended-is width half n e f) ∙ same ∙ extended-is width half m e f)

-- ---- The forms

register-same : (fixed d a b w v : ℕ) → w < 2 ^ 32 → v < 2 ^ 32 → IsCoded fixed (Registers d a b) w → IsCoded fixed (Registers d a b) v → w ≡ v
register-same fixed d a b w v s t p q =
    all-same w v s t
    (fifth-same w v (fourth-same w v (third-same w v (low-same w v (opcode-same w v 0xfe00707f fixed refl p.0 q.0) (rd-same w v d p.1 q.1))
    (minor-same w v 0xfe00707f fixed refl p.0 q.0)) (rs1-same w v a p.2 q.2)) (rs2-same w v b p.3 q.3))
    (major-same w v 0xfe00707f fixed refl p.0 q.0)

-- what stands below the number of the formats I, S and B
to_rs1 : (fixed d a w v : ℕ) → bit_and w 0x0000707f ≡ fixed → bit_and v 0x0000707f ≡ fixed → w / 128 % 32 ≡ v / 128 % 32 → a ≡ rs1 w → a ≡ rs1 v
    → w % 1048576 ≡ v % 1048576
to_rs1 fixed d a w v e f target p q =
    fourth-same w v (third-same w v (low-same w v (opcode-same w v 0x0000707f fixed refl e f) target) (minor-same w v 0x0000707f fixed refl e f)) (rs1-same w v a p q)

top-same : (w v : ℕ) → w < 2 ^ 32 → v < 2 ^ 32 → w % 1048576 ≡ v % 1048576 → w / 1048576 % 4096 ≡ v / 1048576 % 4096 → w ≡ v
top-same w v s t a b = omega (arith, s, t, a, b)

i-same : (w v : ℕ) (z : ℤ) → z ≡ i_immediate w → z ≡ i_immediate v → w / 1048576 % 4096 ≡ v / 1048576 % 4096
unfolding i_immediate bits
i-same w v z p q =
    sign-same 12 2048 (w / 1048576 % 4096) (v / 1048576 % 4096) refl refl (mod_below (w / 1048576) 4096 (lit< tt)) (mod_below (v / 1048576) 4096 (lit< tt)) (sym p ∙ q)

immediate-same : (fixed d a : ℕ) (z : ℤ) (w v : ℕ) → w < 2 ^ 32 → v < 2 ^ 32 → IsCoded fixed (Immediate d a z) w → IsCoded fixed (Immediate d a z) v → w ≡ v
immediate-same fixed d a z w v s t p q = top-same w v s t (to_rs1 fixed d a w v p.0 q.0 (rd-same w v d p.1 q.1) p.2 q.2) (i-same w v z p.3 q.3)

pos-same : (n m : ℕ) (z : ℤ) → z ≡ pos n → z ≡ pos m → n ≡ m
pos-same n m z p q = let e : pos n ≡ pos m = sym p ∙ q in cc

amount-same : (w v : ℕ) (z : ℤ) → z ≡ shift_amount w → z ≡ shift_amount v → w / 1048576 % 64 ≡ v / 1048576 % 64
unfolding shift_amount bits
amount-same w v z p q = pos-same (w / 1048576 % 64) (v / 1048576 % 64) z p q

word_amount-same : (w v : ℕ) (z : ℤ) → z ≡ word_shift_amount w → z ≡ word_shift_amount v → w / 1048576 % 32 ≡ v / 1048576 % 32
unfolding word_shift_amount bits
word_amount-same w v z p q = pos-same (w / 1048576 % 32) (v / 1048576 % 32) z p q

shifted-same : (w v : ℕ) → w < 2 ^ 32 → v < 2 ^ 32 → w % 1048576 ≡ v % 1048576 → w / 1048576 % 64 ≡ v / 1048576 % 64
    → w / 67108864 % 64 ≡ v / 67108864 % 64 → w ≡ v
shifted-same w v s t a b c = let low : w % 67108864 ≡ v % 67108864 = omega (arith, a, b) in omega (arith, s, t, low, c)

-- the registers of a shift, below its amount
shift_to_rs1 : (fixed mask d a w v : ℕ) → bit_and mask 0x7f ≡ 0x7f → bit_and mask 0x7000 ≡ 0x7000 → bit_and w mask ≡ fixed → bit_and v mask ≡ fixed
    → d ≡ rd w → d ≡ rd v → a ≡ rs1 w → a ≡ rs1 v → w % 1048576 ≡ v % 1048576
shift_to_rs1 fixed mask d a w v low middle e f dw dv aw av =
    fourth-same w v (third-same w v (low-same w v (opcode-same w v mask fixed low e f) (rd-same w v d dw dv)) (minor-same w v mask fixed middle e f)) (rs1-same w v a aw av)

shift-same : (fixed d a : ℕ) (z : ℤ) (w v : ℕ) → w < 2 ^ 32 → v < 2 ^ 32 → IsCoded fixed (Shift d a z) w → IsCoded fixed (Shift d a z) v → w ≡ v
shift-same fixed d a z w v s t p q =
    shifted-same w v s t (shift_to_rs1 fixed 0xfc00707f d a w v refl refl p.0 q.0 p.1 q.1 p.2 q.2) (amount-same w v z p.3 q.3) (six-same w v 0xfc00707f fixed refl p.0 q.0)

word_shift-same : (fixed d a : ℕ) (z : ℤ) (w v : ℕ) → w < 2 ^ 32 → v < 2 ^ 32 → IsCoded fixed (WordShift d a z) w → IsCoded fixed (WordShift d a z) v → w ≡ v
word_shift-same fixed d a z w v s t p q =
    all-same w v s t (fifth-same w v (shift_to_rs1 fixed 0xfe00707f d a w v refl refl p.0 q.0 p.1 q.1 p.2 q.2) (word_amount-same w v z p.3 q.3))
    (major-same w v 0xfe00707f fixed refl p.0 q.0)

-- two parts of a number of 12 bits
s-parts : (x y x' y' : ℕ) → y < 32 → y' < 32 → x * 32 + y * 1 ≡ x' * 32 + y' * 1 → (x ≡ x') × (y ≡ y')
s-parts x y x' y' b b' e = (omega (arith, b, b', e), omega (arith, b, b', e))

s-same : (w v : ℕ) (z : ℤ) → z ≡ s_immediate w → z ≡ s_immediate v → (w / 33554432 % 128 ≡ v / 33554432 % 128) × (w / 128 % 32 ≡ v / 128 % 32)
unfolding s_immediate bits
s-same w v z p q =
    let a : w / 33554432 % 128 < 128 = mod_below (w / 33554432) 128 (lit< tt) in
    let b : w / 128 % 32 < 32 = mod_below (w / 128) 32 (lit< tt) in
    let a' : v / 33554432 % 128 < 128 = mod_below (v / 33554432) 128 (lit< tt) in
    let b' : v / 128 % 32 < 32 = mod_below (v / 128) 32 (lit< tt) in
    s-parts (w / 33554432 % 128) (w / 128 % 32) (v / 33554432 % 128) (v / 128 % 32) b b'
    (sign-same 12 2048 (w / 33554432 % 128 * 32 + w / 128 % 32 * 1) (v / 33554432 % 128 * 32 + v / 128 % 32 * 1) refl refl
    (omega (arith, a, b)) (omega (arith, a', b')) (sym p ∙ q))

store-same : (fixed a b : ℕ) (z : ℤ) (w v : ℕ) → w < 2 ^ 32 → v < 2 ^ 32 → IsCoded fixed (Store a b z) w → IsCoded fixed (Store a b z) v → w ≡ v
store-same fixed a b z w v s t p q =
    let n = s-same w v z p.3 q.3 in
    all-same w v s t (fifth-same w v (to_rs1 fixed 0 a w v p.0 q.0 n.1 p.1 q.1) (rs2-same w v b p.2 q.2)) n.0

-- four parts of a number of 13 bits
b-parts : (x y p q x' y' p' q' : ℕ) → y < 2 → p < 64 → q < 16 → y' < 2 → p' < 64 → q' < 16
    → x * 4096 + y * 2048 + p * 32 + q * 2 ≡ x' * 4096 + y' * 2048 + p' * 32 + q' * 2 → (x ≡ x') × (y ≡ y') × (p ≡ p') × (q ≡ q')
b-parts x y p q x' y' p' q' a b c a' b' c' e = (
  omega (arith, a, b, c, a', b', c', e),
  omega (arith, a, b, c, a', b', c', e),
  omega (arith, a, b, c, a', b', c', e),
  omega (arith, a, b, c, a', b', c', e),
)

abbrev b-number : ℕ → ℕ
b-number w = w / 2147483648 % 2 * 4096 + w / 128 % 2 * 2048 + w / 33554432 % 64 * 32 + w / 256 % 16 * 2

b-same : (w v : ℕ) (z : ℤ) → z ≡ b_immediate w → z ≡ b_immediate v → (w / 33554432 % 128 ≡ v / 33554432 % 128) × (w / 128 % 32 ≡ v / 128 % 32)
unfolding b_immediate bits
b-same w v z p q =
    let x : w / 2147483648 % 2 < 2 = mod_below (w / 2147483648) 2 (lit< tt) in
    let a : w / 128 % 2 < 2 = mod_below (w / 128) 2 (lit< tt) in
    let b : w / 33554432 % 64 < 64 = mod_below (w / 33554432) 64 (lit< tt) in
    let c : w / 256 % 16 < 16 = mod_below (w / 256) 16 (lit< tt) in
    let x' : v / 2147483648 % 2 < 2 = mod_below (v / 2147483648) 2 (lit< tt) in
    let a' : v / 128 % 2 < 2 = mod_below (v / 128) 2 (lit< tt) in
    let b' : v / 33554432 % 64 < 64 = mod_below (v / 33554432) 64 (lit< tt) in
    let c' : v / 256 % 16 < 16 = mod_below (v / 256) 16 (lit< tt) in
    let e : b-number w ≡ b-number v = sign-same 13 4096 (b-number w) (b-number v) refl refl (omega (arith, x, a, b, c)) (omega (arith, x', a', b', c')) (sym p ∙ q) in
    let all = b-parts (w / 2147483648 % 2) (w / 128 % 2) (w / 33554432 % 64) (w / 256 % 16) (v / 2147483648 % 2) (v / 128 % 2) (v / 33554432 % 64) (v / 256 % 16)
    a b c a' b' c' e in
    (omega (arith, all.0, all.2), omega (arith, all.1, all.3))

branch-same : (fixed a b : ℕ) (z : ℤ) (w v : ℕ) → w < 2 ^ 32 → v < 2 ^ 32 → IsCoded fixed (Branch a b z) w → IsCoded fixed (Branch a b z) v → w ≡ v
branch-same fixed a b z w v s t p q =
    let n = b-same w v z p.3 q.3 in
    all-same w v s t (fifth-same w v (to_rs1 fixed 0 a w v p.0 q.0 n.1 p.1 q.1) (rs2-same w v b p.2 q.2)) n.0

u-same : (w v : ℕ) (z : ℤ) → z ≡ u_immediate w → z ≡ u_immediate v → w / 4096 % 1048576 ≡ v / 4096 % 1048576
unfolding u_immediate bits
u-same w v z p q =
    let a : w / 4096 % 1048576 < 1048576 = mod_below (w / 4096) 1048576 (lit< tt) in
    let a' : v / 4096 % 1048576 < 1048576 = mod_below (v / 4096) 1048576 (lit< tt) in
    let e : w / 4096 % 1048576 * 4096 ≡ v / 4096 % 1048576 * 4096 =
    sign-same 32 2147483648 (w / 4096 % 1048576 * 4096) (v / 4096 % 1048576 * 4096) refl refl (omega (arith, a)) (omega (arith, a')) (sym p ∙ q) in
    omega (arith, e)

above-same : (w v : ℕ) → w < 2 ^ 32 → v < 2 ^ 32 → w % 4096 ≡ v % 4096 → w / 4096 % 1048576 ≡ v / 4096 % 1048576 → w ≡ v
above-same w v s t a b = omega (arith, s, t, a, b)

upper-same : (fixed d : ℕ) (z : ℤ) (w v : ℕ) → w < 2 ^ 32 → v < 2 ^ 32 → IsCoded fixed (Upper d z) w → IsCoded fixed (Upper d z) v → w ≡ v
upper-same fixed d z w v s t p q =
    above-same w v s t (low-same w v (opcode-same w v 0x0000007f fixed refl p.0 q.0) (rd-same w v d p.1 q.1)) (u-same w v z p.2 q.2)

-- four parts of a number of 21 bits
j-parts : (x y p q x' y' p' q' : ℕ) → y < 256 → p < 2 → q < 1024 → y' < 256 → p' < 2 → q' < 1024
    → x * 1048576 + y * 4096 + p * 2048 + q * 2 ≡ x' * 1048576 + y' * 4096 + p' * 2048 + q' * 2 → (x ≡ x') × (y ≡ y') × (p ≡ p') × (q ≡ q')
j-parts x y p q x' y' p' q' a b c a' b' c' e = (
  omega (arith, a, b, c, a', b', c', e),
  omega (arith, a, b, c, a', b', c', e),
  omega (arith, a, b, c, a', b', c', e),
  omega (arith, a, b, c, a', b', c', e),
)

abbrev j-number : ℕ → ℕ
j-number w = w / 2147483648 % 2 * 1048576 + w / 4096 % 256 * 4096 + w / 1048576 % 2 * 2048 + w / 2097152 % 1024 * 2

j-same : (w v : ℕ) (z : ℤ) → z ≡ j_immediate w → z ≡ j_immediate v → w / 4096 % 1048576 ≡ v / 4096 % 1048576
unfolding j_immediate bits
j-same w v z p q =
    let x : w / 2147483648 % 2 < 2 = mod_below (w / 2147483648) 2 (lit< tt) in
    let a : w / 4096 % 256 < 256 = mod_below (w / 4096) 256 (lit< tt) in
    let b : w / 1048576 % 2 < 2 = mod_below (w / 1048576) 2 (lit< tt) in
    let c : w / 2097152 % 1024 < 1024 = mod_below (w / 2097152) 1024 (lit< tt) in
    let x' : v / 2147483648 % 2 < 2 = mod_below (v / 2147483648) 2 (lit< tt) in
    let a' : v / 4096 % 256 < 256 = mod_below (v / 4096) 256 (lit< tt) in
    let b' : v / 1048576 % 2 < 2 = mod_below (v / 1048576) 2 (lit< tt) in
    let c' : v / 2097152 % 1024 < 1024 = mod_below (v / 2097152) 1024 (lit< tt) in
    let e : j-number w ≡ j-number v = sign-same 21 1048576 (j-number w) (j-number v) refl refl (omega (arith, x, a, b, c)) (omega (arith, x', a', b', c')) (sym p ∙ q) in
    let all = j-parts (w / 2147483648 % 2) (w / 4096 % 256) (w / 1048576 % 2) (w / 2097152 % 1024) (v / 2147483648 % 2) (v / 4096 % 256) (v / 1048576 % 2) (v / 2097152 % 1024)
    a b c a' b' c' e in
    let low : w / 4096 % 512 ≡ v / 4096 % 512 = omega (arith, all.1, all.2) in
    let middle : w / 4096 % 524288 ≡ v / 4096 % 524288 = omega (arith, low, all.3) in
    omega (arith, middle, all.0)

jump-same : (fixed d : ℕ) (z : ℤ) (w v : ℕ) → w < 2 ^ 32 → v < 2 ^ 32 → IsCoded fixed (Jump d z) w → IsCoded fixed (Jump d z) v → w ≡ v
jump-same fixed d z w v s t p q =
    above-same w v s t (low-same w v (opcode-same w v 0x0000007f fixed refl p.0 q.0) (rd-same w v d p.1 q.1)) (j-same w v z p.2 q.2)

same-word : (fixed : ℕ) (o : Operands) (w v : ℕ) → w < 2 ^ 32 → v < 2 ^ 32 → IsCoded fixed o w → IsCoded fixed o v → w ≡ v
same-word fixed (Registers d a b) = register-same fixed d a b
same-word fixed (Immediate d a z) = immediate-same fixed d a z
same-word fixed (Shift d a z) = shift-same fixed d a z
same-word fixed (WordShift d a z) = word_shift-same fixed d a z
same-word fixed (Address d a z) = immediate-same fixed d a z
same-word fixed (Store a b z) = store-same fixed a b z
same-word fixed (Branch a b z) = branch-same fixed a b z
same-word fixed (Jump d z) = jump-same fixed d z
same-word fixed (Upper d z) = upper-same fixed d z
same-word fixed Bare = λ w v s t p q. p ∙ sym q

pub one-word : OneWordEncodes
one-word i word other w v = same-word (form_of i).word (form_of i).operands word other w.0 v.0 (word-codes i word w) (word-codes i other v)
