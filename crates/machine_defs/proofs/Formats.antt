-- The immediates of the full forms have the bits of their formats.
use Rattle.std.proofs.Common.{◌≡◌, ℕ, ◌+◌, ◌/◌, ◌%◌, ◌^◌, ◌<◌, ◌==◌, Bool, true, false, cond, List, [], ◌∷◌, Option, Some, None, IfSome, refl, ap, subst, lit<, arith}
use Rattle.std.specs.Option.{option_map}
use Rattle.std.proofs.lemmas.Nat.{mod_below}
use Rattle.machine_defs.specs.declared.ins.Ins.{Ins}
use Rattle.machine_defs.specs.Instruction.{bits, part, HasRegisters, HasImmediate, IsImmediate, IsShiftAmount, FitsFormat}
use Rattle.machine_defs.specs.Row.{Row, matches, encoded_in}
use Rattle.machine_defs.specs.Table.{full_forms, i_immediate, s_immediate, b_immediate, u_immediate, j_immediate, shift_amount, word_shift_amount}
use Rattle.machine_defs.specs.Compressed.{compressed_forms}
use Rattle.machine_defs.specs.Decode.{decode, with_length, HasFullForm}
use Rattle.machine_defs.proofs.DecodeLaws.{◌also◌, decode-registers}

twelve : (w : ℕ) → bits 31 20 w < 4096
unfolding bits
twelve w = mod_below (w / 2 ^ 20) 4096 (lit< tt)

i_fits : (w : ℕ) → IsImmediate 12 1 (i_immediate w)
unfolding i_immediate
i_fits w = (bits 31 20 w, twelve w, omega arith, refl)

seven : (w : ℕ) → bits 31 25 w < 128
unfolding bits
seven w = mod_below (w / 2 ^ 25) 128 (lit< tt)

five : (w : ℕ) → bits 11 7 w < 32
unfolding bits
five w = mod_below (w / 2 ^ 7) 32 (lit< tt)

s_fits : (w : ℕ) → IsImmediate 12 1 (s_immediate w)
unfolding s_immediate
s_fits w = (part 31 25 5 w + part 11 7 0 w, omega (arith, seven w, five w), omega arith, refl)

top : (w : ℕ) → bits 31 31 w < 2
unfolding bits
top w = mod_below (w / 2 ^ 31) 2 (lit< tt)

bit-7 : (w : ℕ) → bits 7 7 w < 2
unfolding bits
bit-7 w = mod_below (w / 2 ^ 7) 2 (lit< tt)

six : (w : ℕ) → bits 30 25 w < 64
unfolding bits
six w = mod_below (w / 2 ^ 25) 64 (lit< tt)

four : (w : ℕ) → bits 11 8 w < 16
unfolding bits
four w = mod_below (w / 2 ^ 8) 16 (lit< tt)

b_fits : (w : ℕ) → IsImmediate 13 2 (b_immediate w)
unfolding b_immediate
b_fits w =
    (part 31 31 12 w + part 7 7 11 w + part 30 25 5 w + part 11 8 1 w, omega (arith, top w, bit-7 w, six w, four w), omega arith, refl)

twenty : (w : ℕ) → bits 31 12 w < 1048576
unfolding bits
twenty w = mod_below (w / 2 ^ 12) 1048576 (lit< tt)

u_fits : (w : ℕ) → IsImmediate 32 4096 (u_immediate w)
unfolding u_immediate
u_fits w = (part 31 12 12 w, omega (arith, twenty w), omega arith, refl)

eight : (w : ℕ) → bits 19 12 w < 256
unfolding bits
eight w = mod_below (w / 2 ^ 12) 256 (lit< tt)

bit-20 : (w : ℕ) → bits 20 20 w < 2
unfolding bits
bit-20 w = mod_below (w / 2 ^ 20) 2 (lit< tt)

ten : (w : ℕ) → bits 30 21 w < 1024
unfolding bits
ten w = mod_below (w / 2 ^ 21) 1024 (lit< tt)

j_fits : (w : ℕ) → IsImmediate 21 2 (j_immediate w)
unfolding j_immediate
j_fits w =
    (part 31 31 20 w + part 19 12 12 w + part 20 20 11 w + part 30 21 1 w, omega (arith, top w, eight w, bit-20 w, ten w), omega arith, refl)

amount : (w : ℕ) → bits 25 20 w < 64
unfolding bits
amount w = mod_below (w / 2 ^ 20) 64 (lit< tt)

word_amount : (w : ℕ) → bits 24 20 w < 32
unfolding bits
word_amount w = mod_below (w / 2 ^ 20) 32 (lit< tt)

amount_fits : (w : ℕ) → IsShiftAmount 64 (shift_amount w)
unfolding shift_amount
amount_fits w = (bits 25 20 w, amount w, refl)

word_amount_fits : (w : ℕ) → IsShiftAmount 32 (word_shift_amount w)
unfolding word_shift_amount
word_amount_fits w = (bits 24 20 w, word_amount w, refl)

none_fits : (w : ℕ) → Unit {0}
none_fits w = tt

-- ---- the rows

abbrev EachFits : List Row → Type 0
EachFits [] = Unit {0}
EachFits (row ∷ rows) = ((w : ℕ) → HasImmediate (row.instruction w)) × EachFits rows

one_fits : (b : Bool) (i : Ins) (rest : Option Ins) → HasImmediate i → IfSome rest HasImmediate → IfSome (cond b (Some i) rest) HasImmediate
one_fits true i rest here later = here
one_fits false i rest here later = later

fitted : (rows : List Row) → EachFits rows → (w : ℕ) → IfSome (encoded_in rows w) HasImmediate
unfolding encoded_in
fitted [] each w = tt
fitted (row ∷ rows) each w =
    one_fits (matches w row) (row.instruction w) (encoded_in rows w) (each.0 w) (fitted rows each.1 w)

full_forms_fit : EachFits full_forms
unfolding full_forms
full_forms_fit =
    u_fits also u_fits also j_fits also i_fits also b_fits also b_fits also b_fits
    also b_fits also b_fits also b_fits also i_fits also i_fits also i_fits also i_fits
    also i_fits also i_fits also i_fits also s_fits also s_fits also s_fits also s_fits
    also i_fits also i_fits also i_fits also i_fits also i_fits also i_fits also amount_fits
    also amount_fits also amount_fits also i_fits also word_amount_fits also word_amount_fits also word_amount_fits also none_fits
    also none_fits also none_fits also none_fits also none_fits also none_fits also none_fits also none_fits
    also none_fits also none_fits also none_fits also none_fits also none_fits also none_fits also none_fits
    also none_fits also none_fits also none_fits also none_fits also none_fits also none_fits also none_fits
    also none_fits also none_fits also none_fits also none_fits also none_fits also none_fits also none_fits
    also none_fits also none_fits also none_fits also tt

-- ---- an instruction that a word of four bytes encodes

some-same : (a b : Ins × ℕ) → Some a ≡ Some b → a ≡ b
some-same a b e = cc

long-fits : (found : Option Ins) (i : Ins) → IfSome found HasImmediate → option_map (with_length 4) found ≡ Some (i, 4) → HasImmediate i
long-fits (Some ins) i fits is =
    let same : ins ≡ i = ap (λ (d : Ins × ℕ). d.0) (some-same (ins, 4) (i, 4) is) in
    subst HasImmediate same fits
long-fits None i fits is = cc

short-not-4 : (found : Option Ins) (i : Ins) → option_map (with_length 2) found ≡ Some (i, 4) → ⊥
short-not-4 (Some ins) i is =
    let same : 2 ≡ 4 = ap (λ (d : Ins × ℕ). d.1) (some-same (ins, 2) (i, 4) is) in
    absurd (omega (arith, same))
short-not-4 None i is = cc

either-fits : (long : Bool) (word : ℕ) (i : Ins)
    → cond long (option_map (with_length 4) (encoded_in full_forms word)) (option_map (with_length 2) (encoded_in compressed_forms (word % 2 ^ 16))) ≡ Some (i, 4)
    → HasImmediate i
either-fits true word i is = long-fits (encoded_in full_forms word) i (fitted full_forms full_forms_fit word) is
either-fits false word i is = absurd (short-not-4 (encoded_in compressed_forms (word % 2 ^ 16)) i is)

immediate-of : (word : ℕ) (i : Ins) → decode word ≡ Some (i, 4) → HasImmediate i
unfolding decode
immediate-of word i is = either-fits (word % 4 == 3) word i is

pub full-form-fits : (i : Ins) → HasFullForm i → FitsFormat i
full-form-fits i full = (
  subst (λ (o : Option (Ins × ℕ)). IfSome o (λ d. HasRegisters d.0)) full.2 (decode-registers full.0),
  immediate-of full.0 i full.2,
)
