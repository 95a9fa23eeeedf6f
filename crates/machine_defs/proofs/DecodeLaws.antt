-- The laws of decoding: which bytes it reads, and which registers an instruction names.
use Rattle.std.proofs.Common.{◌≡◌, ◌≢◌, ℕ, ◌/◌, ◌%◌, ◌^◌, ◌<◌, Bool, true, false, cond, ◌==◌, List, [], ◌∷◌, Option, Some, None, IfSome, lit<, arith}
use Rattle.std.specs.Option.{option_map}
use Rattle.std.proofs.lemmas.Nat.{mod_below}
use Rattle.machine_defs.specs.declared.ins.Ins.{Ins}
use Rattle.machine_defs.specs.Instruction.{bits, HasRegisters}
use Rattle.machine_defs.specs.Row.{Row, matches, encoded_in}
use Rattle.machine_defs.specs.Table.{rd, rs1, rs2, full_forms}
use Rattle.machine_defs.specs.Compressed.{c_rd, c_rs2, c_short_rs1, c_short_rs2, zero_register, return_address, stack_pointer, compressed_forms}
use Rattle.machine_defs.specs.Decode.{decode, with_length}

-- ---- a compressed form is decoded from its two bytes

-- ---- the registers that an instruction names

below_32 : (n : ℕ) → n % 32 < 32
below_32 n = mod_below n 32 (lit< tt)

pub below-rd : (w : ℕ) → rd w < 32
unfolding rd bits
below-rd w = below_32 (w / 2 ^ 7)

pub below-rs1 : (w : ℕ) → rs1 w < 32
unfolding rs1 bits
below-rs1 w = below_32 (w / 2 ^ 15)

pub below-rs2 : (w : ℕ) → rs2 w < 32
unfolding rs2 bits
below-rs2 w = below_32 (w / 2 ^ 20)

pub below-c_rd : (c : ℕ) → c_rd c < 32
unfolding c_rd bits
below-c_rd c = below_32 (c / 2 ^ 7)

pub below-c_rs2 : (c : ℕ) → c_rs2 c < 32
unfolding c_rs2 bits
below-c_rs2 c = below_32 (c / 2 ^ 2)

pub below-c_short_rs1 : (c : ℕ) → c_short_rs1 c < 32
unfolding c_short_rs1 bits
below-c_short_rs1 c = let small : c / 2 ^ 7 % 8 < 8 = mod_below (c / 2 ^ 7) 8 (lit< tt) in omega arith

pub below-c_short_rs2 : (c : ℕ) → c_short_rs2 c < 32
unfolding c_short_rs2 bits
below-c_short_rs2 c = let small : c / 2 ^ 2 % 8 < 8 = mod_below (c / 2 ^ 2) 8 (lit< tt) in omega arith

-- a fact for each word: what the instructions of a row name
two : {p q : ℕ → ℕ} → ((w : ℕ) → p w < 32) → ((w : ℕ) → q w < 32) → (w : ℕ) → (p w < 32) × (q w < 32)
two p q w = (p w, q w)

three : {p q r : ℕ → ℕ} → ((w : ℕ) → p w < 32) → ((w : ℕ) → q w < 32) → ((w : ℕ) → r w < 32)
    → (w : ℕ) → (p w < 32) × (q w < 32) × (r w < 32)
three p q r w = (p w, q w, r w)

r_names : (w : ℕ) → (rd w < 32) × (rs1 w < 32) × (rs2 w < 32)
r_names = three below-rd below-rs1 below-rs2

i_names : (w : ℕ) → (rd w < 32) × (rs1 w < 32)
i_names = two below-rd below-rs1

s_names : (w : ℕ) → (rs1 w < 32) × (rs2 w < 32)
s_names = two below-rs1 below-rs2

u_names : (w : ℕ) → rd w < 32
u_names = below-rd

no_names : (w : ℕ) → Unit {0}
no_names w = tt

pub below-zero : (w : ℕ) → zero_register < 32
below-zero w = lit< tt

pub below-ra : (w : ℕ) → return_address < 32
below-ra w = lit< tt

pub below-sp : (w : ℕ) → stack_pointer < 32
below-sp w = lit< tt

-- each row's instructions name registers
abbrev pub EachNames : List Row → Type 0
EachNames [] = Unit {0}
EachNames (row ∷ rows) = ((w : ℕ) → HasRegisters (row.instruction w)) × EachNames rows

infixr 5 ◌also◌
pub ◌also◌ : {A B : Type 0} → A → B → A × B
first also rest = (first, rest)

one_names : (b : Bool) (i : Ins) (rest : Option Ins) → HasRegisters i → IfSome rest HasRegisters → IfSome (cond b (Some i) rest) HasRegisters
one_names true i rest here later = here
one_names false i rest here later = later

named : (rows : List Row) → EachNames rows → (w : ℕ) → IfSome (encoded_in rows w) HasRegisters
unfolding encoded_in
named [] each w = tt
named (row ∷ rows) each w =
    one_names (matches w row) (row.instruction w) (encoded_in rows w) (each.0 w) (named rows each.1 w)

full_forms_name : EachNames full_forms
unfolding full_forms
full_forms_name =
    u_names also u_names also u_names also i_names also s_names also s_names also s_names
    also s_names also s_names also s_names also i_names also i_names also i_names also i_names
    also i_names also i_names also i_names also s_names also s_names also s_names also s_names
    also i_names also i_names also i_names also i_names also i_names also i_names also i_names
    also i_names also i_names also i_names also i_names also i_names also i_names also r_names
    also r_names also r_names also r_names also r_names also r_names also r_names also r_names
    also r_names also r_names also r_names also r_names also r_names also r_names also r_names
    also r_names also r_names also r_names also r_names also r_names also r_names also r_names
    also r_names also r_names also r_names also r_names also r_names also r_names also no_names
    also no_names also no_names also no_names also tt

compressed_forms_name : EachNames compressed_forms
unfolding compressed_forms
compressed_forms_name =
    two below-c_short_rs2 below-sp
    also two below-c_short_rs2 below-c_short_rs1
    also two below-c_short_rs2 below-c_short_rs1
    also two below-c_short_rs1 below-c_short_rs2
    also two below-c_short_rs1 below-c_short_rs2
    also two below-c_rd below-c_rd
    also two below-c_rd below-c_rd
    also two below-c_rd below-zero
    also below-zero
    also two below-c_short_rs1 below-zero
    also two below-c_short_rs1 below-zero
    also two below-sp below-sp
    also below-c_rd
    also two below-c_short_rs1 below-c_short_rs1
    also two below-c_short_rs1 below-c_short_rs1
    also two below-c_short_rs1 below-c_short_rs1
    also three below-c_short_rs1 below-c_short_rs1 below-c_short_rs2
    also three below-c_short_rs1 below-c_short_rs1 below-c_short_rs2
    also three below-c_short_rs1 below-c_short_rs1 below-c_short_rs2
    also three below-c_short_rs1 below-c_short_rs1 below-c_short_rs2
    also three below-c_short_rs1 below-c_short_rs1 below-c_short_rs2
    also three below-c_short_rs1 below-c_short_rs1 below-c_short_rs2
    also two below-c_rd below-c_rd
    also two below-c_rd below-sp
    also two below-c_rd below-sp
    also two below-sp below-c_rs2
    also two below-sp below-c_rs2
    also two below-zero below-c_rd
    also three below-c_rd below-zero below-c_rs2
    also no_names
    also two below-ra below-c_rd
    also three below-c_rd below-c_rd below-c_rs2
    also tt

with_registers : (length : ℕ) (i : Option Ins) → IfSome i HasRegisters → IfSome (option_map (with_length length) i) (λ d. HasRegisters d.0)
with_registers length (Some i) h = h
with_registers length None h = tt

either : (b : Bool) (long short : Option (Ins × ℕ)) → IfSome long (λ d. HasRegisters d.0) → IfSome short (λ d. HasRegisters d.0)
    → IfSome (cond b long short) (λ d. HasRegisters d.0)
either true long short h h' = h
either false long short h h' = h'

pub decode-registers : (word : ℕ) → IfSome (decode word) (λ d. HasRegisters d.0)
unfolding decode
decode-registers word =
    either (word % 4 == 3) _ _
    (with_registers 4 (encoded_in full_forms word) (named full_forms full_forms_name word))
    (with_registers 2 (encoded_in compressed_forms (word % 2 ^ 16)) (named compressed_forms compressed_forms_name (word % 2 ^ 16)))
