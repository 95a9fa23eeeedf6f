-- The word that has an instruction's fixed bits and the bits of its operands, by the format of the instruction.
use Rattle.std.proofs.Common.{◌≡◌, ℕ, ◌+◌, ◌*◌, ◌/◌, ◌%◌, ◌^◌, ◌<◌, ℤ, pos, Some, bit_and, bit_or, refl, sym, ap, ◌∙◌, lit<, arith}
use Rattle.std.specs.Option.{option_map}
use Rattle.std.proofs.lemmas.Nat.{and_mask}
use Rattle.std.proofs.lemmas.Nat.Bits.{and_high}
use Rattle.machine_defs.specs.declared.ins.Ins.{Ins}
use Rattle.machine_defs.specs.Instruction.{bits, sign_extended}
use Rattle.machine_defs.specs.Row.{encoded_in}
use Rattle.machine_defs.specs.Decode.{decode, with_length}
use Rattle.machine_defs.specs.Table.{rd, rs1, rs2, i_immediate, s_immediate, b_immediate, u_immediate, j_immediate, shift_amount, word_shift_amount, r_type, i_type, s_type, b_type, u_type, j_type, shift, word_shift, full_forms}
use Rattle.machine_defs.proofs.RowLaws.{joined}
use Rattle.machine_defs.specs.declared.operands.Operands.TheVariants.{Registers, Immediate, Shift, WordShift, Store, Branch, Jump, Upper, Bare}
use Rattle.rv_text.specs.Words.{HasBits}

-- ---- the fields of a word

-- the word with these fields: opcode, rd, funct3, rs1, rs2 and funct7
record Encodes (w op d f3 a b f7 : ℕ) : Type 0 where
  sum : w ≡ op + 128 * d + 4096 * f3 + 32768 * a + 1048576 * b + 33554432 * f7
  opcode : op < 128
  low : op % 4 ≡ 3
  target : d < 32
  minor : f3 < 8
  first : a < 32
  second : b < 32
  major : f7 < 128

w-rd : (w op d f3 a b f7 : ℕ) → Encodes w op d f3 a b f7 → rd w ≡ d
unfolding rd bits
w-rd w op d f3 a b f7 e = omega arith

w-rs1 : (w op d f3 a b f7 : ℕ) → Encodes w op d f3 a b f7 → rs1 w ≡ a
unfolding rs1 bits
w-rs1 w op d f3 a b f7 e = omega arith

w-rs2 : (w op d f3 a b f7 : ℕ) → Encodes w op d f3 a b f7 → rs2 w ≡ b
unfolding rs2 bits
w-rs2 w op d f3 a b f7 e = omega arith

w-opcode : (w op d f3 a b f7 : ℕ) → Encodes w op d f3 a b f7 → bit_and w 0x7f ≡ op
w-opcode w op d f3 a b f7 e = let low : w % 128 ≡ op = omega arith in and_mask w 7 ∙ low

w-minor : (w op d f3 a b f7 : ℕ) → Encodes w op d f3 a b f7 → bit_and w 0x707f ≡ bit_or op (f3 * 4096)
w-minor w op d f3 a b f7 e =
    let middle : w / 4096 % 8 ≡ f3 = omega arith in
    joined w 0x7f 0x7000
    ∙ ap (λ v. bit_or v (bit_and w 0x7000)) (w-opcode w op d f3 a b f7 e)
    ∙ ap (bit_or op) (and_high w 3 12 ∙ ap (λ v. v * 4096) middle)

w-major : (w op d f3 a b f7 : ℕ) → Encodes w op d f3 a b f7
    → bit_and w 0xfe00707f ≡ bit_or (bit_or op (f3 * 4096)) (f7 * 33554432)
w-major w op d f3 a b f7 e =
    let high : w / 33554432 % 128 ≡ f7 = omega arith in
    joined w 0x707f 0xfe000000
    ∙ ap (λ v. bit_or v (bit_and w 0xfe000000)) (w-minor w op d f3 a b f7 e)
    ∙ ap (bit_or (bit_or op (f3 * 4096))) (and_high w 7 25 ∙ ap (λ v. v * 33554432) high)

w-shift : (w op d f3 a b f7 : ℕ) → Encodes w op d f3 a b f7
    → bit_and w 0xfc00707f ≡ bit_or (bit_or op (f3 * 4096)) (f7 / 2 * 67108864)
w-shift w op d f3 a b f7 e =
    let high : w / 67108864 % 64 ≡ f7 / 2 = omega arith in
    joined w 0x707f 0xfc000000
    ∙ ap (λ v. bit_or v (bit_and w 0xfc000000)) (w-minor w op d f3 a b f7 e)
    ∙ ap (bit_or (bit_or op (f3 * 4096))) (and_high w 6 26 ∙ ap (λ v. v * 67108864) high)

-- ---- the forms, by format

abbrev pub IsFullForm : Ins → ℕ → Type 0
IsFullForm i w = (w < 2 ^ 32) × (decode w ≡ Some (i, 4))

full-form : (w op d f3 a b f7 : ℕ) (i : Ins) → Encodes w op d f3 a b f7 → encoded_in full_forms w ≡ Some i → IsFullForm i w
unfolding decode
full-form w op d f3 a b f7 i e found =
    let low : w % 4 ≡ 3 = omega arith in
    (omega arith, rw low (ap (option_map (with_length 4)) found))

pub r_is : (fixed op f3 f7 : ℕ) (form : ℕ → ℕ → ℕ → Ins) → fixed ≡ op + 4096 * f3 + 33554432 * f7 → op < 128 → f3 < 8 → f7 < 128 → op % 4 ≡ 3
    → ((w : ℕ) → bit_and w 0xfe00707f ≡ bit_or (bit_or op (f3 * 4096)) (f7 * 33554432) → encoded_in full_forms w ≡ Some (r_type form w))
    → (d a b bits w : ℕ) → HasBits (Registers d a b) bits → w ≡ (fixed + bits) % 4294967296 → IsFullForm (form d a b) w
r_is fixed op f3 f7 form x o t s low found d a b bits w h sum =
    let e : Encodes w op d f3 a b f7 =
    record { sum = omega (arith, h.0, x, sum, h.1); opcode = o; low = low; target = h.0.first; minor = t; first = h.0.second; second = h.1; major = s } in
    let operands : form (rd w) (rs1 w) (rs2 w) ≡ form d a b =
    ap (λ x. form x (rs1 w) (rs2 w)) (w-rd w op d f3 a b f7 e)
    ∙ ap (λ x. form d x (rs2 w)) (w-rs1 w op d f3 a b f7 e)
    ∙ ap (λ x. form d a x) (w-rs2 w op d f3 a b f7 e) in
    full-form w op d f3 a b f7 (form d a b) e (found w (w-major w op d f3 a b f7 e) ∙ ap Some operands)

w-i : (w op d f3 a b f7 : ℕ) → Encodes w op d f3 a b f7 → i_immediate w ≡ sign_extended 12 (b + 32 * f7)
unfolding i_immediate bits
w-i w op d f3 a b f7 e = let n : w / 1048576 % 4096 ≡ b + 32 * f7 = omega arith in ap (sign_extended 12) n

-- the number and the registers of the formats I and S, and of loads
pub i_is : (fixed op f3 : ℕ) (form : ℕ → ℕ → ℤ → Ins) → fixed ≡ op + 4096 * f3 → op < 128 → f3 < 8 → op % 4 ≡ 3
    → ((w : ℕ) → bit_and w 0x707f ≡ bit_or op (f3 * 4096) → encoded_in full_forms w ≡ Some (i_type form w))
    → (d a : ℕ) (z : ℤ) (bits w : ℕ) → HasBits (Immediate d a z) bits → w ≡ (fixed + bits) % 4294967296 → IsFullForm (form d a z) w
i_is fixed op f3 form x o t low found d a z bits w h sum =
    let n : ℕ = h.0 in
    let bound : n < 4096 = h.1.bound in
    let b : ℕ = n % 32 in
    let f7 : ℕ = n / 32 in
    let e : Encodes w op d f3 a b f7 =
    record { sum = omega (arith, h.2, x, sum, bound); opcode = o; low = low; target = h.2.first; minor = t; first = h.2.second; second = omega arith; major = omega arith } in
    let whole : b + 32 * f7 ≡ n = omega arith in
    let operands : form (rd w) (rs1 w) (i_immediate w) ≡ form d a z =
    ap (λ x. form x (rs1 w) (i_immediate w)) (w-rd w op d f3 a b f7 e)
    ∙ ap (λ x. form d x (i_immediate w)) (w-rs1 w op d f3 a b f7 e)
    ∙ ap (λ x. form d a x) (w-i w op d f3 a b f7 e ∙ ap (sign_extended 12) whole ∙ sym h.1.number) in
    full-form w op d f3 a b f7 (form d a z) e (found w (w-minor w op d f3 a b f7 e) ∙ ap Some operands)

w-s : (w op d f3 a b f7 : ℕ) → Encodes w op d f3 a b f7 → s_immediate w ≡ sign_extended 12 (f7 * 32 + d)
unfolding s_immediate bits
w-s w op d f3 a b f7 e =
    let n : w / 33554432 % 128 * 32 + w / 128 % 32 * 1 ≡ f7 * 32 + d = omega arith in ap (sign_extended 12) n

pub s_is : (fixed op f3 : ℕ) (form : ℕ → ℕ → ℤ → Ins) → fixed ≡ op + 4096 * f3 → op < 128 → f3 < 8 → op % 4 ≡ 3
    → ((w : ℕ) → bit_and w 0x707f ≡ bit_or op (f3 * 4096) → encoded_in full_forms w ≡ Some (s_type form w))
    → (a b : ℕ) (z : ℤ) (bits w : ℕ) → HasBits (Store a b z) bits → w ≡ (fixed + bits) % 4294967296 → IsFullForm (form a b z) w
s_is fixed op f3 form x o t low found a b z bits w h sum =
    let n : ℕ = h.0 in
    let bound : n < 4096 = h.1.bound in
    let d : ℕ = n % 32 in
    let f7 : ℕ = n / 32 in
    let e : Encodes w op d f3 a b f7 =
    record { sum = omega (arith, h.2, x, sum, bound, h.3); opcode = o; low = low; target = omega arith; minor = t; first = h.2.second; second = h.3; major = omega arith } in
    let whole : f7 * 32 + d ≡ n = omega arith in
    let operands : form (rs1 w) (rs2 w) (s_immediate w) ≡ form a b z =
    ap (λ x. form x (rs2 w) (s_immediate w)) (w-rs1 w op d f3 a b f7 e)
    ∙ ap (λ x. form a x (s_immediate w)) (w-rs2 w op d f3 a b f7 e)
    ∙ ap (λ x. form a b x) (w-s w op d f3 a b f7 e ∙ ap (sign_extended 12) whole ∙ sym h.1.number) in
    full-form w op d f3 a b f7 (form a b z) e (found w (w-minor w op d f3 a b f7 e) ∙ ap Some operands)

w-b : (w op d f3 a b f7 : ℕ) → Encodes w op d f3 a b f7
    → b_immediate w ≡ sign_extended 13 (f7 / 64 * 4096 + d % 2 * 2048 + f7 % 64 * 32 + d / 2 * 2)
unfolding b_immediate bits
w-b w op d f3 a b f7 e =
    let n31 : w / 2147483648 % 2 ≡ f7 / 64 = omega arith in
    let n7 : w / 128 % 2 ≡ d % 2 = omega arith in
    let n25 : w / 33554432 % 64 ≡ f7 % 64 = omega arith in
    let n8 : w / 256 % 16 ≡ d / 2 = omega arith in
    rw (n31, n7, n25, n8) refl

pub b_is : (fixed op f3 : ℕ) (form : ℕ → ℕ → ℤ → Ins) → fixed ≡ op + 4096 * f3 → op < 128 → f3 < 8 → op % 4 ≡ 3
    → ((w : ℕ) → bit_and w 0x707f ≡ bit_or op (f3 * 4096) → encoded_in full_forms w ≡ Some (b_type form w))
    → (a b : ℕ) (z : ℤ) (bits w : ℕ) → HasBits (Branch a b z) bits → w ≡ (fixed + bits) % 4294967296 → IsFullForm (form a b z) w
b_is fixed op f3 form x o t low found a b z bits w h sum =
    let n : ℕ = h.0 in
    let bound : n < 8192 = h.1.bound in
    let even : n % 2 ≡ 0 = h.1.whole in
    let d : ℕ = n / 2 % 16 * 2 + n / 2048 % 2 in
    let f7 : ℕ = n / 4096 * 64 + n / 32 % 64 in
    let e : Encodes w op d f3 a b f7 =
    record { sum = omega (arith, h.2, x, sum, bound, h.3); opcode = o; low = low; target = omega arith; minor = t; first = h.2.second; second = h.3; major = omega arith } in
    let whole : f7 / 64 * 4096 + d % 2 * 2048 + f7 % 64 * 32 + d / 2 * 2 ≡ n = omega arith in
    let operands : form (rs1 w) (rs2 w) (b_immediate w) ≡ form a b z =
    ap (λ x. form x (rs2 w) (b_immediate w)) (w-rs1 w op d f3 a b f7 e)
    ∙ ap (λ x. form a x (b_immediate w)) (w-rs2 w op d f3 a b f7 e)
    ∙ ap (λ x. form a b x) (w-b w op d f3 a b f7 e ∙ ap (sign_extended 13) whole ∙ sym h.1.number) in
    full-form w op d f3 a b f7 (form a b z) e (found w (w-minor w op d f3 a b f7 e) ∙ ap Some operands)

w-u : (w op d f3 a b f7 : ℕ) → Encodes w op d f3 a b f7
    → u_immediate w ≡ sign_extended 32 ((f3 + 8 * a + 256 * b + 8192 * f7) * 4096)
unfolding u_immediate bits
w-u w op d f3 a b f7 e =
    let n : w / 4096 % 1048576 ≡ f3 + 8 * a + 256 * b + 8192 * f7 = omega arith in
    ap (λ v. sign_extended 32 (v * 4096)) n

pub u_is : (op : ℕ) (form : ℕ → ℤ → Ins) → op < 128 → op % 4 ≡ 3
    → ((w : ℕ) → bit_and w 0x7f ≡ op → encoded_in full_forms w ≡ Some (u_type form w))
    → (d : ℕ) (z : ℤ) (bits w : ℕ) → HasBits (Upper d z) bits → w ≡ (op + bits) % 4294967296 → IsFullForm (form d z) w
u_is op form o low found d z bits w h sum =
    let n : ℕ = h.0 in
    let bound : n < 4294967296 = h.1.bound in
    let unit : n % 4096 ≡ 0 = h.1.whole in
    let f3 : ℕ = n / 4096 % 8 in
    let a : ℕ = n / 32768 % 32 in
    let b : ℕ = n / 1048576 % 32 in
    let f7 : ℕ = n / 33554432 in
    let e : Encodes w op d f3 a b f7 =
    record { sum = omega (arith, h.2, h.3, sum); opcode = o; low = low; target = h.2; minor = omega arith; first = omega arith; second = omega arith; major = omega arith } in
    let whole : (f3 + 8 * a + 256 * b + 8192 * f7) * 4096 ≡ n = omega arith in
    let operands : form (rd w) (u_immediate w) ≡ form d z =
    ap (λ x. form x (u_immediate w)) (w-rd w op d f3 a b f7 e)
    ∙ ap (λ x. form d x) (w-u w op d f3 a b f7 e ∙ ap (sign_extended 32) whole ∙ sym h.1.number) in
    full-form w op d f3 a b f7 (form d z) e (found w (w-opcode w op d f3 a b f7 e) ∙ ap Some operands)

w-j : (w op d f3 a b f7 : ℕ) → Encodes w op d f3 a b f7
    → j_immediate w ≡ sign_extended 21 (f7 / 64 * 1048576 + (f3 + 8 * a) * 4096 + b % 2 * 2048 + (b / 2 + 16 * (f7 % 64)) * 2)
unfolding j_immediate bits
w-j w op d f3 a b f7 e =
    let n31 : w / 2147483648 % 2 ≡ f7 / 64 = omega arith in
    let n12 : w / 4096 % 256 ≡ f3 + 8 * a = omega arith in
    let n20 : w / 1048576 % 2 ≡ b % 2 = omega arith in
    let n21 : w / 2097152 % 1024 ≡ b / 2 + 16 * (f7 % 64) = omega arith in
    rw (n31, n12, n20, n21) refl

pub j_is : (op : ℕ) (form : ℕ → ℤ → Ins) → op < 128 → op % 4 ≡ 3
    → ((w : ℕ) → bit_and w 0x7f ≡ op → encoded_in full_forms w ≡ Some (j_type form w))
    → (d : ℕ) (z : ℤ) (bits w : ℕ) → HasBits (Jump d z) bits → w ≡ (op + bits) % 4294967296 → IsFullForm (form d z) w
j_is op form o low found d z bits w h sum =
    let n : ℕ = h.0 in
    let bound : n < 2097152 = h.1.bound in
    let even : n % 2 ≡ 0 = h.1.whole in
    let f3 : ℕ = n / 4096 % 8 in
    let a : ℕ = n / 32768 % 32 in
    let b : ℕ = n / 2 % 16 * 2 + n / 2048 % 2 in
    let f7 : ℕ = n / 1048576 * 64 + n / 32 % 64 in
    let e : Encodes w op d f3 a b f7 =
    record { sum = omega (arith, h.2, h.3, sum); opcode = o; low = low; target = h.2; minor = omega arith; first = omega arith; second = omega arith; major = omega arith } in
    let whole : f7 / 64 * 1048576 + (f3 + 8 * a) * 4096 + b % 2 * 2048 + (b / 2 + 16 * (f7 % 64)) * 2 ≡ n = omega arith in
    let operands : form (rd w) (j_immediate w) ≡ form d z =
    ap (λ x. form x (j_immediate w)) (w-rd w op d f3 a b f7 e)
    ∙ ap (λ x. form d x) (w-j w op d f3 a b f7 e ∙ ap (sign_extended 21) whole ∙ sym h.1.number) in
    full-form w op d f3 a b f7 (form d z) e (found w (w-opcode w op d f3 a b f7 e) ∙ ap Some operands)

w-amount : (w op d f3 a b f7 : ℕ) → Encodes w op d f3 a b f7 → shift_amount w ≡ pos (b + 32 * (f7 % 2))
unfolding shift_amount bits
w-amount w op d f3 a b f7 e = let n : w / 1048576 % 64 ≡ b + 32 * (f7 % 2) = omega arith in ap pos n

pub shift_is : (fixed f6 f3 : ℕ) (form : ℕ → ℕ → ℤ → Ins) → fixed ≡ 0x13 + 4096 * f3 + 67108864 * f6 → f6 < 64 → f3 < 8
    → ((w : ℕ) → bit_and w 0xfc00707f ≡ bit_or (bit_or 0x13 (f3 * 4096)) (f6 * 67108864) → encoded_in full_forms w ≡ Some (shift form w))
    → (d a : ℕ) (z : ℤ) (bits w : ℕ) → HasBits (Shift d a z) bits → w ≡ (fixed + bits) % 4294967296 → IsFullForm (form d a z) w
shift_is fixed f6 f3 form x s t found d a z bits w h sum =
    let n : ℕ = h.0 in
    let bound : n < 64 = h.1 in
    let b : ℕ = n % 32 in
    let f7 : ℕ = f6 * 2 + n / 32 in
    let e : Encodes w 0x13 d f3 a b f7 =
    record { sum = omega (arith, h.3, x, sum, bound); opcode = lit< tt; low = refl; target = h.3.first; minor = t; first = h.3.second; second = omega arith; major = omega arith } in
    let whole : b + 32 * (f7 % 2) ≡ n = omega arith in
    let high : f7 / 2 ≡ f6 = omega arith in
    let operands : form (rd w) (rs1 w) (shift_amount w) ≡ form d a z =
    ap (λ x. form x (rs1 w) (shift_amount w)) (w-rd w 0x13 d f3 a b f7 e)
    ∙ ap (λ x. form d x (shift_amount w)) (w-rs1 w 0x13 d f3 a b f7 e)
    ∙ ap (λ x. form d a x) (w-amount w 0x13 d f3 a b f7 e ∙ ap pos whole ∙ sym h.2) in
    full-form w 0x13 d f3 a b f7 (form d a z) e
    (found w (w-shift w 0x13 d f3 a b f7 e ∙ ap (λ v. bit_or (bit_or 0x13 (f3 * 4096)) (v * 67108864)) high) ∙ ap Some operands)

w-word_amount : (w op d f3 a b f7 : ℕ) → Encodes w op d f3 a b f7 → word_shift_amount w ≡ pos b
unfolding word_shift_amount bits
w-word_amount w op d f3 a b f7 e = let n : w / 1048576 % 32 ≡ b = omega arith in ap pos n

pub word_shift_is : (fixed f7 f3 : ℕ) (form : ℕ → ℕ → ℤ → Ins) → fixed ≡ 0x1b + 4096 * f3 + 33554432 * f7 → f7 < 128 → f3 < 8
    → ((w : ℕ) → bit_and w 0xfe00707f ≡ bit_or (bit_or 0x1b (f3 * 4096)) (f7 * 33554432) → encoded_in full_forms w ≡ Some (word_shift form w))
    → (d a : ℕ) (z : ℤ) (bits w : ℕ) → HasBits (WordShift d a z) bits → w ≡ (fixed + bits) % 4294967296 → IsFullForm (form d a z) w
word_shift_is fixed f7 f3 form x s t found d a z bits w h sum =
    let b : ℕ = h.0 in
    let e : Encodes w 0x1b d f3 a b f7 =
    record { sum = omega (arith, h.3, x, sum, h.1); opcode = lit< tt; low = refl; target = h.3.first; minor = t; first = h.3.second; second = h.1; major = s } in
    let operands : form (rd w) (rs1 w) (word_shift_amount w) ≡ form d a z =
    ap (λ x. form x (rs1 w) (word_shift_amount w)) (w-rd w 0x1b d f3 a b f7 e)
    ∙ ap (λ x. form d x (word_shift_amount w)) (w-rs1 w 0x1b d f3 a b f7 e)
    ∙ ap (λ x. form d a x) (w-word_amount w 0x1b d f3 a b f7 e ∙ sym h.2) in
    full-form w 0x1b d f3 a b f7 (form d a z) e (found w (w-major w 0x1b d f3 a b f7 e) ∙ ap Some operands)

pub bare_is : (fixed : ℕ) (i : Ins) → fixed < 4294967296 → fixed % 4 ≡ 3 → encoded_in full_forms fixed ≡ Some i
    → (bits w : ℕ) → HasBits Bare bits → w ≡ (fixed + bits) % 4294967296 → (w ≡ fixed) × IsFullForm i fixed
unfolding decode
bare_is fixed i o low found bits w h sum =
    (omega (arith, h, sum), (o, rw low (ap (option_map (with_length 4)) found)))
