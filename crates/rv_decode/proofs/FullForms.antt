-- Each instruction with operands that fit its form is given by some word of four bytes. So is what a
-- compressed form stands for.
use Rattle.std.proofs.Common.{◌≡◌, ℕ, ◌+◌, ◌*◌, ◌/◌, ◌%◌, ◌^◌, ◌<◌, ℤ, pos, Some, bit_and, bit_or, refl, ap, ◌∙◌, lit<, arith}
use Rattle.std.proofs.lemmas.Nat.{and_mask}
use Rattle.std.proofs.lemmas.Nat.Bits.{and_high}
use Rattle.machine_defs.specs.declared.ins.Ins.{Ins}
use Rattle.machine_defs.specs.Instruction.{bits, sign_extended}
use Rattle.machine_defs.specs.Row.{encoded_in}
use Rattle.machine_defs.specs.Table.{rd, rs1, rs2, i_immediate, s_immediate, b_immediate, u_immediate, j_immediate, shift_amount, r_type, i_type, s_type, b_type, u_type, j_type, shift, full_forms}
use Rattle.machine_defs.proofs.RowLaws.{joined}

-- ---- the fields of a word

-- the word with these fields: opcode, rd, funct3, rs1, rs2 and funct7
pub record Encodes (w op d f3 a b f7 : ℕ) : Type 0 where
  pub sum : w ≡ op + 128 * d + 4096 * f3 + 32768 * a + 1048576 * b + 33554432 * f7
  pub opcode : op < 128
  pub target : d < 32
  pub minor : f3 < 8
  pub first : a < 32
  pub second : b < 32
  pub major : f7 < 128

w-rd : (w op d f3 a b f7 : ℕ) → Encodes w op d f3 a b f7 → rd w ≡ d
unfolding rd bits
w-rd w op d f3 a b f7 e = omega arith

w-rs1 : (w op d f3 a b f7 : ℕ) → Encodes w op d f3 a b f7 → rs1 w ≡ a
unfolding rs1 bits
w-rs1 w op d f3 a b f7 e = omega arith

w-rs2 : (w op d f3 a b f7 : ℕ) → Encodes w op d f3 a b f7 → rs2 w ≡ b
unfolding rs2 bits
w-rs2 w op d f3 a b f7 e = omega arith

w-opcode : (w op d f3 a b f7 : ℕ) → Encodes w op d f3 a b f7 → bit_and w 0x7f ≡ op
w-opcode w op d f3 a b f7 e = let low : w % 128 ≡ op = omega arith in and_mask w 7 ∙ low

w-minor : (w op d f3 a b f7 : ℕ) → Encodes w op d f3 a b f7 → bit_and w 0x707f ≡ bit_or op (f3 * 4096)
w-minor w op d f3 a b f7 e =
    let middle : w / 4096 % 8 ≡ f3 = omega arith in
    joined w 0x7f 0x7000
    ∙ ap (λ v. bit_or v (bit_and w 0x7000)) (w-opcode w op d f3 a b f7 e)
    ∙ ap (bit_or op) (and_high w 3 12 ∙ ap (λ v. v * 4096) middle)

w-major : (w op d f3 a b f7 : ℕ) → Encodes w op d f3 a b f7
    → bit_and w 0xfe00707f ≡ bit_or (bit_or op (f3 * 4096)) (f7 * 33554432)
w-major w op d f3 a b f7 e =
    let high : w / 33554432 % 128 ≡ f7 = omega arith in
    joined w 0x707f 0xfe000000
    ∙ ap (λ v. bit_or v (bit_and w 0xfe000000)) (w-minor w op d f3 a b f7 e)
    ∙ ap (bit_or (bit_or op (f3 * 4096))) (and_high w 7 25 ∙ ap (λ v. v * 33554432) high)

w-shift : (w op d f3 a b f7 : ℕ) → Encodes w op d f3 a b f7
    → bit_and w 0xfc00707f ≡ bit_or (bit_or op (f3 * 4096)) (f7 / 2 * 67108864)
w-shift w op d f3 a b f7 e =
    let high : w / 67108864 % 64 ≡ f7 / 2 = omega arith in
    joined w 0x707f 0xfc000000
    ∙ ap (λ v. bit_or v (bit_and w 0xfc000000)) (w-minor w op d f3 a b f7 e)
    ∙ ap (bit_or (bit_or op (f3 * 4096))) (and_high w 6 26 ∙ ap (λ v. v * 67108864) high)

-- ---- the forms, by format

abbrev pub IsGiven : Ins → Type 0
IsGiven i = (w : ℕ) × (w < 2 ^ 32) × (w % 4 ≡ 3) × (encoded_in full_forms w ≡ Some i)

pub given : (w op d f3 a b f7 : ℕ) (i : Ins) → Encodes w op d f3 a b f7 → op % 4 ≡ 3 → encoded_in full_forms w ≡ Some i → IsGiven i
given w op d f3 a b f7 i e low found = (w, omega arith, omega arith, found)

abbrev pub word_of : ℕ → ℕ → ℕ → ℕ → ℕ → ℕ → ℕ
word_of op d f3 a b f7 = op + 128 * d + 4096 * f3 + 32768 * a + 1048576 * b + 33554432 * f7

pub r_given : (op f3 f7 : ℕ) (form : ℕ → ℕ → ℕ → Ins) → op < 128 → f3 < 8 → f7 < 128 → op % 4 ≡ 3
    → ((w : ℕ) → bit_and w 0xfe00707f ≡ bit_or (bit_or op (f3 * 4096)) (f7 * 33554432) → encoded_in full_forms w ≡ Some (r_type form w))
    → (d a b : ℕ) → d < 32 → a < 32 → b < 32 → IsGiven (form d a b)
r_given op f3 f7 form o t s low found d a b hd ha hb =
    let w : ℕ = word_of op d f3 a b f7 in
    let e : Encodes w op d f3 a b f7 =
    record { sum = refl; opcode = o; target = hd; minor = t; first = ha; second = hb; major = s } in
    let operands : form (rd w) (rs1 w) (rs2 w) ≡ form d a b =
    ap (λ x. form x (rs1 w) (rs2 w)) (w-rd w op d f3 a b f7 e)
    ∙ ap (λ x. form d x (rs2 w)) (w-rs1 w op d f3 a b f7 e)
    ∙ ap (λ x. form d a x) (w-rs2 w op d f3 a b f7 e) in
    given w op d f3 a b f7 (form d a b) e low (found w (w-major w op d f3 a b f7 e) ∙ ap Some operands)

w-i : (w op d f3 a b f7 : ℕ) → Encodes w op d f3 a b f7 → i_immediate w ≡ sign_extended 12 (b + 32 * f7)
unfolding i_immediate bits
w-i w op d f3 a b f7 e = let n : w / 1048576 % 4096 ≡ b + 32 * f7 = omega arith in ap (sign_extended 12) n

pub i_given : (op f3 : ℕ) (form : ℕ → ℕ → ℤ → Ins) → op < 128 → f3 < 8 → op % 4 ≡ 3
    → ((w : ℕ) → bit_and w 0x707f ≡ bit_or op (f3 * 4096) → encoded_in full_forms w ≡ Some (i_type form w))
    → (d a n : ℕ) (z : ℤ) → d < 32 → a < 32 → n < 4096 → sign_extended 12 n ≡ z → IsGiven (form d a z)
i_given op f3 form o t low found d a n z hd ha hn hz =
    let b : ℕ = n % 32 in
    let f7 : ℕ = n / 32 in
    let w : ℕ = word_of op d f3 a b f7 in
    let e : Encodes w op d f3 a b f7 =
    record { sum = refl; opcode = o; target = hd; minor = t; first = ha; second = omega arith; major = omega arith } in
    let whole : b + 32 * f7 ≡ n = omega arith in
    let operands : form (rd w) (rs1 w) (i_immediate w) ≡ form d a z =
    ap (λ x. form x (rs1 w) (i_immediate w)) (w-rd w op d f3 a b f7 e)
    ∙ ap (λ x. form d x (i_immediate w)) (w-rs1 w op d f3 a b f7 e)
    ∙ ap (λ x. form d a x) (w-i w op d f3 a b f7 e ∙ ap (sign_extended 12) whole ∙ hz) in
    given w op d f3 a b f7 (form d a z) e low (found w (w-minor w op d f3 a b f7 e) ∙ ap Some operands)

w-s : (w op d f3 a b f7 : ℕ) → Encodes w op d f3 a b f7 → s_immediate w ≡ sign_extended 12 (f7 * 32 + d)
unfolding s_immediate bits
w-s w op d f3 a b f7 e =
    let n : w / 33554432 % 128 * 32 + w / 128 % 32 * 1 ≡ f7 * 32 + d = omega arith in ap (sign_extended 12) n

pub s_given : (op f3 : ℕ) (form : ℕ → ℕ → ℤ → Ins) → op < 128 → f3 < 8 → op % 4 ≡ 3
    → ((w : ℕ) → bit_and w 0x707f ≡ bit_or op (f3 * 4096) → encoded_in full_forms w ≡ Some (s_type form w))
    → (a b n : ℕ) (z : ℤ) → a < 32 → b < 32 → n < 4096 → sign_extended 12 n ≡ z → IsGiven (form a b z)
s_given op f3 form o t low found a b n z ha hb hn hz =
    let d : ℕ = n % 32 in
    let f7 : ℕ = n / 32 in
    let w : ℕ = word_of op d f3 a b f7 in
    let e : Encodes w op d f3 a b f7 =
    record { sum = refl; opcode = o; target = omega arith; minor = t; first = ha; second = hb; major = omega arith } in
    let whole : f7 * 32 + d ≡ n = omega arith in
    let operands : form (rs1 w) (rs2 w) (s_immediate w) ≡ form a b z =
    ap (λ x. form x (rs2 w) (s_immediate w)) (w-rs1 w op d f3 a b f7 e)
    ∙ ap (λ x. form a x (s_immediate w)) (w-rs2 w op d f3 a b f7 e)
    ∙ ap (λ x. form a b x) (w-s w op d f3 a b f7 e ∙ ap (sign_extended 12) whole ∙ hz) in
    given w op d f3 a b f7 (form a b z) e low (found w (w-minor w op d f3 a b f7 e) ∙ ap Some operands)

w-b : (w op d f3 a b f7 : ℕ) → Encodes w op d f3 a b f7
    → b_immediate w ≡ sign_extended 13 (f7 / 64 * 4096 + d % 2 * 2048 + f7 % 64 * 32 + d / 2 * 2)
unfolding b_immediate bits
w-b w op d f3 a b f7 e =
    let n31 : w / 2147483648 % 2 ≡ f7 / 64 = omega arith in
    let n7 : w / 128 % 2 ≡ d % 2 = omega arith in
    let n25 : w / 33554432 % 64 ≡ f7 % 64 = omega arith in
    let n8 : w / 256 % 16 ≡ d / 2 = omega arith in
    rw (n31, n7, n25, n8) refl

pub b_given : (op f3 : ℕ) (form : ℕ → ℕ → ℤ → Ins) → op < 128 → f3 < 8 → op % 4 ≡ 3
    → ((w : ℕ) → bit_and w 0x707f ≡ bit_or op (f3 * 4096) → encoded_in full_forms w ≡ Some (b_type form w))
    → (a b n : ℕ) (z : ℤ) → a < 32 → b < 32 → n < 8192 → n % 2 ≡ 0 → sign_extended 13 n ≡ z → IsGiven (form a b z)
b_given op f3 form o t low found a b n z ha hb hn even hz =
    let d : ℕ = n / 2 % 16 * 2 + n / 2048 % 2 in
    let f7 : ℕ = n / 4096 * 64 + n / 32 % 64 in
    let w : ℕ = word_of op d f3 a b f7 in
    let e : Encodes w op d f3 a b f7 =
    record { sum = refl; opcode = o; target = omega arith; minor = t; first = ha; second = hb; major = omega arith } in
    let whole : f7 / 64 * 4096 + d % 2 * 2048 + f7 % 64 * 32 + d / 2 * 2 ≡ n = omega arith in
    let operands : form (rs1 w) (rs2 w) (b_immediate w) ≡ form a b z =
    ap (λ x. form x (rs2 w) (b_immediate w)) (w-rs1 w op d f3 a b f7 e)
    ∙ ap (λ x. form a x (b_immediate w)) (w-rs2 w op d f3 a b f7 e)
    ∙ ap (λ x. form a b x) (w-b w op d f3 a b f7 e ∙ ap (sign_extended 13) whole ∙ hz) in
    given w op d f3 a b f7 (form a b z) e low (found w (w-minor w op d f3 a b f7 e) ∙ ap Some operands)

w-u : (w op d f3 a b f7 : ℕ) → Encodes w op d f3 a b f7
    → u_immediate w ≡ sign_extended 32 ((f3 + 8 * a + 256 * b + 8192 * f7) * 4096)
unfolding u_immediate bits
w-u w op d f3 a b f7 e =
    let n : w / 4096 % 1048576 ≡ f3 + 8 * a + 256 * b + 8192 * f7 = omega arith in
    ap (λ v. sign_extended 32 (v * 4096)) n

pub u_given : (op : ℕ) (form : ℕ → ℤ → Ins) → op < 128 → op % 4 ≡ 3
    → ((w : ℕ) → bit_and w 0x7f ≡ op → encoded_in full_forms w ≡ Some (u_type form w))
    → (d n : ℕ) (z : ℤ) → d < 32 → n < 1048576 → sign_extended 32 (n * 4096) ≡ z → IsGiven (form d z)
u_given op form o low found d n z hd hn hz =
    let f3 : ℕ = n % 8 in
    let a : ℕ = n / 8 % 32 in
    let b : ℕ = n / 256 % 32 in
    let f7 : ℕ = n / 8192 in
    let w : ℕ = word_of op d f3 a b f7 in
    let e : Encodes w op d f3 a b f7 =
    record { sum = refl; opcode = o; target = hd; minor = omega arith; first = omega arith; second = omega arith; major = omega arith } in
    let whole : f3 + 8 * a + 256 * b + 8192 * f7 ≡ n = omega arith in
    let operands : form (rd w) (u_immediate w) ≡ form d z =
    ap (λ x. form x (u_immediate w)) (w-rd w op d f3 a b f7 e)
    ∙ ap (λ x. form d x) (w-u w op d f3 a b f7 e ∙ ap (λ v. sign_extended 32 (v * 4096)) whole ∙ hz) in
    given w op d f3 a b f7 (form d z) e low (found w (w-opcode w op d f3 a b f7 e) ∙ ap Some operands)

w-j : (w op d f3 a b f7 : ℕ) → Encodes w op d f3 a b f7
    → j_immediate w ≡ sign_extended 21 (f7 / 64 * 1048576 + (f3 + 8 * a) * 4096 + b % 2 * 2048 + (b / 2 + 16 * (f7 % 64)) * 2)
unfolding j_immediate bits
w-j w op d f3 a b f7 e =
    let n31 : w / 2147483648 % 2 ≡ f7 / 64 = omega arith in
    let n12 : w / 4096 % 256 ≡ f3 + 8 * a = omega arith in
    let n20 : w / 1048576 % 2 ≡ b % 2 = omega arith in
    let n21 : w / 2097152 % 1024 ≡ b / 2 + 16 * (f7 % 64) = omega arith in
    rw (n31, n12, n20, n21) refl

pub j_given : (op : ℕ) (form : ℕ → ℤ → Ins) → op < 128 → op % 4 ≡ 3
    → ((w : ℕ) → bit_and w 0x7f ≡ op → encoded_in full_forms w ≡ Some (j_type form w))
    → (d n : ℕ) (z : ℤ) → d < 32 → n < 2097152 → n % 2 ≡ 0 → sign_extended 21 n ≡ z → IsGiven (form d z)
j_given op form o low found d n z hd hn even hz =
    let f3 : ℕ = n / 4096 % 8 in
    let a : ℕ = n / 32768 % 32 in
    let b : ℕ = n / 2 % 16 * 2 + n / 2048 % 2 in
    let f7 : ℕ = n / 1048576 * 64 + n / 32 % 64 in
    let w : ℕ = word_of op d f3 a b f7 in
    let e : Encodes w op d f3 a b f7 =
    record { sum = refl; opcode = o; target = hd; minor = omega arith; first = omega arith; second = omega arith; major = omega arith } in
    let whole : f7 / 64 * 1048576 + (f3 + 8 * a) * 4096 + b % 2 * 2048 + (b / 2 + 16 * (f7 % 64)) * 2 ≡ n = omega arith in
    let operands : form (rd w) (j_immediate w) ≡ form d z =
    ap (λ x. form x (j_immediate w)) (w-rd w op d f3 a b f7 e)
    ∙ ap (λ x. form d x) (w-j w op d f3 a b f7 e ∙ ap (sign_extended 21) whole ∙ hz) in
    given w op d f3 a b f7 (form d z) e low (found w (w-opcode w op d f3 a b f7 e) ∙ ap Some operands)

w-amount : (w op d f3 a b f7 : ℕ) → Encodes w op d f3 a b f7 → shift_amount w ≡ pos (b + 32 * (f7 % 2))
unfolding shift_amount bits
w-amount w op d f3 a b f7 e = let n : w / 1048576 % 64 ≡ b + 32 * (f7 % 2) = omega arith in ap pos n

pub shift_given : (f6 f3 : ℕ) (form : ℕ → ℕ → ℤ → Ins) → f6 < 64 → f3 < 8
    → ((w : ℕ) → bit_and w 0xfc00707f ≡ bit_or (bit_or 0x13 (f3 * 4096)) (f6 * 67108864) → encoded_in full_forms w ≡ Some (shift form w))
    → (d a n : ℕ) → d < 32 → a < 32 → n < 64 → IsGiven (form d a (pos n))
shift_given f6 f3 form s t found d a n hd ha hn =
    let b : ℕ = n % 32 in
    let f7 : ℕ = f6 * 2 + n / 32 in
    let w : ℕ = word_of 0x13 d f3 a b f7 in
    let e : Encodes w 0x13 d f3 a b f7 =
    record { sum = refl; opcode = lit< tt; target = hd; minor = t; first = ha; second = omega arith; major = omega arith } in
    let whole : b + 32 * (f7 % 2) ≡ n = omega arith in
    let high : f7 / 2 ≡ f6 = omega arith in
    let operands : form (rd w) (rs1 w) (shift_amount w) ≡ form d a (pos n) =
    ap (λ x. form x (rs1 w) (shift_amount w)) (w-rd w 0x13 d f3 a b f7 e)
    ∙ ap (λ x. form d x (shift_amount w)) (w-rs1 w 0x13 d f3 a b f7 e)
    ∙ ap (λ x. form d a x) (w-amount w 0x13 d f3 a b f7 e ∙ ap pos whole) in
    given w 0x13 d f3 a b f7 (form d a (pos n)) e refl
    (found w (w-shift w 0x13 d f3 a b f7 e ∙ ap (λ v. bit_or (bit_or 0x13 (f3 * 4096)) (v * 67108864)) high) ∙ ap Some operands)
