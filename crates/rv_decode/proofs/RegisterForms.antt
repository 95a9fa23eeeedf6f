-- How the masks of C.JR, C.MV, C.EBREAK, C.JALR and C.ADD lie in one another.
use Rattle.std.proofs.Common.{◌≡◌, ℕ, bit_and, bit_or, refl, ap, ◌∙◌}
use Rattle.machine_defs.proofs.RowLaws.{implied, joined}

-- no rs2 where the half is a jump's or EBREAK's
pub no_rs2 : (w : ℕ) → bit_and w 0xf07f ≡ 0x8002 → bit_and w 0x7c ≡ 0
no_rs2 w e = implied w 0xf07f 0x8002 0x7c e refl

pub no_rs2' : (w : ℕ) → bit_and w 0xf07f ≡ 0x9002 → bit_and w 0x7c ≡ 0
no_rs2' w e = implied w 0xf07f 0x9002 0x7c e refl

pub ebreak_rs2 : (w : ℕ) → bit_and w 0xffff ≡ 0x9002 → bit_and w 0x7c ≡ 0
ebreak_rs2 w e = implied w 0xffff 0x9002 0x7c e refl

pub ebreak_rd : (w : ℕ) → bit_and w 0xffff ≡ 0x9002 → bit_and w 0xf80 ≡ 0
ebreak_rd w e = implied w 0xffff 0x9002 0xf80 e refl

pub ebreak_jump : (w : ℕ) → bit_and w 0xffff ≡ 0x9002 → bit_and w 0xf07f ≡ 0x9002
ebreak_jump w e = implied w 0xffff 0x9002 0xf07f e refl

pub jump_ebreak : (w : ℕ) → bit_and w 0xf07f ≡ 0x9002 → bit_and w 0xf80 ≡ 0 → bit_and w 0xffff ≡ 0x9002
jump_ebreak w jump rd = joined w 0xf07f 0xf80 ∙ ap (λ v. bit_or v (bit_and w 0xf80)) jump ∙ ap (bit_or 0x9002) rd

pub ruleset register_masks = (no_rs2, no_rs2', ebreak_rs2, ebreak_rd, ebreak_jump, jump_ebreak)
