-- The bits of a number by its width, and by the half of what the bits can hold.
use Rattle.std.proofs.Common.{◌≡◌, ℕ, ℤ, ◌+◌, ◌-◌, ◌%◌, ◌^◌, ◌<◌, Option, Some, None, MatchOption, refl, sym, ◌∙◌, arith}
use Rattle.std.specs.Prelude.{◌≢◌}
use Rattle.machine_defs.specs.Instruction.{sign_extended, IsImmediate}
use Rattle.rv_text.specs.Words.{AreBitsOf, extended}

pub extended-is : (width half n : ℕ) → 2 ^ (width - 1) ≡ half → 2 ^ width ≡ half + half → sign_extended width n ≡ extended half n
unfolding sign_extended
extended-is width half n e f = rw (e, f) refl

pub by_width : (width half unit : ℕ) (imm : ℤ) (r : Option ℕ) → 2 ^ (width - 1) ≡ half → 2 ^ width ≡ half + half
    → MatchOption r ((n : ℕ) → n < half + half → n % unit ≡ 0 → imm ≢ extended half n)
    (λ n. (n < half + half) × (n % unit ≡ 0) × (imm ≡ extended half n))
    → MatchOption r (¬ IsImmediate width unit imm) (λ n. AreBitsOf width unit imm n)
by_width width half unit imm None e f none =
    λ h. none h.0 (let b : h.0 < 2 ^ width = h.1 in omega (arith, f)) h.2 (h.3 ∙ extended-is width half h.0 e f)
by_width width half unit imm (Some n) e f some =
    record { bound = omega (arith, f, some.0); whole = some.1; number = some.2 ∙ sym (extended-is width half n e f) }
