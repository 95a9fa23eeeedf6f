-- The hex digits of a number, written from the last one on.
use Rattle.std.proofs.Common.{◌≡◌, ℕ, zero, suc, ◌-◌, ◌/◌, ◌%◌, ◌<◌, ◌≤◌, Bool, true, false, List, [], ◌∷◌, length, drop, set, refl, ap, ◌∙◌, arith, length-set, drop-cons, get_or-set_same, drop-set-lt, eq-eqb, ne_eqb}
use Rattle.std.specs.Prelude.{◌==◌, if◌then◌else◌}
use Rattle.std.specs.Fmt.{digits, digits_onto, digit_glyph}

pub all_digits : (n : ℕ) → digits_onto 64 16 false n [] ≡ digits 16 false n
unfolding digits
all_digits n = refl

by_test : (n : ℕ) (s : List ℕ) (k : ℕ) (t : Bool) → (n / 16 == 0) ≡ t
    → digits_onto (suc k) 16 false n s ≡ (if t then digit_glyph false (n % 16) ∷ s else digits_onto k 16 false (n / 16) (digit_glyph false (n % 16) ∷ s))
by_test n s k t is = ap (λ (b : Bool). if b then digit_glyph false (n % 16) ∷ s else digits_onto k 16 false (n / 16) (digit_glyph false (n % 16) ∷ s)) is

-- no digit is left
pub digits_end : (n : ℕ) (s : List ℕ) (i : ℕ) → 0 < i → n / 16 ≡ 0 → digits_onto i 16 false n s ≡ digit_glyph false (n % 16) ∷ s
digits_end n s zero some none = absurd (omega arith)
digits_end n s (suc k) some none = by_test n s k true (eq-eqb _ 0 none)

-- further digits are left
pub digits_go_on : (n : ℕ) (s : List ℕ) (i : ℕ) → 0 < i → (n / 16 ≡ 0 → ⊥)
    → digits_onto i 16 false n s ≡ digits_onto (i - 1) 16 false (n / 16) (digit_glyph false (n % 16) ∷ s)
digits_go_on n s zero some more = absurd (omega arith)
digits_go_on n s (suc k) some more =
    by_test n s k false (ne_eqb _ 0 more)
    ∙ ap (λ (j : ℕ). digits_onto j 16 false (n / 16) (digit_glyph false (n % 16) ∷ s)) {x = k} {y = suc k - 1} (omega arith)

-- what is written before i stands before the rest
pub drop-set-before : (text : List ℕ) (i x y : ℕ) → 0 < i → i ≤ length text → x ≡ y → drop (i - 1) (set text (i - 1) x) ≡ y ∷ drop i text
drop-set-before text zero x y some within is = absurd (omega arith)
drop-set-before text (suc j) x y some within is =
    ap (λ (m : ℕ). drop m (set text m x)) {x = suc j - 1} {y = j} (omega arith)
    ∙ drop-cons (set text j x) j 0 (omega (arith, length-set text j x))
    ∙ ap (λ (c : ℕ). c ∷ drop (suc j) (set text j x)) (get_or-set_same text j x 0 within ∙ is)
    ∙ ap (λ (l : List ℕ). y ∷ l) (drop-set-lt (suc j) text j x (omega arith))
