-- The decimal digits of numbers.
use Rattle.std.proofs.Common.{◌≡◌, ℕ, ◌+◌, ◌/◌, ◌%◌, ◌<◌, ◌≤◌, List, [], ◌∷◌, ◌++◌, length, sym, ap, ◌∙◌, lit<, arith, length-append, append_assoc}
use Rattle.std.specs.Fmt.{decimal}
use Rattle.std.proofs.lemmas.Fmt.{length-decimal-le, decimal_step, decimal_digit}

pub twenty-digits : (n : ℕ) → n < 18446744073709551616 → length (decimal n) ≤ 20
twenty-digits n h = length-decimal-le 20 n (lit< tt) (omega arith) h

-- a number of two digits or more has one digit more than its tenth
pub one-more-digit : (n : ℕ) → 10 ≤ n → n < 18446744073709551616 → length (decimal n) ≡ length (decimal (n / 10)) + 1
one-more-digit n h k = ap length (decimal_step n h k) ∙ length-append (decimal (n / 10)) ((48 + n % 10) ∷ [])

pub one-digit : (n : ℕ) → n < 10 → length (decimal n) ≡ 1
one-digit n h = ap length (decimal_digit n h)

pub appended-tenth : (old middle new : List ℕ) (n : ℕ) → 10 ≤ n → n < 18446744073709551616 → middle ≡ old ++ decimal (n / 10)
    → new ≡ middle ++ ((48 + n % 10) ∷ []) → new ≡ old ++ decimal n
appended-tenth old middle new n h k m e =
    e ∙ ap (λ x. x ++ ((48 + n % 10) ∷ [])) m ∙ append_assoc old (decimal (n / 10)) ((48 + n % 10) ∷ []) ∙ ap (λ x. old ++ x) (sym (decimal_step n h k))

pub appended-digit : (old middle new : List ℕ) (n : ℕ) → n < 10 → middle ≡ old → new ≡ middle ++ ((48 + n % 10) ∷ []) → new ≡ old ++ decimal n
appended-digit old middle new n h m e =
    let d : n % 10 ≡ n = omega arith in
    e ∙ ap (λ x. x ++ ((48 + n % 10) ∷ [])) m ∙ ap (λ x. old ++ ((48 + x) ∷ [])) d ∙ ap (λ x. old ++ x) (sym (decimal_digit n h))
