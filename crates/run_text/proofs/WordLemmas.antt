-- Which words a number is read from.
use Rattle.std.proofs.Common.{◌≡◌, ◌≢◌, ◌⊎◌, inl, inr, ℕ, zero, suc, ◌^◌, ◌≤◌, ◌<◌, Bool, true, false, ◌&&◌, ◌||◌, List, length, get_or, refl, ap, sym, subst, ◌∙◌, arith}
use Rattle.std.specs.Prelude.{Option, Some, None, Result, Ok, Err, ◌==◌, nat_lt}
use Rattle.std.specs.Str.Parse.{AllDigits, digits_value, ParsesUnsigned}
use Rattle.std.specs.Fmt.{decimal}
use Rattle.std.proofs.lemmas.Fmt.{decimal_digit, first_decimal, parse-decimal, decimal-digits_value, decimal_injective}
use Rattle.std.proofs.lemmas.Str.Parse.{IsNumeralModel, numerals_by_value, tells_digits, parse_plain}
use Rattle.std.proofs.lemmas.Bool.Decides.{nat_tests}
use Rattle.report_defs.specs.Words.{number_up_to}
use Rattle.report_defs.proofs.WordLaws.{number_up_to-only}
use Rattle.run_text.specs.Words.{is_padded}

own : IsNumeralModel (AllDigits 10) (digits_value 10)
own = numerals_by_value (AllDigits 10) tells_digits

-- ---- Padding

either : (a b c : Bool) → (a || (b && c)) ≡ true → (a ≡ true) ⊎ ((b ≡ true) × (c ≡ true))
either true b c e = inl refl
either false true true e = inr (refl, refl)
either false true false e = absurd (cc)
either false false c e = absurd (cc)

is_same : (a b : ℕ) → (a == b) ≡ true → a ≡ b
is_same a b e = grind (arith, nat_tests)

padded_front : (word : List ℕ) → is_padded word ≡ true → (get_or word 0 0 ≡ 43) ⊎ (get_or word 0 0 ≡ 48)
padded_front word padded =
    elim (either (get_or word 0 0 == 43) (get_or word 0 0 == 48) (nat_lt 1 (length word)) padded) [
      | inl plus ↦ inl (is_same (get_or word 0 0) 43 plus)
      | inr both ↦ inr (is_same (get_or word 0 0) 48 both.0)
    ]

unpadded_front : (word : List ℕ) → is_padded word ≡ false → (get_or word 0 0 ≢ 43) × (get_or word 0 0 ≡ 48 → 0 < length word → length word ≡ 1)
unpadded_front word plain = (λ e. grind (arith, nat_tests), λ e some. grind (arith, nat_tests))

zero_is_plain : (word : List ℕ) → word ≡ decimal 0 → is_padded word ≡ false
zero_is_plain word is = rw (is, decimal_digit 0 (omega arith)) refl

-- no number is written with padding
pub padded_is_none : (word : List ℕ) → is_padded word ≡ true → (number : ℕ) → word ≡ decimal number → number < 2 ^ 64 → ⊥
padded_is_none word padded zero is fits = let plain : is_padded word ≡ false = zero_is_plain word is in cc
padded_is_none word padded (suc n) is fits =
    let first : 48 < get_or word 0 0 = rw is (first_decimal (suc n) (omega arith) (omega arith)) in
    elim (padded_front word padded) [ inl plus ↦ omega arith | inr digit ↦ omega arith ]

-- ---- What is read from a word

pub parsed : {E : Type 0} (word : List ℕ) (read : Result ℕ E) (number : ℕ) → is_padded word ≡ false → ParsesUnsigned 64 10 word read → read ≡ Ok number
    → (word ≡ decimal number) × (number < 2 ^ 64)
parsed {E} word read number plain parses is =
    let front = unpadded_front word plain in
    let reads = parse_plain own {E = E} 64 word (Ok number) (subst (λ (r : Result ℕ E). ParsesUnsigned 64 10 word r) is parses) front.0 in (
      sym (ap decimal reads.1 ∙ decimal-digits_value own word reads.0.0 reads.0.1 (λ zero. front.1 zero reads.0.1) reads.0.2),
      rw reads.1 reads.0.2,
    )

pub unparsed : {E : Type 0} (word : List ℕ) (error : E) → ParsesUnsigned 64 10 word (Err error) → (number : ℕ) → word ≡ decimal number → number < 2 ^ 64 → ⊥
unparsed {E} word error parses number is fits =
    let reads : Err error ≡ Ok number = parse-decimal 64 number word (Err error) (omega arith) (omega arith) is parses in
    cc

pub too_great : (limit : ℕ) (word : List ℕ) (read : ℕ) → word ≡ decimal read → read < 2 ^ 64 → limit < read
    → (number : ℕ) → word ≡ decimal number → number ≤ limit → ⊥
too_great limit word read text fits great number is most =
    let same : read ≡ number = decimal_injective read number fits (omega arith) (sym text ∙ is) in omega arith

-- ---- The number

pub none_where : (limit : ℕ) (word : List ℕ) → ((number : ℕ) → word ≡ decimal number → number ≤ limit → ⊥) → None ≡ number_up_to limit word
none_where limit word never = by_found (number_up_to limit word) refl
  where
    by_found : (found : Option ℕ) → number_up_to limit word ≡ found → None ≡ number_up_to limit word
    by_found None e = sym e
    by_found (Some number) e = let only = number_up_to-only limit word number e in absurd (never number only.0 only.1)
