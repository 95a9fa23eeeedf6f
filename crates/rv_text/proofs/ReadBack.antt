-- The numbers that are found in the operands' text are the operands.
use Rattle.std.proofs.Common.{◌≡◌, inl, inr, ℕ, ℤ, pos, negsuc, ◌-ℤ◌, suc, ◌+◌, ◌-◌, ◌*◌, ◌/◌, ◌%◌, ◌<◌, ◌≤◌, ◌==◌, Bool, true, false, cond, List, [], ◌∷◌, ◌++◌, length, refl, sym, ap, ◌∙◌, arith, append-nil}
use Rattle.std.specs.Prelude.{nat_lt}
use Rattle.std.specs.Fmt.{decimal, signed_decimal}
use Rattle.std.specs.Char.{digit_value}
use Rattle.std.specs.Str.Parse.{AllDigits, digits_value_after}
use Rattle.std.proofs.lemmas.Fmt.{decimal_is_IsNumeral}
use Rattle.std.proofs.lemmas.Str.Parse.{digit_from_value}
use Rattle.std.proofs.lemmas.Str.{digit_value_digit}
use Rattle.std.proofs.lemmas.Int.{ints}
use Rattle.std.proofs.lemmas.Bool.Decides.{nat_tests}
use Rattle.std.proofs.lemmas.Bool.{cases_lt}
use Rattle.machine_defs.specs.Instruction.{bits, sign_extended, IsImmediate, IsShiftAmount}
use Rattle.rv_text.specs.declared.read.Numbers.{Numbers}
use Rattle.machine_defs.specs.declared.operands.Operands.{Operands}
use Rattle.machine_defs.specs.declared.operands.Operands.TheVariants.{Registers, Immediate, Shift, WordShift, Address, Store, Branch, Jump, Upper, Bare}
use Rattle.machine_defs.specs.Text.{operands_text, pair, single, based, register, upper}
use Rattle.rv_text.specs.Words.{FitsOperands}
use Rattle.rv_text.specs.Reading.{space_at, is_digit, from_digit, leading, next_number, has_minus, numbers_in, signed, filled}
use Rattle.rv_text.proofs.Steps.{digit-true, digit-here, digit-later, leading-stops, leading-more, no-leading}
use Rattle.rv_text.proofs.Templates.{blank}

-- ---- a number at the start

value-from : (n : ℕ) (ds : List ℕ) → n ≤ digits_value_after 10 n ds
value-from n [] = omega arith
value-from n (c ∷ cs) = omega (arith, value-from (n * 10 + digit_value c) cs)

digit-is : (c : ℕ) → digit_value c < 10 → is_digit c ≡ true
digit-is c h = let r = digit_from_value c h in digit-true c (omega (arith, r)) (omega (arith, r))

leading-digits : (ds rest : List ℕ) (n : ℕ) → AllDigits 10 ds → digits_value_after 10 n ds < 100000000
    → leading n (ds ++ rest) ≡ leading (digits_value_after 10 n ds) rest
leading-digits [] rest n all small = refl
leading-digits (c ∷ cs) rest n all small =
    let from = value-from (n * 10 + digit_value c) cs in
    let low : n < 10000000 = omega (arith, from, small) in
    let r = digit_from_value c all.0 in
    let same : n * 10 + (c - 48) ≡ n * 10 + digit_value c = omega (arith, digit_value_digit c r, r) in
    leading-more n (cs ++ rest) c (digit-is c all.0) low
    ∙ ap (λ m. leading m (cs ++ rest)) same ∙ leading-digits cs rest (n * 10 + digit_value c) all.1 small

-- no digit stands first
abbrev StartsOther : List ℕ → Type 0
StartsOther [] = Unit {0}
StartsOther (c ∷ cs) = is_digit c ≡ false

leading-other : (n : ℕ) (rest : List ℕ) → StartsOther rest → leading n rest ≡ (n, rest)
leading-other n [] other = no-leading n
leading-other n (c ∷ cs) other = leading-stops n cs c other

from-digits : (ds rest : List ℕ) → 0 < length ds → AllDigits 10 ds → from_digit (ds ++ rest) ≡ ds ++ rest
from-digits [] rest some all = absurd (omega arith)
from-digits (c ∷ cs) rest some all = digit-here (cs ++ rest) c (digit-is c all.0)

number-read : (n : ℕ) (rest : List ℕ) → n < 100000000 → StartsOther rest → next_number (decimal n ++ rest) ≡ (n, rest)
number-read n rest h other =
    let numeral = decimal_is_IsNumeral n (omega arith) in
    let small : digits_value_after 10 0 (decimal n) < 100000000 = omega (arith, numeral.1) in
    ap (leading 0) (from-digits (decimal n) rest numeral.0.0 numeral.0.1)
    ∙ leading-digits (decimal n) rest 0 numeral.0.1 small
    ∙ ap (λ m. leading m rest) numeral.1 ∙ leading-other n rest other

number-last : (n : ℕ) → n < 100000000 → next_number (decimal n) ≡ (n, [])
number-last n h = ap next_number (sym (append-nil (decimal n))) ∙ number-read n [] h tt

skipped : (c : ℕ) (rest : List ℕ) → is_digit c ≡ false → next_number (c ∷ rest) ≡ next_number rest
skipped c rest other = ap (leading 0) (digit-later rest c other)

-- ---- the sign

not-minus : (c : ℕ) → 48 ≤ c → (c == 45) ≡ false
not-minus c h = grind (arith, nat_tests)

minus-digits : (ds rest : List ℕ) → AllDigits 10 ds → has_minus (ds ++ rest) ≡ has_minus rest
unfolding has_minus
minus-digits [] rest all = refl
minus-digits (c ∷ cs) rest all =
    let r = digit_from_value c all.0 in
    let other : (c == 45) ≡ false = not-minus c (omega (arith, r)) in
    rw other (minus-digits cs rest all.1)

minus-decimal : (n : ℕ) (rest : List ℕ) → n < 100000000 → has_minus (decimal n ++ rest) ≡ has_minus rest
minus-decimal n rest h = minus-digits (decimal n) rest (decimal_is_IsNumeral n (omega arith)).0.1

minus-last : (n : ℕ) → n < 100000000 → has_minus (decimal n) ≡ false
unfolding has_minus
minus-last n h = ap has_minus (sym (append-nil (decimal n))) ∙ minus-decimal n [] h

minus-skipped : (c : ℕ) (rest : List ℕ) → (c == 45) ≡ false → has_minus (c ∷ rest) ≡ has_minus rest
unfolding has_minus
minus-skipped c rest other = rw other refl

minus-here : (rest : List ℕ) → has_minus (45 ∷ rest) ≡ true
unfolding has_minus
minus-here rest = refl

-- ---- a number with its sign

abbrev size : ℤ → ℕ
size (pos n) = n
size (negsuc n) = suc n

abbrev below : ℤ → Bool
below (pos n) = false
below (negsuc n) = true

signed-again : (z : ℤ) → signed (below z) (size z) ≡ z
signed-again (pos n) = refl
signed-again (negsuc n) = grind (arith, ints)

signed-read : (z : ℤ) (rest : List ℕ) → size z < 100000000 → StartsOther rest → next_number (signed_decimal z ++ rest) ≡ (size z, rest)
signed-read (pos n) rest h other = number-read n rest h other
signed-read (negsuc n) rest h other = skipped 45 (decimal (suc n) ++ rest) refl ∙ number-read (suc n) rest h other

signed-last : (z : ℤ) → size z < 100000000 → next_number (signed_decimal z) ≡ (size z, [])
signed-last z h = ap next_number (sym (append-nil (signed_decimal z))) ∙ signed-read z [] h tt

minus-signed : (z : ℤ) (rest : List ℕ) → size z < 100000000 → has_minus rest ≡ false → has_minus (signed_decimal z ++ rest) ≡ below z
minus-signed (pos n) rest h none = minus-decimal n rest h ∙ none
minus-signed (negsuc n) rest h none = minus-here (decimal (suc n) ++ rest)

no-minus : has_minus [] ≡ false
unfolding has_minus
no-minus = refl

minus-signed-last : (z : ℤ) → size z < 100000000 → has_minus (signed_decimal z) ≡ below z
minus-signed-last z h = ap has_minus (sym (append-nil (signed_decimal z))) ∙ minus-signed z [] h no-minus

sized : (half n : ℕ) (z : ℤ) → n < half + half → z ≡ cond (nat_lt n half) (pos n) (pos n -ℤ pos (half + half)) → size z ≤ half
sized half n (pos m) bound e =
    elim (cases_lt n half) [
      | inl low ↦ grind (arith, nat_tests, ints)
      | inr high ↦ grind (arith, nat_tests, ints)
    ]
sized half n (negsuc m) bound e =
    elim (cases_lt n half) [
      | inl low ↦ grind (arith, nat_tests, ints)
      | inr high ↦ grind (arith, nat_tests, ints)
    ]

size-12 : (z : ℤ) → IsImmediate 12 1 z → size z < 100000000
unfolding sign_extended
size-12 z h = let s : size z ≤ 2048 = sized 2048 h.0 z h.1 h.3 in omega arith

size-13 : (z : ℤ) → IsImmediate 13 2 z → size z < 100000000
unfolding sign_extended
size-13 z h = let s : size z ≤ 4096 = sized 4096 h.0 z h.1 h.3 in omega arith

size-21 : (z : ℤ) → IsImmediate 21 2 z → size z < 100000000
unfolding sign_extended
size-21 z h = let s : size z ≤ 1048576 = sized 1048576 h.0 z h.1 h.3 in omega arith

size-amount : (limit : ℕ) (z : ℤ) → limit ≤ 64 → IsShiftAmount limit z → size z < 100000000
size-amount limit (pos m) most h = let e : pos m ≡ pos h.0 = h.2 in let f : m ≡ h.0 = cc in omega (arith, f, h.1)
size-amount limit (negsuc m) most h = let e : negsuc m ≡ pos h.0 = h.2 in absurd (cc)

-- ---- the forms of operands

abbrev numbers : ℕ → ℕ → ℕ → Bool → Numbers
numbers a b c negative = record { first = a; second = b; third = c; is_negative = negative }

numbers-are : (text r1 r2 r3 : List ℕ) (a b c : ℕ) (negative : Bool) → next_number text ≡ (a, r1) → next_number r1 ≡ (b, r2)
    → next_number r2 ≡ (c, r3) → has_minus text ≡ negative → numbers_in text ≡ numbers a b c negative
unfolding numbers_in
numbers-are text r1 r2 r3 a b c negative e1 e2 e3 m = rw (e1, e2, e3, m) refl

pair-read : (a b : ℕ) (tail r3 : List ℕ) (c : ℕ) (negative : Bool) → a < 32 → b < 32 → next_number tail ≡ (c, r3) → has_minus tail ≡ negative
    → numbers_in (pair a b tail) ≡ numbers a b c negative
pair-read a b tail r3 c negative ha hb e m =
    let after : List ℕ = 44 ∷ 120 ∷ (decimal b ++ (44 ∷ tail)) in
    numbers-are (pair a b tail) after (44 ∷ tail) r3 a b c negative
    (skipped 32 (120 ∷ (decimal a ++ after)) refl ∙ skipped 120 (decimal a ++ after) refl ∙ number-read a after (omega arith) refl)
    (skipped 44 (120 ∷ (decimal b ++ (44 ∷ tail))) refl ∙ skipped 120 (decimal b ++ (44 ∷ tail)) refl ∙ number-read b (44 ∷ tail) (omega arith) refl)
    (skipped 44 tail refl ∙ e)
    (minus-skipped 32 (120 ∷ (decimal a ++ after)) refl ∙ minus-skipped 120 (decimal a ++ after) refl ∙ minus-decimal a after (omega arith)
    ∙ minus-skipped 44 (120 ∷ (decimal b ++ (44 ∷ tail))) refl ∙ minus-skipped 120 (decimal b ++ (44 ∷ tail)) refl ∙ minus-decimal b (44 ∷ tail) (omega arith)
    ∙ minus-skipped 44 tail refl ∙ m)

numbered-read : (a b : ℕ) (z : ℤ) → a < 32 → b < 32 → size z < 100000000
    → numbers_in (pair a b (signed_decimal z)) ≡ numbers a b (size z) (below z)
numbered-read a b z ha hb h = pair-read a b (signed_decimal z) [] (size z) (below z) ha hb (signed-last z h) (minus-signed-last z h)

single-read : (a : ℕ) (tail r2 : List ℕ) (b : ℕ) (negative : Bool) → a < 32 → next_number tail ≡ (b, r2) → has_minus tail ≡ negative
    → numbers_in (single a tail) ≡ numbers a b (next_number r2).0 negative
single-read a tail r2 b negative ha e m =
    let after : List ℕ = 44 ∷ tail in
    numbers-are (single a tail) after r2 (next_number r2).1 a b (next_number r2).0 negative
    (skipped 32 (120 ∷ (decimal a ++ after)) refl ∙ skipped 120 (decimal a ++ after) refl ∙ number-read a after (omega arith) refl)
    (skipped 44 tail refl ∙ e)
    refl
    (minus-skipped 32 (120 ∷ (decimal a ++ after)) refl ∙ minus-skipped 120 (decimal a ++ after) refl ∙ minus-decimal a after (omega arith)
    ∙ minus-skipped 44 tail refl ∙ m)

based-read : (a base : ℕ) (z : ℤ) → a < 32 → base < 32 → size z < 100000000
    → numbers_in (single a (based z base)) ≡ numbers a (size z) base (below z)
based-read a base z ha hb h =
    let end : List ℕ = 41 ∷ [] in
    let rest : List ℕ = 40 ∷ 120 ∷ (decimal base ++ end) in
    let third : next_number rest ≡ (base, end) =
    skipped 40 (120 ∷ (decimal base ++ end)) refl ∙ skipped 120 (decimal base ++ end) refl ∙ number-read base end (omega arith) refl in
    let none : has_minus rest ≡ false =
    minus-skipped 40 (120 ∷ (decimal base ++ end)) refl ∙ minus-skipped 120 (decimal base ++ end) refl ∙ minus-decimal base end (omega arith)
    ∙ minus-skipped 41 [] refl ∙ no-minus in
    single-read a (based z base) rest (size z) (below z) ha (signed-read z rest h refl) (minus-signed z rest h none)
    ∙ ap (λ (p : ℕ × List ℕ). numbers a (size z) p.0 (below z)) third

small : (a : ℕ) → a < 32 → a % 32 ≡ a
small a h = omega arith

-- bits 31 to 12 of a number that has 32 bits in two's complement
upper-low : (n : ℕ) (z : ℤ) → n < 2147483648 → z ≡ pos n → upper z ≡ n / 4096
unfolding upper bits
upper-low n z h e = rw e (grind (arith, ints))

upper-high : (n : ℕ) (z : ℤ) → 2147483648 ≤ n → n < 4294967296 → z ≡ (pos n -ℤ pos 4294967296) → upper z ≡ n / 4096
unfolding upper bits
upper-high n z low high e = rw e (grind (arith, ints))

low-value : (n : ℕ) → n < 2147483648 → sign_extended 32 n ≡ pos n
unfolding sign_extended
low-value n h = grind (arith, nat_tests)

high-value : (n : ℕ) → 2147483648 ≤ n → sign_extended 32 n ≡ (pos n -ℤ pos 4294967296)
unfolding sign_extended
high-value n h = grind (arith, nat_tests)

upper-is : (z : ℤ) → (h : IsImmediate 32 4096 z) → upper z ≡ h.0 / 4096
upper-is z h =
    elim (cases_lt h.0 2147483648) [
      | inl low ↦ upper-low h.0 z low (h.3 ∙ low-value h.0 low)
      | inr high ↦ upper-high h.0 z high h.1 (h.3 ∙ high-value h.0 high)
    ]

upper-again : (z : ℤ) → IsImmediate 32 4096 z → (upper z < 1048576) × (sign_extended 32 (upper z % 1048576 * 4096) ≡ z)
upper-again z h =
    let e = upper-is z h in
    let bound : h.0 < 4294967296 = h.1 in
    let whole : upper z % 1048576 * 4096 ≡ h.0 = omega (arith, h.2, e, bound) in
    (omega (arith, e, bound), ap (sign_extended 32) whole ∙ sym h.3)

-- ---- each form

filled-numbered : (a b : ℕ) (z : ℤ) → a < 32 → b < 32 → size z < 100000000 → (form : ℕ → ℕ → ℤ → Operands)
    → form (a % 32) (b % 32) (signed (below z) (size z)) ≡ form a b z
filled-numbered a b z ha hb h form =
    ap (λ x. form x (b % 32) (signed (below z) (size z))) (small a ha) ∙ ap (λ x. form a x (signed (below z) (size z))) (small b hb)
    ∙ ap (form a b) (signed-again z)

pub read-back : (o : Operands) → FitsOperands o → filled (blank o) (numbers_in (operands_text o)) ≡ o
unfolding filled operands_text
read-back (Registers d a b) h =
    ap (filled (Registers 0 0 0)) (pair-read d a (register b) [] b false h.0.0 h.0.1 (skipped 120 (decimal b) refl ∙ number-last b (omega (arith, h.0.2))) (minus-skipped 120 (decimal b) refl ∙ minus-last b (omega (arith, h.0.2))))
    ∙ ap (λ x. Registers x (a % 32) (b % 32)) (small d h.0.0) ∙ ap (λ x. Registers d x (b % 32)) (small a h.0.1) ∙ ap (Registers d a) (small b h.0.2)
read-back (Immediate d a z) h =
    ap (filled (Immediate 0 0 (pos 0))) (numbered-read d a z h.0.0 h.0.1 (size-12 z h.1)) ∙ filled-numbered d a z h.0.0 h.0.1 (size-12 z h.1) Immediate
read-back (Shift d a z) h =
    let s = size-amount 64 z (omega arith) h.1 in
    ap (filled (Shift 0 0 (pos 0))) (numbered-read d a z h.0.0 h.0.1 s) ∙ filled-numbered d a z h.0.0 h.0.1 s Shift
read-back (WordShift d a z) h =
    let s = size-amount 32 z (omega arith) h.1 in
    ap (filled (WordShift 0 0 (pos 0))) (numbered-read d a z h.0.0 h.0.1 s) ∙ filled-numbered d a z h.0.0 h.0.1 s WordShift
read-back (Address d a z) h =
    ap (filled (Address 0 0 (pos 0))) (based-read d a z h.0.0 h.0.1 (size-12 z h.1)) ∙ filled-numbered d a z h.0.0 h.0.1 (size-12 z h.1) Address
read-back (Store a b z) h =
    ap (filled (Store 0 0 (pos 0))) (based-read b a z h.0.1 h.0.0 (size-12 z h.1)) ∙ filled-numbered a b z h.0.0 h.0.1 (size-12 z h.1) Store
read-back (Branch a b z) h =
    ap (filled (Branch 0 0 (pos 0))) (numbered-read a b z h.0.0 h.0.1 (size-13 z h.1)) ∙ filled-numbered a b z h.0.0 h.0.1 (size-13 z h.1) Branch
read-back (Jump d z) h =
    let s = size-21 z h.1 in
    ap (filled (Jump 0 (pos 0))) (single-read d (signed_decimal z) [] (size z) (below z) h.0 (signed-last z s) (minus-signed-last z s))
    ∙ ap (λ x. Jump x (signed (below z) (size z))) (small d h.0) ∙ ap (Jump d) (signed-again z)
read-back (Upper d z) h =
    let u = upper-again z h.1 in
    ap (filled (Upper 0 (pos 0))) (single-read d (decimal (upper z)) [] (upper z) false h.0 (number-last (upper z) (omega (arith, u.0))) (minus-last (upper z) (omega (arith, u.0))))
    ∙ ap (λ x. Upper x (sign_extended 32 (upper z % 1048576 * 4096))) (small d h.0) ∙ ap (Upper d) u.1
read-back Bare h = refl

-- ---- the name, and what follows it

pub spaced : (o : Operands) → space_at (operands_text o) ≡ 0
unfolding space_at operands_text
spaced (Registers _ _ _) = refl
spaced (Immediate _ _ _) = refl
spaced (Shift _ _ _) = refl
spaced (WordShift _ _ _) = refl
spaced (Address _ _ _) = refl
spaced (Store _ _ _) = refl
spaced (Branch _ _ _) = refl
spaced (Jump _ _) = refl
spaced (Upper _ _) = refl
spaced Bare = refl

past : (b : Bool) (c cs rest : ℕ) → cond b 0 (cs + 1) ≡ suc c → (b ≡ false) × (cs ≡ c)
past true c cs rest e = absurd (omega arith)
past false c cs rest e = (refl, omega arith)

pub after-name : (name text : List ℕ) → space_at name ≡ length name → space_at text ≡ 0 → space_at (name ++ text) ≡ length name
unfolding space_at
after-name [] text none e = e
after-name (c ∷ cs) text none e =
    let p = past (c == 32) (length cs) (space_at cs) 0 none in
    rw p.0 (omega (arith, after-name cs text p.1 e))
