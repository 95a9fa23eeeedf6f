-- Epochs by hand: the text of a value tells it, and is no number in hex.
use Rattle.std.proofs.Common.{◌≡◌, ℕ, zero, suc, ◌+◌, ◌-◌, ◌*◌, ◌/◌, ◌%◌, ◌^◌, ◌<◌, ◌==◌, Bool, true, false, ◌&&◌, List, [], ◌∷◌, ◌++◌, slice_index, refl, sym, ap, ◌∙◌, arith, ltb-true, lt-ltb, inl, inr, append-nil, append_assoc}
use Rattle.std.specs.Prelude.{if◌then◌else◌, nat_lt, Some, None, IsTrue, codes}
use Rattle.std.specs.List.{list_all}
use Rattle.std.specs.Fmt.{decimal, digits, digits_onto, digit_glyph}
use Rattle.std.proofs.lemmas.Bool.{and_parts, and_from, eqb-true}
use Rattle.std.proofs.lemmas.Bool.Decides.{nat_tests}
use Rattle.chain_defs.specs.Epochs.{value_number, value_index, value_length, is_well_formed}
use Rattle.chain_defs.specs.Specification.{keeps_s6}
use Rattle.serde_json.specs.Data.{Data, null, boolean, number, string, array, object}
use Rattle.json_defs.specs.Form.{is_text, has_digits, lowered, hex_text}
use Rattle.json_blocks.proofs.ReadOnce.{is_false, equal_texts, or_cases}
use Rattle.json_spec.specs.Form.{span_text}
use Rattle.json_spec.specs.Reading.{is_mark, value_after}

-- ---- decimal digits

-- 10^k
unfoldable limit : ℕ → ℕ
limit zero = 1
limit (suc k) = 10 * limit k

glyph-is : (d : ℕ) → d < 10 → digit_glyph false d - 48 ≡ d
glyph-is d below = grind (arith, nat_tests)

glyph-unmarked : (d : ℕ) → d < 10 → is_mark (digit_glyph false d) ≡ false
glyph-unmarked d below = grind (arith, nat_tests)

room : (marks third : ℕ) → marks < 3 → third < 2 ^ 24 → (nat_lt marks 3 && nat_lt third (2 ^ 24)) ≡ true
room marks third few small = and_from _ _ (lt-ltb marks 3 few) (lt-ltb third (2 ^ 24) small)

digit-step : (marks first second third d : ℕ) (s : List ℕ) → marks < 3 → third < 2 ^ 24 → d < 10
    → value_after marks first second third (digit_glyph false d ∷ s) ≡ value_after marks first second (third * 10 + d) s
unfolding value_after
digit-step marks first second third d s few small below =
    ap (λ (b : Bool). if b then (if is_mark (digit_glyph false d) then value_after (marks + 1) second third 0 s else value_after marks first second (third * 10 + (digit_glyph false d - 48)) s) else None) (room marks third few small)
    ∙ ap (λ (b : Bool). if b then value_after (marks + 1) second third 0 s else value_after marks first second (third * 10 + (digit_glyph false d - 48)) s) (glyph-unmarked d below)
    ∙ ap (λ (n : ℕ). value_after marks first second (third * 10 + n) s) (glyph-is d below)

mark-step : (marks first second third c : ℕ) (s : List ℕ) → marks < 3 → third < 2 ^ 24 → is_mark c ≡ true
    → value_after marks first second third (c ∷ s) ≡ value_after (marks + 1) second third 0 s
unfolding value_after
mark-step marks first second third c s few small mark =
    ap (λ (b : Bool). if b then (if is_mark c then value_after (marks + 1) second third 0 s else value_after marks first second (third * 10 + (c - 48)) s) else None) (room marks third few small)
    ∙ ap (λ (b : Bool). if b then value_after (marks + 1) second third 0 s else value_after marks first second (third * 10 + (c - 48)) s) mark

onto-after : (k n marks first second : ℕ) (s : List ℕ) → marks < 3 → n < 2 ^ 24 → n < limit k
    → value_after marks first second 0 (digits_onto k 10 false n s) ≡ value_after marks first second n s
unfolding limit
onto-after zero n marks first second s few small fits = ap (λ (m : ℕ). value_after marks first second m s) (omega (arith, fits))
onto-after (suc k) n marks first second s few small fits =
    by (n / 10 == 0) refl (onto-after k (n / 10) marks first second (last ∷ s) few (omega (arith, small)) (omega (arith, fits)))
  where
    last : ℕ
    last = digit_glyph false (n % 10)

    step : (m : ℕ) → m ≡ n / 10 → value_after marks first second m (last ∷ s) ≡ value_after marks first second n s
    step m is =
        digit-step marks first second m (n % 10) s few (omega (arith, is, small)) (omega arith)
        ∙ ap (λ (x : ℕ). value_after marks first second x s) (omega (arith, is))

    by : (b : Bool) → (n / 10 == 0) ≡ b → value_after marks first second 0 (digits_onto k 10 false (n / 10) (last ∷ s)) ≡ value_after marks first second (n / 10) (last ∷ s)
        → value_after marks first second 0 (if b then last ∷ s else digits_onto k 10 false (n / 10) (last ∷ s)) ≡ value_after marks first second n s
    by true is others = step 0 (sym (eqb-true (n / 10) 0 is))
    by false is others = others ∙ step (n / 10) refl

onto-append : (k n : ℕ) (s rest : List ℕ) → digits_onto k 10 false n s ++ rest ≡ digits_onto k 10 false n (s ++ rest)
onto-append zero n s rest = refl
onto-append (suc k) n s rest = by (n / 10 == 0) (onto-append k (n / 10) (digit_glyph false (n % 10) ∷ s) rest)
  where
    by : (b : Bool) → digits_onto k 10 false (n / 10) (digit_glyph false (n % 10) ∷ s) ++ rest ≡ digits_onto k 10 false (n / 10) (digit_glyph false (n % 10) ∷ (s ++ rest))
        → (if b then digit_glyph false (n % 10) ∷ s else digits_onto k 10 false (n / 10) (digit_glyph false (n % 10) ∷ s)) ++ rest
        ≡ (if b then digit_glyph false (n % 10) ∷ (s ++ rest) else digits_onto k 10 false (n / 10) (digit_glyph false (n % 10) ∷ (s ++ rest)))
    by true others = refl
    by false others = others

below-limit : (n : ℕ) → n < 2 ^ 24 → n < limit 64
unfolding limit
below-limit n small = omega (arith, small)

decimal-after : (n marks first second : ℕ) (rest : List ℕ) → marks < 3 → n < 2 ^ 24
    → value_after marks first second 0 (decimal n ++ rest) ≡ value_after marks first second n rest
unfolding digits
decimal-after n marks first second rest few small =
    ap (value_after marks first second 0) (onto-append 64 n [] rest) ∙ onto-after 64 n marks first second rest few small (below-limit n small)

-- ---- a text by hand tells its value

number-fits : (v : ℕ) → value_number v < 2 ^ 24
number-fits v = omega arith

index-fits : (v : ℕ) → value_index v < 2 ^ 24
index-fits v = omega arith

length-fits : (v : ℕ) → value_length v < 2 ^ 24
length-fits v = omega arith

whole-is : (v : ℕ) → v < 2 ^ 56 → is_well_formed v ≡ true → value_length v ≡ 0 → value_number v ≡ v
whole-is v small formed none = elim (or_cases (nat_lt (value_index v) (value_length v)) ((value_index v == 0) && (value_length v == 0)) formed) [
  | inl less ↦ let below = ltb-true (value_index v) (value_length v) less in absurd (omega (arith, below, none))
  | inr both ↦ let index = eqb-true (value_index v) 0 (and_parts (value_index v == 0) (value_length v == 0) both).0 in omega (arith, index, none, small)
]

parts-are : (v : ℕ) → v < 2 ^ 56 → value_number v + value_index v * 2 ^ 24 + value_length v * 2 ^ 40 ≡ v
parts-are v small = omega (arith, small)

-- the text of a fraction, part by part
in-parts : (a b c : List ℕ) → a ++ codes " " ++ b ++ codes "/" ++ c ≡ a ++ (32 ∷ (b ++ (47 ∷ c)))
in-parts a b c = simp append_assoc

pub span-after : (v : ℕ) → keeps_s6 v ≡ true → value_after 0 0 0 0 (span_text v) ≡ Some v
unfolding span_text value_after
span-after v kept = by (value_length v == 0) refl
  where
    parts : IsTrue (nat_lt v (2 ^ 56)) × IsTrue (is_well_formed v)
    parts = and_parts (nat_lt v (2 ^ 56)) (is_well_formed v) kept

    small : v < 2 ^ 56
    small = ltb-true v (2 ^ 56) parts.0

    fraction : List ℕ
    fraction = decimal (value_index v) ++ (47 ∷ decimal (value_length v))

    by : (b : Bool) → (value_length v == 0) ≡ b → value_after 0 0 0 0 (if b then decimal (value_number v) else decimal (value_number v) ++ codes " " ++ decimal (value_index v) ++ codes "/" ++ decimal (value_length v)) ≡ Some v
    by true none =
        ap (value_after 0 0 0 0) (sym (append-nil (decimal (value_number v))))
        ∙ decimal-after (value_number v) 0 0 0 [] (omega arith) (number-fits v)
        ∙ ap Some (whole-is v small parts.1 (eqb-true (value_length v) 0 none))
    by false some =
        ap (value_after 0 0 0 0) (in-parts (decimal (value_number v)) (decimal (value_index v)) (decimal (value_length v)))
        ∙ decimal-after (value_number v) 0 0 0 (32 ∷ fraction) (omega arith) (number-fits v)
        ∙ mark-step 0 0 0 (value_number v) 32 fraction (omega arith) (number-fits v) refl
        ∙ decimal-after (value_index v) 1 0 (value_number v) (47 ∷ decimal (value_length v)) (omega arith) (index-fits v)
        ∙ mark-step 1 0 (value_number v) (value_index v) 47 (decimal (value_length v)) (omega arith) (index-fits v) refl
        ∙ ap (value_after 2 (value_number v) (value_index v) 0) (sym (append-nil (decimal (value_length v))))
        ∙ decimal-after (value_length v) 2 (value_number v) (value_index v) [] (omega arith) (length-fits v)
        ∙ ap Some (parts-are v small)

-- ---- it is no number in hex, which has an x

-- digits, a space and a slash
abbrev is_low : ℕ → Bool
is_low c = nat_lt c 58

glyph-low : (d : ℕ) → d < 10 → is_low (digit_glyph false d) ≡ true
glyph-low d below = grind (arith, nat_tests)

onto-low : (k n : ℕ) (s : List ℕ) → list_all is_low s ≡ true → list_all is_low (digits_onto k 10 false n s) ≡ true
onto-low zero n s all = all
onto-low (suc k) n s all =
    let here : list_all is_low (digit_glyph false (n % 10) ∷ s) ≡ true = and_from _ _ (glyph-low (n % 10) (omega arith)) all in
    by (n / 10 == 0) _ _ here (onto-low k (n / 10) (digit_glyph false (n % 10) ∷ s) here)
  where
    by : (b : Bool) (x y : List ℕ) → list_all is_low x ≡ true → list_all is_low y ≡ true → list_all is_low (if b then x else y) ≡ true
    by true x y here there = here
    by false x y here there = there

append-low : (s rest : List ℕ) → list_all is_low s ≡ true → list_all is_low rest ≡ true → list_all is_low (s ++ rest) ≡ true
append-low [] rest all others = others
append-low (c ∷ s) rest all others =
    let parts = and_parts (is_low c) (list_all is_low s) all in
    and_from _ _ parts.0 (append-low s rest parts.1 others)

decimal-low : (n : ℕ) → list_all is_low (decimal n) ≡ true
unfolding digits
decimal-low n = onto-low 64 n [] refl

span-low : (v : ℕ) → list_all is_low (span_text v) ≡ true
unfolding span_text
span-low v = by (value_length v == 0)
  where
    fraction : List ℕ
    fraction = decimal (value_index v) ++ (47 ∷ decimal (value_length v))

    by : (b : Bool) → list_all is_low (if b then decimal (value_number v) else decimal (value_number v) ++ codes " " ++ decimal (value_index v) ++ codes "/" ++ decimal (value_length v)) ≡ true
    by true = decimal-low (value_number v)
    by false =
        ap (list_all is_low) (in-parts (decimal (value_number v)) (decimal (value_index v)) (decimal (value_length v)))
        ∙ append-low (decimal (value_number v)) (32 ∷ fraction) (decimal-low (value_number v))
        (and_from _ _ refl (append-low (decimal (value_index v)) (47 ∷ decimal (value_length v)) (decimal-low (value_index v)) (and_from _ _ refl (decimal-low (value_length v)))))

second-low : (s : List ℕ) → list_all is_low s ≡ true → slice_index (lowered s) 1 < 58
second-low [] all = omega arith
second-low (a ∷ []) all = omega arith
second-low (a ∷ b ∷ s) all =
    ltb-true b 58 (and_parts (is_low b) (list_all is_low s) (and_parts (is_low a) (list_all is_low (b ∷ s)) all).1).0

pub span-no-hex : (v : ℕ) (ds : List ℕ) (t : Data) → is_text (span_text v) t ≡ true → has_digits ds t ≡ true → ⊥
span-no-hex v ds null first second = is_false first
span-no-hex v ds (boolean b) first second = is_false first
span-no-hex v ds (number n) first second = is_false first
span-no-hex v ds (string s) first second =
    let text : s ≡ span_text v = equal_texts s (span_text v) first in
    let hex : lowered s ≡ hex_text ds = equal_texts (lowered s) (hex_text ds) second in
    let low : slice_index (lowered s) 1 < 58 = second-low s (ap (list_all is_low) text ∙ span-low v) in
    let x : slice_index (lowered s) 1 ≡ 120 = ap (λ (l : List ℕ). slice_index l 1) hex in
    omega (arith, low, x)
span-no-hex v ds (array ds') first second = is_false first
span-no-hex v ds (object ms) first second = is_false first
