-- Digits tell their number, in either case.
use Rattle.std.proofs.Common.{◌≡◌, ℕ, zero, suc, ◌+◌, ◌-◌, ◌*◌, ◌/◌, ◌%◌, ◌^◌, ◌<◌, ◌≤◌, ◌==◌, Bool, true, false, ◌&&◌, List, [], ◌∷◌, ◌++◌, map, length, drop, slice_index, refl, sym, ap, ◌∙◌, arith, add-one, drop-cons, append_assoc, length-drop, eq-eqb}
use Rattle.std.specs.Prelude.{if◌then◌else◌}
use Rattle.std.specs.Fmt.{digits, digits_onto, digit_glyph}
use Rattle.std.specs.Str.{bytes_eq}
use Rattle.std.proofs.lemmas.Bool.{eqb-true}
use Rattle.std.proofs.lemmas.List.{drop_all, append-nil}
use Rattle.std.proofs.lemmas.Slice.Eq.{bytes_eq-Decides}
use Rattle.std.proofs.lemmas.Bool.Decides.{nat_tests}
use Rattle.json_defs.specs.Form.{lower_digit}
use Rattle.json_blocks.specs.Digits.{value_of, value_after, pairs_of}
use Rattle.json_blocks.proofs.Plain.{glyph}
use Rattle.hex.specs.Hex.{encode_lower, encode_with, lower_digits, IsBytes}

unfoldable pub limit : ℕ → ℕ
limit zero = 1
limit (suc k) = 16 * limit k

pub value_of-below : (c : ℕ) → value_of c < 16
value_of-below c = grind (arith, nat_tests)

pub value_of-lower : (c : ℕ) → value_of (lower_digit c) ≡ value_of c
value_of-lower c = grind (arith, nat_tests)

pub value_after-lower : (n : ℕ) (s : List ℕ) → value_after n (map lower_digit s) ≡ value_after n s
unfolding value_after
value_after-lower n [] = refl
value_after-lower n (c ∷ s) = ap (λ (v : ℕ). value_after (n * 16 + v) (map lower_digit s)) (value_of-lower c) ∙ value_after-lower (n * 16 + value_of c) s

glyph-value : (d : ℕ) → d < 16 → value_of (digit_glyph false d) ≡ d
glyph-value d below = grind (arith, nat_tests)

onto-value : (k n : ℕ) (s : List ℕ) → n < limit k → value_after 0 (digits_onto k 16 false n s) ≡ value_after n s
unfolding value_after limit
onto-value zero n s fits = ap (λ (m : ℕ). value_after m s) (omega arith)
onto-value (suc k) n s fits =
    by (n / 16 == 0) refl (onto-value k (n / 16) (last ∷ s) (omega arith))
  where
    last : ℕ
    last = digit_glyph false (n % 16)

    step : (m : ℕ) → m ≡ n / 16 → value_after m (last ∷ s) ≡ value_after n s
    step m is = ap (λ (x : ℕ). value_after x s) (omega (arith, glyph-value (n % 16) (omega arith)))

    by : (b : Bool) → (n / 16 == 0) ≡ b → value_after 0 (digits_onto k 16 false (n / 16) (last ∷ s)) ≡ value_after (n / 16) (last ∷ s)
        → value_after 0 (if b then last ∷ s else digits_onto k 16 false (n / 16) (last ∷ s)) ≡ value_after n s
    by true is others = step 0 (sym (eqb-true (n / 16) 0 is))
    by false is others = others ∙ step (n / 16) refl

pub digits-value : (n : ℕ) → n < limit 64 → value_after 0 (digits 16 false n) ≡ n
unfolding digits value_after
digits-value n fits = onto-value 64 n [] fits

-- a number below 16^(j + 1) has j + 1 digits at most
onto-length : (k j n : ℕ) (s : List ℕ) → n < limit (suc j) → length (digits_onto k 16 false n s) ≤ suc j + length s
unfolding limit
onto-length zero j n s fits = omega arith
onto-length (suc k) zero n s fits =
    by (n / 16 == 0) refl (onto-length k zero 0 (digit_glyph false (n % 16) ∷ s) (omega arith))
  where
    by : (b : Bool) → (n / 16 == 0) ≡ b → length (digits_onto k 16 false 0 (digit_glyph false (n % 16) ∷ s)) ≤ 1 + length (digit_glyph false (n % 16) ∷ s)
        → length (if b then digit_glyph false (n % 16) ∷ s else digits_onto k 16 false (n / 16) (digit_glyph false (n % 16) ∷ s)) ≤ 1 + length s
    by true is others = omega arith
    by false is others = absurd (let e : n / 16 ≡ 0 = omega arith in cc)
onto-length (suc k) (suc j) n s fits =
    by (n / 16 == 0) (onto-length k j (n / 16) (digit_glyph false (n % 16) ∷ s) (omega arith))
  where
    by : (b : Bool) → length (digits_onto k 16 false (n / 16) (digit_glyph false (n % 16) ∷ s)) ≤ suc j + length (digit_glyph false (n % 16) ∷ s)
        → length (if b then digit_glyph false (n % 16) ∷ s else digits_onto k 16 false (n / 16) (digit_glyph false (n % 16) ∷ s)) ≤ suc (suc j) + length s
    by true others = omega arith
    by false others = omega arith

pub digits-length : (n : ℕ) → n < 2 ^ 128 → length (digits 16 false n) ≤ 32
unfolding digits limit
digits-length n fits = onto-length 64 31 n [] (omega arith)

pub length-map_lower : (s : List ℕ) → length (map lower_digit s) ≡ length s
length-map_lower [] = refl
length-map_lower (c ∷ s) = omega (arith, length-map_lower s)

-- ---- the loops

pub limit-more : (i : ℕ) (n v : ℕ) → n < limit i → v < 16 → n * 16 + v < limit (i + 1)
unfolding limit
limit-more i n v fits small = rw add-one (omega arith)

limit-grows : (i k : ℕ) → limit i ≤ limit (k + i)
unfolding limit
limit-grows i zero = (let e : limit i ≡ limit (0 + i) = ap limit {x = i} {y = 0 + i} (omega arith) in omega arith)
limit-grows i (suc k) = let below = limit-grows i k in let is : limit (suc k + i) ≡ 16 * limit (k + i) = ap limit {x = suc k + i} {y = suc (k + i)} (omega arith) in omega arith

pub limit-fits : (i : ℕ) → i ≤ 32 → limit i ≤ 2 ^ 128
unfolding limit
limit-fits i small =
    let grows : limit i ≤ limit (32 - i + i) = limit-grows i (32 - i) in
    let top : limit (32 - i + i) ≡ 2 ^ 128 = ap limit {x = 32 - i + i} {y = 32} (omega arith) in
    omega (arith, grows, top)

pub fits-limit : (n : ℕ) → n < 2 ^ 128 → n < limit 64
unfolding limit
fits-limit n fits = omega arith

pub value_goes_on : (n : ℕ) (s : List ℕ) (i : ℕ) → i < length s
    → value_after (n * 16 + value_of (slice_index s i)) (drop (i + 1) s) ≡ value_after n (drop i s)
unfolding value_after
value_goes_on n s i within = rw add-one (sym (ap (value_after n) (drop-cons s i 0 within)))

pub value_ends : (n : ℕ) (s : List ℕ) (i : ℕ) → length s ≤ i → value_after n (drop i s) ≡ n
unfolding value_after
value_ends n s i end = ap (value_after n) (drop_all i s end)

same_head : (x y : ℕ) (s t : List ℕ) → x ≡ y → bytes_eq (x ∷ s) (y ∷ t) ≡ bytes_eq s t
same_head x y s t is = ap (λ (b : Bool). b && bytes_eq s t) (eq-eqb x y is)

pub eq_goes_on : (s t : List ℕ) (i : ℕ) → i < length s → i < length t → lower_digit (slice_index s i) ≡ slice_index t i
    → bytes_eq (map lower_digit (drop (i + 1) s)) (drop (i + 1) t) ≡ bytes_eq (map lower_digit (drop i s)) (drop i t)
eq_goes_on s t i within within' is =
    rw add-one (sym (ap (λ (l : List ℕ). bytes_eq (map lower_digit l) (drop i t)) (drop-cons s i 0 within)
    ∙ ap (λ (l : List ℕ). bytes_eq (lower_digit (slice_index s i) ∷ map lower_digit (drop (suc i) s)) l) (drop-cons t i 0 within')
    ∙ same_head (lower_digit (slice_index s i)) (slice_index t i) (map lower_digit (drop (suc i) s)) (drop (suc i) t) is))

pub eq_ends : (s t : List ℕ) (i : ℕ) → length s ≤ i → length t ≤ i → bytes_eq (map lower_digit (drop i s)) (drop i t) ≡ true
eq_ends s t i end end' =
    ap (λ (l : List ℕ). bytes_eq (map lower_digit l) (drop i t)) (drop_all i s end) ∙ ap (λ (l : List ℕ). bytes_eq [] l) (drop_all i t end')

pub eq_lengths : (s t : List ℕ) → (length s ≡ length t → ⊥) → bytes_eq (map lower_digit s) t ≡ false
eq_lengths s t differs = by (bytes_eq (map lower_digit s) t) refl
  where
    by : (b : Bool) → bytes_eq (map lower_digit s) t ≡ b → b ≡ false
    by true is = absurd (differs (sym (length-map_lower s) ∙ ap length ((bytes_eq-Decides (map lower_digit s) t).0 is)))
    by false is = refl

pub equal_texts : (s t : List ℕ) → bytes_eq s t ≡ true → s ≡ t
equal_texts s t is = (bytes_eq-Decides s t).0 is

-- a text that is the digits of a number is found again
pub found_again : (s text : List ℕ) (n m : ℕ) → m < 2 ^ 128 → n ≡ value_after 0 s → text ≡ digits 16 false n → map lower_digit s ≡ digits 16 false m
    → bytes_eq (map lower_digit s) text ≡ true
found_again s text n m fits is text_is is_digits =
    let same : n ≡ m = is ∙ sym (value_after-lower 0 s) ∙ ap (value_after 0) is_digits ∙ digits-value m (fits-limit m fits) in
    (bytes_eq-Decides (map lower_digit s) text).1 (is_digits ∙ ap (digits 16 false) (sym same) ∙ sym text_is)

-- ---- pairs of digits

pub pairs-lower : (s : List ℕ) → pairs_of (map lower_digit s) ≡ pairs_of s
unfolding pairs_of
pairs-lower [] = refl
pairs-lower (c ∷ []) = refl
pairs-lower (high ∷ low ∷ s) =
    ap (λ (v : ℕ). (v * 16 + value_of (lower_digit low)) ∷ pairs_of (map lower_digit s)) (value_of-lower high)
    ∙ ap (λ (v : ℕ). (value_of high * 16 + v) ∷ pairs_of (map lower_digit s)) (value_of-lower low)
    ∙ ap (λ (l : List ℕ). (value_of high * 16 + value_of low) ∷ l) (pairs-lower s)

digit-value : (d : ℕ) → d < 16 → value_of (slice_index lower_digits d) ≡ d
digit-value d below = ap value_of (glyph d below) ∙ glyph-value d below

pub pairs-encode_lower : (bytes : List ℕ) → IsBytes bytes → pairs_of (encode_lower bytes) ≡ bytes
unfolding pairs_of encode_with
pairs-encode_lower [] fits = refl
pairs-encode_lower (b ∷ bytes) fits =
    let small : b < 256 = fits 0 in
    let high = digit-value (b / 16) (omega arith) in
    let low = digit-value (b % 16) (omega arith) in
    let head : value_of (slice_index lower_digits (b / 16)) * 16 + value_of (slice_index lower_digits (b % 16)) ≡ b = omega (arith, high, low) in
    ap (λ (v : ℕ). v ∷ pairs_of (encode_lower bytes)) head ∙ ap (λ (l : List ℕ). b ∷ l) (pairs-encode_lower bytes (λ i. fits (suc i)))

-- a pair more
pub pairs_go_on : (out new s : List ℕ) (i : ℕ) → i < length s / 2
    → new ≡ out ++ (value_of (slice_index s (2 * i)) * 16 + value_of (slice_index s (2 * i + 1))) ∷ []
    → new ++ pairs_of (drop (2 * (i + 1)) s) ≡ out ++ pairs_of (drop (2 * i) s)
unfolding pairs_of
pairs_go_on out new s i within is =
    let first = drop-cons s (2 * i) 0 (omega arith) in
    let second = drop-cons s (suc (2 * i)) 0 (omega arith) in
    let at : slice_index s (2 * i + 1) ≡ slice_index s (suc (2 * i)) = ap (slice_index s) (omega arith) in
    let rest : drop (2 * (i + 1)) s ≡ drop (suc (suc (2 * i))) s = ap (λ (n : ℕ). drop n s) {x = 2 * (i + 1)} {y = suc (suc (2 * i))} (omega arith) in
    let byte = value_of (slice_index s (2 * i)) * 16 + value_of (slice_index s (suc (2 * i))) in
    let new_is : new ≡ out ++ byte ∷ [] = is ∙ ap (λ (c : ℕ). out ++ (value_of (slice_index s (2 * i)) * 16 + value_of c) ∷ []) at in
    let left : drop (2 * i) s ≡ slice_index s (2 * i) ∷ slice_index s (suc (2 * i)) ∷ drop (suc (suc (2 * i))) s = first ∙ ap (λ (l : List ℕ). slice_index s (2 * i) ∷ l) second in
    ap (λ (l : List ℕ). l ++ pairs_of (drop (2 * (i + 1)) s)) new_is
    ∙ ap (λ (l : List ℕ). (out ++ byte ∷ []) ++ pairs_of l) rest
    ∙ append_assoc out (byte ∷ []) (pairs_of (drop (suc (suc (2 * i))) s))
    ∙ ap (λ (l : List ℕ). out ++ pairs_of l) (sym left)

pub pairs_end : (out s : List ℕ) (i : ℕ) → length s / 2 ≤ i → out ++ pairs_of (drop (2 * i) s) ≡ out
unfolding pairs_of
pairs_end out s i end = by (drop (2 * i) s) (omega (arith, length-drop (2 * i) s))
  where
    by : (l : List ℕ) → length l ≤ 1 → out ++ pairs_of l ≡ out
    by [] few = append-nil out
    by (c ∷ []) few = append-nil out
    by (c ∷ d ∷ l) few = absurd (omega arith)

-- the bytes of a text are found again
pub bytes_again : (s out text bytes : List ℕ) → IsBytes bytes → out ≡ pairs_of s → text ≡ encode_lower out → map lower_digit s ≡ encode_lower bytes
    → bytes_eq (map lower_digit s) text ≡ true
bytes_again s out text bytes fits is text_is is_text =
    let same : out ≡ bytes = is ∙ sym (pairs-lower s) ∙ ap pairs_of is_text ∙ pairs-encode_lower bytes fits in
    (bytes_eq-Decides (map lower_digit s) text).1 (is_text ∙ ap encode_lower (sym same) ∙ sym text_is)
