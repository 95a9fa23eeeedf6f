-- Texts that stand for themselves in a string of JSON: keys and hex digits.
use Rattle.std.proofs.Common.{◌≡◌, ℕ, zero, suc, ◌+◌, ◌/◌, ◌%◌, ◌<◌, ◌≤◌, ◌==◌, Bool, true, false, ◌&&◌, List, [], ◌∷◌, ◌++◌, inl, inr, length, slice_index, drop, refl, sym, ap, subst, ◌∙◌, arith, append_assoc, add-one, drop-cons, ne_eqb}
use Rattle.std.specs.Prelude.{if◌then◌else◌}
use Rattle.std.specs.List.{list_all}
use Rattle.std.specs.Fmt.{digits, digits_onto, digit_glyph}
use Rattle.std.proofs.lemmas.Bool.{and_parts, cases_lt, eqb-true}
use Rattle.std.proofs.lemmas.Bool.Decides.{nat_tests}
use Rattle.std.proofs.lemmas.List.{append-nil, drop_all}
use Rattle.json.specs.Print.{escape_byte, escape, quoted}
use Rattle.hex.specs.Hex.{encode_lower, encode_with, lower_digits, IsBytes}
use Rattle.serde_json.specs.Data.{Data}
use Rattle.serde_json.specs.Written.{compact_text}
use Rattle.json_defs.specs.Form.{hex_text, hex_number, byte_string, named_byte}
use Rattle.json_blocks.specs.declared.text.Text.{Text}
use Rattle.json_blocks.specs.Text.{is_plain, key_text, Puts, PutsTree}

-- ---- what is plain is not escaped

pub escape_byte-plain : (c : ℕ) → is_plain c ≡ true → escape_byte c ≡ c ∷ []
unfolding escape_byte
escape_byte-plain c plain = grind (arith, nat_tests)

pub escape-plain : (s : List ℕ) → list_all is_plain s ≡ true → escape s ≡ s
escape-plain [] plain = refl
escape-plain (c ∷ s) plain =
    let parts = and_parts (is_plain c) (list_all is_plain s) plain in
    ap (λ (l : List ℕ). l ++ escape s) (escape_byte-plain c parts.0) ∙ ap (λ (l : List ℕ). c ∷ l) (escape-plain s parts.1)

pub quoted-plain : (s : List ℕ) → list_all is_plain s ≡ true → quoted s ≡ 34 ∷ (s ++ 34 ∷ [])
quoted-plain s plain = ap (λ (l : List ℕ). 34 ∷ (l ++ 34 ∷ [])) (escape-plain s plain)

-- ---- hex digits are plain

-- each of the first n digits
abbrev are_plain : List ℕ → ℕ → Bool
are_plain table zero = true
are_plain table (suc n) = is_plain (slice_index table n) && are_plain table n

are_plain-at : (table : List ℕ) (n k : ℕ) → are_plain table n ≡ true → k < n → is_plain (slice_index table k) ≡ true
are_plain-at table zero k plain below = absurd (omega arith)
are_plain-at table (suc n) k plain below =
    let parts = and_parts (is_plain (slice_index table n)) (are_plain table n) plain in
    elim (cases_lt k n) [
      | inl less ↦ are_plain-at table n k parts.1 less
      | inr top ↦ let e : k ≡ n = omega arith in rw e parts.0
    ]

digit-plain : (k : ℕ) → k < 16 → is_plain (slice_index lower_digits k) ≡ true
digit-plain k below = are_plain-at lower_digits 16 k refl below

and_both : (a b : Bool) → a ≡ true → b ≡ true → (a && b) ≡ true
and_both a b first second = rw (first, second) refl

pub encode_lower-plain : (bytes : List ℕ) → IsBytes bytes → list_all is_plain (encode_lower bytes) ≡ true
unfolding encode_with
encode_lower-plain [] fits = refl
encode_lower-plain (b ∷ bytes) fits =
    let small : b < 256 = fits 0 in
    and_both _ _ (digit-plain (b / 16) (omega arith))
    (and_both _ _ (digit-plain (b % 16) (omega arith)) (encode_lower-plain bytes (λ i. fits (suc i))))

pub digit_glyph-plain : (d : ℕ) → d < 16 → is_plain (digit_glyph false d) ≡ true
digit_glyph-plain d below = grind (arith, nat_tests)

digits_onto-plain : (k n : ℕ) (s : List ℕ) → list_all is_plain s ≡ true → list_all is_plain (digits_onto k 16 false n s) ≡ true
digits_onto-plain zero n s plain = plain
digits_onto-plain (suc k) n s plain =
    let first : list_all is_plain (digit_glyph false (n % 16) ∷ s) ≡ true = and_both _ _ (digit_glyph-plain (n % 16) (omega arith)) plain in
    by (n / 16 == 0) _ _ first (digits_onto-plain k (n / 16) (digit_glyph false (n % 16) ∷ s) first)
  where
    by : (b : Bool) (x y : List ℕ) → list_all is_plain x ≡ true → list_all is_plain y ≡ true → list_all is_plain (if b then x else y) ≡ true
    by true x y here there = here
    by false x y here there = there

pub digits-plain : (n : ℕ) → list_all is_plain (digits 16 false n) ≡ true
unfolding digits
digits-plain n = digits_onto-plain 64 n [] refl

-- ---- texts

hex_text-plain : (s : List ℕ) → list_all is_plain s ≡ true → quoted (hex_text s) ≡ 34 ∷ 48 ∷ 120 ∷ (s ++ 34 ∷ [])
hex_text-plain s plain = quoted-plain (hex_text s) plain

pub number-text : (n : ℕ) → compact_text (hex_number.tree n) ≡ 34 ∷ 48 ∷ 120 ∷ (digits 16 false n ++ 34 ∷ [])
unfolding hex_number
number-text n = hex_text-plain (digits 16 false n) (digits-plain n)

pub byte_string-text : (bytes : List ℕ) → IsBytes bytes → compact_text (byte_string.tree bytes) ≡ 34 ∷ 48 ∷ 120 ∷ (encode_lower bytes ++ 34 ∷ [])
unfolding byte_string
byte_string-text bytes fits = hex_text-plain (encode_lower bytes) (encode_lower-plain bytes fits)

-- ---- what is put piece by piece

pub puts_more : {a b c : Text} {s t : List ℕ} → Puts a b s → Puts b c t → Puts a c (s ++ t)
puts_more {a} {b} {c} {s} {t} first second = record {
  is = λ long. (
      let here = second.is long in
      let before = first.is here.0 in
      (before.0, here.1 ∙ ap (λ (l : List ℕ). l ++ t) before.1 ∙ append_assoc a.bytes.items s t));
}

pub puts_same : {a b : Text} {s t : List ℕ} → s ≡ t → Puts a b s → Puts a b t
puts_same {a} {b} is put = subst (Puts a b) is put

pub key_put : {a b c d : Text} (mark : ℕ) (key : List ℕ) → list_all is_plain key ≡ true
    → Puts a b (mark ∷ 34 ∷ []) → Puts b c key → Puts c d (34 ∷ 58 ∷ []) → Puts a d (key_text mark key)
key_put mark key plain first second third =
    puts_same (ap (λ (l : List ℕ). mark ∷ 34 ∷ l) (sym (append_assoc key (34 ∷ []) (58 ∷ []))) ∙ ap (λ (l : List ℕ). mark ∷ (l ++ 58 ∷ [])) (sym (quoted-plain key plain)))
    (puts_more first (puts_more second third))

pub text_put : {a b c d : Text} (s : List ℕ) → list_all is_plain s ≡ true → Puts a b (34 ∷ []) → Puts b c s → Puts c d (34 ∷ []) → Puts a d (quoted s)
text_put s plain first second third = puts_same (sym (quoted-plain s plain)) (puts_more first (puts_more second third))

pub hex_put : {a b c e : Text} (d : Data) (s : List ℕ) → compact_text d ≡ 34 ∷ 48 ∷ 120 ∷ (s ++ 34 ∷ [])
    → Puts a b (34 ∷ 48 ∷ 120 ∷ []) → Puts b c s → Puts c e (34 ∷ []) → PutsTree a e d
hex_put d s is first second third = record { is = puts_same (sym is) (puts_more first (puts_more second third)) }

-- the digits of one byte more
pub digits_put : (out x y whole bytes : List ℕ) (i high low : ℕ) → i < length bytes
    → out ++ encode_lower (drop i bytes) ≡ whole
    → high ≡ slice_index lower_digits (slice_index bytes i / 16) → low ≡ slice_index lower_digits (slice_index bytes i % 16)
    → x ≡ out ++ high ∷ [] → y ≡ x ++ low ∷ [] → y ++ encode_lower (drop (i + 1) bytes) ≡ whole
unfolding encode_with
digits_put out x y whole bytes i high low within before is_high is_low first second =
    let rest : drop i bytes ≡ slice_index bytes i ∷ drop (suc i) bytes = drop-cons bytes i 0 within in
    let pieces : y ≡ (out ++ high ∷ []) ++ low ∷ [] = cc in
    let tidy : ((out ++ high ∷ []) ++ low ∷ []) ++ encode_lower (drop (suc i) bytes) ≡ out ++ (high ∷ low ∷ encode_lower (drop (suc i) bytes)) = simp append_assoc in
    rw add-one (ap (λ (l : List ℕ). l ++ encode_lower (drop (suc i) bytes)) pieces ∙ tidy
    ∙ ap (λ (c : ℕ). out ++ (c ∷ low ∷ encode_lower (drop (suc i) bytes))) is_high
    ∙ ap (λ (c : ℕ). out ++ (slice_index lower_digits (slice_index bytes i / 16) ∷ c ∷ encode_lower (drop (suc i) bytes))) is_low
    ∙ ap (λ (l : List ℕ). out ++ encode_lower l) (sym rest) ∙ before)

pub digits_end : (out whole bytes : List ℕ) (i : ℕ) → length bytes ≤ i → out ++ encode_lower (drop i bytes) ≡ whole → out ≡ whole
unfolding encode_with
digits_end out whole bytes i end before =
    sym (append-nil out) ∙ ap (λ (l : List ℕ). out ++ encode_lower l) (sym (drop_all i bytes end)) ∙ before

-- ---- the digits of a number

pub glyph : (d : ℕ) → d < 16 → slice_index lower_digits d ≡ digit_glyph false d
glyph d below = glyph-at 16 d refl below
  where
    same : ℕ → Bool
    same k = slice_index lower_digits k == digit_glyph false k

    all : ℕ → Bool
    all zero = true
    all (suc n) = same n && all n

    glyph-at : (n k : ℕ) → all n ≡ true → k < n → slice_index lower_digits k ≡ digit_glyph false k
    glyph-at zero k passed less = absurd (omega arith)
    glyph-at (suc n) k passed less =
        let parts = and_parts (same n) (all n) passed in
        elim (cases_lt k n) [
          | inl lower ↦ glyph-at n k parts.1 lower
          | inr top ↦ let e : k ≡ n = omega arith in rw e (eqb-true _ _ parts.0)
        ]

-- ---- a byte with names

pub named-zeroth : {old new : Text} (zeroth first : List ℕ) (b : ℕ) → b ≡ 0 → Puts old new (quoted zeroth) → PutsTree old new ((named_byte zeroth first).tree b)
unfolding named_byte
named-zeroth zeroth first b is put = rw is (record { is = put })

pub named-first : {old new : Text} (zeroth first : List ℕ) (b : ℕ) → b ≡ 1 → Puts old new (quoted first) → PutsTree old new ((named_byte zeroth first).tree b)
unfolding named_byte
named-first zeroth first b is put = rw is (record { is = put })

pub named-other : {old new : Text} (zeroth first : List ℕ) (b : ℕ) → (b ≡ 0 → ⊥) → (b ≡ 1 → ⊥)
    → PutsTree old new (byte_string.tree (b ∷ [])) → PutsTree old new ((named_byte zeroth first).tree b)
unfolding named_byte
named-other zeroth first b not_zero not_one put =
    let e : (b == 0) ≡ false = ne_eqb b 0 not_zero in
    let e' : (b == 1) ≡ false = ne_eqb b 1 not_one in
    rw (e, e') put
