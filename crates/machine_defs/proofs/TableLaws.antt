-- The laws of the instruction table, from tests that the check computes over its rows.
use Rattle.std.proofs.Common.{◌≡◌, ℕ, zero, suc, ◌+◌, ◌-◌, ◌<◌, ◌^◌, Bool, true, false, cond, ◌&&◌, ◌||◌, ◌==◌, nat_lt, if◌then◌else◌, List, [], ◌∷◌, Some, slice_get, bit_and, inl, inr, ◌⊎◌, refl, sym, ap, ◌∙◌, arith}
use Rattle.std.specs.List.{list_any, list_all}
use Rattle.std.proofs.lemmas.Bool.{eq-eqb}
use Rattle.std.proofs.lemmas.Bool.Decides.{nat_tests}
use Rattle.machine_defs.specs.Row.{Row, Pattern, fits, matches, IsUnambiguous, HasWords}
use Rattle.machine_defs.specs.Table.{full_forms}
use Rattle.machine_defs.specs.Compressed.{compressed_forms}
use Rattle.machine_defs.proofs.RowLaws.{and_swap, both_true, equal_from_true, implied}

-- ---- rows that no word matches both

-- the values differ where both masks look
abbrev pub conflict : Pattern → Pattern → Bool
conflict p q = if bit_and p.value q.mask == bit_and q.value p.mask then false else true

-- each word of the pattern fits the other
abbrev pub within : Pattern → Pattern → Bool
within p q = (bit_and p.mask q.mask == q.mask) && (bit_and p.value q.mask == q.value)

abbrev pub are_apart : Row → Row → Bool
are_apart row other =
    conflict row.pattern other.pattern || list_any (within row.pattern) other.except
    || list_any (within other.pattern) row.except

abbrev pub all_apart : List Row → Bool
all_apart [] = true
all_apart (row ∷ rows) = list_all (are_apart row) rows && all_apart rows

pub full_forms_apart : all_apart full_forms ≡ true
unfolding full_forms
full_forms_apart = refl

pub compressed_forms_apart : all_apart compressed_forms ≡ true
unfolding compressed_forms
compressed_forms_apart = refl

-- all free bits of the pattern are 1
abbrev pub full_word : ℕ → Row → ℕ
full_word width row = row.pattern.value + (2 ^ width - 1 - row.pattern.mask)

abbrev pub has_word : ℕ → Row → Bool
has_word width row = nat_lt (full_word width row) (2 ^ width) && matches (full_word width row) row

pub full_forms_words : list_all (has_word 32) full_forms ≡ true
unfolding full_forms
full_forms_words = refl

pub compressed_forms_words : list_all (has_word 16) compressed_forms ≡ true
unfolding compressed_forms
compressed_forms_words = refl

-- ---- what the tests tell

or_true : (a b : Bool) → (a || b) ≡ true → (a ≡ true) ⊎ (b ≡ true)
or_true true b e = inl refl
or_true false b e = inr e

or_right : (a b : Bool) → b ≡ true → (a || b) ≡ true
or_right true b e = refl
or_right false b e = e

match_parts : (b c : Bool) → cond b false c ≡ true → (b ≡ false) × (c ≡ true)
match_parts true c e = cc
match_parts false c e = (refl, e)

both_fit : (w : ℕ) (p q : Pattern) → conflict p q ≡ true → fits w p ≡ true → fits w q ≡ true → ⊥
both_fit w p q differ fit fit' =
    let e : bit_and w p.mask ≡ p.value = equal_from_true _ _ fit in
    let e' : bit_and w q.mask ≡ q.value = equal_from_true _ _ fit' in
    let same : bit_and p.value q.mask ≡ bit_and q.value p.mask =
    ap (λ v. bit_and v q.mask) (sym e) ∙ and_swap w p.mask q.mask ∙ ap (λ v. bit_and v p.mask) e' in
    let equal : (bit_and p.value q.mask == bit_and q.value p.mask) ≡ true = eq-eqb _ _ same in
    let agree : conflict p q ≡ false = rw equal refl in
    cc

fits_within : (w : ℕ) (p q : Pattern) → within p q ≡ true → fits w p ≡ true → fits w q ≡ true
fits_within w p q inside fit =
    let parts = both_true (bit_and p.mask q.mask == q.mask) (bit_and p.value q.mask == q.value) inside in
    let e : bit_and w p.mask ≡ p.value = equal_from_true _ _ fit in
    let part : bit_and p.mask q.mask ≡ q.mask = equal_from_true _ _ parts.0 in
    let value : bit_and p.value q.mask ≡ q.value = equal_from_true _ _ parts.1 in
    eq-eqb _ _ (implied w p.mask p.value q.mask e part ∙ value)

fits_some : (w : ℕ) (p : Pattern) (qs : List Pattern) → fits w p ≡ true → list_any (within p) qs ≡ true
    → list_any (fits w) qs ≡ true
fits_some w p [] fit some = some
fits_some w p (q ∷ qs) fit some =
    elim (or_true (within p q) (list_any (within p) qs) some) [
      | inl here ↦ ap (λ b. b || list_any (fits w) qs) (fits_within w p q here fit)
      | inr later ↦ or_right (fits w q) (list_any (fits w) qs) (fits_some w p qs fit later)
    ]

apart_sound : (w : ℕ) (row other : Row) → are_apart row other ≡ true → matches w row ≡ true → matches w other ≡ true → ⊥
apart_sound w row other apart match match' =
    let first = match_parts (list_any (fits w) row.except) (fits w row.pattern) match in
    let second = match_parts (list_any (fits w) other.except) (fits w other.pattern) match' in
    elim (or_true (conflict row.pattern other.pattern || list_any (within row.pattern) other.except) (list_any (within other.pattern) row.except) apart) [
      | inl either ↦ elim (or_true (conflict row.pattern other.pattern) (list_any (within row.pattern) other.except) either) [
        | inl differ ↦ both_fit w row.pattern other.pattern differ first.1 second.1
        | inr inside ↦ (let some = fits_some w row.pattern other.except first.1 inside in let none = second.0 in cc)
      ]
      | inr inside ↦ (let some = fits_some w other.pattern row.except second.1 inside in let none = first.0 in cc)
    ]

all_at : (test : Row → Bool) (rows : List Row) (i : ℕ) (row : Row) → list_all test rows ≡ true → slice_get rows i ≡ Some row
    → test row ≡ true
all_at test [] i row all at = cc
all_at test (first ∷ rows) zero row all at =
    let parts = both_true (test first) (list_all test rows) all in
    let same : first ≡ row = cc in
    ap test (sym same) ∙ parts.0
all_at test (first ∷ rows) (suc i) row all at =
    let parts = both_true (test first) (list_all test rows) all in
    all_at test rows i row parts.1 at

first_apart : (w : ℕ) (first : Row) (rows : List Row) (row other : Row) (j : ℕ) → list_all (are_apart first) rows ≡ true
    → first ≡ row → slice_get rows j ≡ Some other → matches w row ≡ true → matches w other ≡ true → ⊥
first_apart w first rows row other j apart same at match match' =
    apart_sound w row other (ap (λ r. are_apart r other) (sym same) ∙ all_at (are_apart first) rows j other apart at) match match'

pub unambiguous : (rows : List Row) → all_apart rows ≡ true → IsUnambiguous rows
unambiguous [] apart w i j row other at at' match match' = cc
unambiguous (first ∷ rows) apart w zero zero row other at at' match match' = refl
unambiguous (first ∷ rows) apart w zero (suc j) row other at at' match match' =
    let parts = both_true (list_all (are_apart first) rows) (all_apart rows) apart in
    let same : first ≡ row = cc in
    absurd (first_apart w first rows row other j parts.0 same at' match match')
unambiguous (first ∷ rows) apart w (suc i) zero row other at at' match match' =
    let parts = both_true (list_all (are_apart first) rows) (all_apart rows) apart in
    let same : first ≡ other = cc in
    absurd (first_apart w first rows other row i parts.0 same at match' match)
unambiguous (first ∷ rows) apart w (suc i) (suc j) row other at at' match match' =
    let parts = both_true (list_all (are_apart first) rows) (all_apart rows) apart in
    ap suc (unambiguous rows parts.1 w i j row other at at' match match')

below : (a b : ℕ) → nat_lt a b ≡ true → a < b
below a b e = grind (arith, nat_tests)

pub has_words : (width : ℕ) (rows : List Row) → list_all (has_word width) rows ≡ true → HasWords width rows
has_words width rows all i row at =
    let has = all_at (has_word width) rows i row all at in
    let parts = both_true (nat_lt (full_word width row) (2 ^ width)) (matches (full_word width row) row) has in
    (full_word width row, below _ _ parts.0, parts.1)

pub full_forms_unambiguous : IsUnambiguous full_forms
full_forms_unambiguous = unambiguous full_forms full_forms_apart

pub compressed_forms_unambiguous : IsUnambiguous compressed_forms
compressed_forms_unambiguous = unambiguous compressed_forms compressed_forms_apart

pub full_forms_have_words : HasWords 32 full_forms
full_forms_have_words = has_words 32 full_forms full_forms_words

pub compressed_forms_have_words : HasWords 16 compressed_forms
compressed_forms_have_words = has_words 16 compressed_forms compressed_forms_words
