-- What the bits that are known of a word tell of the row that it matches.
use Rattle.std.proofs.Common.{◌≡◌, ◌≢◌, ℕ, Bool, true, false, cond, ◌&&◌, ◌||◌, ◌==◌, List, [], ◌∷◌, ◌++◌, Option, Some, None, bit_and, bit_or, inl, inr, refl, sym, ap, ◌∙◌, arith}
use Rattle.std.specs.List.{list_any, list_all, filter}
use Rattle.std.proofs.lemmas.Nat.{and_assoc, and_comm}
use Rattle.std.proofs.lemmas.Nat.Bits.{same_from_bits, bit_at_and, bit_at_or}
use Rattle.std.proofs.lemmas.Bool.{eq-eqb}
use Rattle.std.proofs.lemmas.Bool.Decides.{eqb_tells}
use Rattle.std.specs.Option.{option_or}
use Rattle.machine_defs.specs.declared.ins.Ins.{Ins}
use Rattle.machine_defs.specs.Row.{Row, Pattern, fits, matches, encoded_in}

pub and_swap : (w m n : ℕ) → bit_and (bit_and w m) n ≡ bit_and (bit_and w n) m
and_swap w m n = and_assoc n w m ∙ ap (bit_and w) (and_comm m n) ∙ sym (and_assoc m w n)

unless_false : (b c : Bool) → c ≡ false → cond b false c ≡ false
unless_false true c e = refl
unless_false false c e = e

pub not_equal : (a b : ℕ) → a ≢ b → (a == b) ≡ false
not_equal a b differ = elim (eqb_tells a b) [ inl t ↦ absurd (differ t.1) | inr f ↦ f.0 ]

-- ---- a word of a known pattern

-- a word of this pattern may match the row
abbrev pub may_match : Pattern → Row → Bool
may_match known row = bit_and row.pattern.value known.mask == bit_and known.value row.pattern.mask

apart : (w : ℕ) (known : Pattern) (row : Row) → bit_and w known.mask ≡ known.value → may_match known row ≡ false
    → matches w row ≡ false
apart w known row e h =
    unless_false (list_any (fits w) row.except) (fits w row.pattern) (not_equal _ _ (λ equal.
    let both : bit_and row.pattern.value known.mask ≡ bit_and known.value row.pattern.mask =
    ap (λ v. bit_and v known.mask) (sym equal) ∙ and_swap w row.pattern.mask known.mask
    ∙ ap (λ v. bit_and v row.pattern.mask) e in
    let may : may_match known row ≡ true = eq-eqb _ _ both in
    cc))

keep : (w : ℕ) (known : Pattern) (row : Row) (rows : List Row) → bit_and w known.mask ≡ known.value
    → encoded_in rows w ≡ encoded_in (filter (may_match known) rows) w
    → (b : Bool) → may_match known row ≡ b
    → encoded_in (row ∷ rows) w ≡ encoded_in (cond b (row ∷ filter (may_match known) rows) (filter (may_match known) rows)) w
unfolding encoded_in
keep w known row rows e rest true may = ap (λ r. cond (matches w row) (Some (row.instruction w)) r) rest
keep w known row rows e rest false may =
    ap (λ b. cond b (Some (row.instruction w)) (encoded_in rows w)) (apart w known row e may) ∙ rest

-- the rows that a word of a known pattern may not match tell nothing of it
pub narrowed : (rows : List Row) (w : ℕ) (known : Pattern) → bit_and w known.mask ≡ known.value
    → encoded_in rows w ≡ encoded_in (filter (may_match known) rows) w
unfolding encoded_in
narrowed [] w known e = refl
narrowed (row ∷ rows) w known e = keep w known row rows e (narrowed rows w known e) (may_match known row) refl

-- ---- a word whose field is none of some codes

-- the row has one of the codes in the field
abbrev pub has_code : ℕ → List ℕ → Row → Bool
has_code field codes row =
    (bit_and row.pattern.mask field == field) && list_any (λ code. bit_and row.pattern.value field == code) codes

pub both_true : (a b : Bool) → (a && b) ≡ true → (a ≡ true) × (b ≡ true)
both_true true b e = (refl, e)
both_true false b e = cc

pub equal_from_true : (a b : ℕ) → (a == b) ≡ true → a ≡ b
equal_from_true a b e = elim (eqb_tells a b) [ inl t ↦ t.1 | inr f ↦ (let differ = f.0 in cc) ]

other_code : (w field : ℕ) (codes : List ℕ) (row : Row) → has_code field codes row ≡ true
    → list_any (λ code. bit_and w field == code) codes ≡ false → matches w row ≡ false
other_code w field codes row has none =
    unless_false (list_any (fits w) row.except) (fits w row.pattern) (not_equal _ _ (λ equal.
    let parts = both_true (bit_and row.pattern.mask field == field) (list_any (λ code. bit_and row.pattern.value field == code) codes) has in
    let whole : bit_and row.pattern.mask field ≡ field = equal_from_true _ _ parts.0 in
    let same : bit_and row.pattern.value field ≡ bit_and w field =
    ap (λ v. bit_and v field) (sym equal) ∙ and_assoc field w row.pattern.mask ∙ ap (bit_and w) whole in
    let some : list_any (λ code. bit_and w field == code) codes ≡ true =
    ap (λ v. list_any (λ code. v == code) codes) (sym same) ∙ parts.1 in
    cc))

pub none_of : (rows : List Row) (w field : ℕ) (codes : List ℕ) → list_all (has_code field codes) rows ≡ true
    → list_any (λ code. bit_and w field == code) codes ≡ false → encoded_in rows w ≡ None
unfolding encoded_in
none_of [] w field codes all none = refl
none_of (row ∷ rows) w field codes all none =
    let parts = both_true (has_code field codes row) (list_all (has_code field codes) rows) all in
    ap (λ b. cond b (Some (row.instruction w)) (encoded_in rows w)) (other_code w field codes row parts.0 none)
    ∙ none_of rows w field codes parts.1 none

-- a row without exceptions, of which the word has the pattern
pub hit : (w : ℕ) (row : Row) → row.except ≡ [] → bit_and w row.pattern.mask ≡ row.pattern.value
    → encoded_in (row ∷ []) w ≡ Some (row.instruction w)
unfolding encoded_in
hit w row all e =
    let found : fits w row.pattern ≡ true = eq-eqb _ _ e in
    rw all (rw found refl)

-- ---- the bits under two masks

-- what is known under a mask is known under each part of it
pub implied : (w mask value part : ℕ) → bit_and w mask ≡ value → bit_and mask part ≡ part → bit_and w part ≡ bit_and value part
implied w mask value part e within =
    ap (bit_and w) (sym within) ∙ sym (and_assoc part w mask) ∙ ap (λ v. bit_and v part) e

-- what is known under two masks is known under both together
pub joined : (w m n : ℕ) → bit_and w (bit_or m n) ≡ bit_or (bit_and w m) (bit_and w n)
joined w m n = same_from_bits _ _ (λ i.
    simp (bit_at_and, bit_at_or) (omega arith))

-- ---- rows side by side

or_else : (b : Bool) (i : Ins) (first second : Option Ins)
    → cond b (Some i) (option_or first second) ≡ option_or (cond b (Some i) first) second
or_else true i first second = refl
or_else false i first second = refl

pub encoded_in-append : (xs ys : List Row) (w : ℕ) → encoded_in (xs ++ ys) w ≡ option_or (encoded_in xs w) (encoded_in ys w)
unfolding encoded_in
encoded_in-append [] ys w = refl
encoded_in-append (row ∷ xs) ys w =
    ap (λ r. cond (matches w row) (Some (row.instruction w)) r) (encoded_in-append xs ys w)
    ∙ or_else (matches w row) (row.instruction w) (encoded_in xs w) (encoded_in ys w)

option_or-none : (o : Option Ins) → option_or o None ≡ o
option_or-none (Some i) = refl
option_or-none None = refl

-- rows that the word does not match, after others
pub encoded_in-before : (xs ys : List Row) (w : ℕ) → encoded_in ys w ≡ None → encoded_in (xs ++ ys) w ≡ encoded_in xs w
encoded_in-before xs ys w none =
    encoded_in-append xs ys w ∙ ap (option_or (encoded_in xs w)) none ∙ option_or-none (encoded_in xs w)
