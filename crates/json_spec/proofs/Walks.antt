-- One character more of a text by hand.
use Rattle.std.proofs.Common.{◌≡◌, ℕ, ◌+◌, ◌-◌, ◌*◌, ◌^◌, ◌<◌, ◌≤◌, Bool, true, false, ◌&&◌, List, ◌∷◌, drop, length, slice_index, refl, sym, ap, ◌∙◌, drop-cons, add-one, ltb-true}
use Rattle.std.specs.Prelude.{if◌then◌else◌, not, nat_lt, Option, Some, None}
use Rattle.std.proofs.lemmas.Bool.{and_parts}
use Rattle.std.proofs.lemmas.List.{drop_all}
use Rattle.json_spec.specs.Reading.{is_mark, put_together, value_after}

full : (b r : Bool) → r ≡ not b → r ≡ true → b ≡ false
full true r is holds = absurd (cc)
full false r is holds = refl

roomy : (b r : Bool) → r ≡ not b → r ≡ false → b ≡ true
roomy true r is fails = refl
roomy false r is fails = absurd (cc)

-- the characters from a place on
begins : (s : List ℕ) (i : ℕ) → i < length s → drop i s ≡ slice_index s i ∷ drop (i + 1) s
begins s i within = rw add-one (drop-cons s i 0 within)

abbrev by-mark : ℕ → ℕ → ℕ → ℕ → ℕ → List ℕ → Bool → Option ℕ
by-mark marks first second third c s mark = if mark then value_after (marks + 1) second third 0 s else value_after marks first second (third * 10 + (c - 48)) s

abbrev by-room : ℕ → ℕ → ℕ → ℕ → ℕ → List ℕ → Bool → Option ℕ
by-room marks first second third c s room = if room then by-mark marks first second third c s (is_mark c) else None

pub no-room : (marks first second third : ℕ) (s : List ℕ) (i : ℕ) (r : Bool) → i < length s → r ≡ not (nat_lt marks 3 && nat_lt third (2 ^ 24)) → r ≡ true → value_after marks first second third (drop i s) ≡ None
unfolding value_after
no-room marks first second third s i r within is holds =
    ap (value_after marks first second third) (begins s i within) ∙ ap (by-room marks first second third (slice_index s i) (drop (i + 1) s)) (full _ r is holds)

pub at-mark : (marks first second third : ℕ) (s : List ℕ) (i : ℕ) (r : Bool) → i < length s → r ≡ not (nat_lt marks 3 && nat_lt third (2 ^ 24)) → r ≡ false → is_mark (slice_index s i) ≡ true
    → value_after (marks + 1) second third 0 (drop (i + 1) s) ≡ value_after marks first second third (drop i s)
unfolding value_after
at-mark marks first second third s i r within is fails mark =
    sym (ap (value_after marks first second third) (begins s i within) ∙ ap (by-room marks first second third (slice_index s i) (drop (i + 1) s)) (roomy _ r is fails)
    ∙ ap (by-mark marks first second third (slice_index s i) (drop (i + 1) s)) mark)

pub at-digit : (marks first second third : ℕ) (s : List ℕ) (i : ℕ) (r : Bool) → i < length s → r ≡ not (nat_lt marks 3 && nat_lt third (2 ^ 24)) → r ≡ false → is_mark (slice_index s i) ≡ false
    → value_after marks first second (third * 10 + (slice_index s i - 48)) (drop (i + 1) s) ≡ value_after marks first second third (drop i s)
unfolding value_after
at-digit marks first second third s i r within is fails mark =
    sym (ap (value_after marks first second third) (begins s i within) ∙ ap (by-room marks first second third (slice_index s i) (drop (i + 1) s)) (roomy _ r is fails)
    ∙ ap (by-mark marks first second third (slice_index s i) (drop (i + 1) s)) mark)

pub at-end : (marks first second third : ℕ) (s : List ℕ) (i : ℕ) → length s ≤ i → value_after marks first second third (drop i s) ≡ Some (put_together marks first second third)
unfolding value_after
at-end marks first second third s i end = ap (value_after marks first second third) (drop_all i s end)

-- the same of equal numbers
pub of-equals : (marks first second third marks' first' second' third' : ℕ) (s : List ℕ) (whole : Option ℕ) → marks' ≡ marks → first' ≡ first → second' ≡ second → third' ≡ third
    → value_after marks first second third s ≡ whole → value_after marks' first' second' third' s ≡ whole
of-equals marks first second third marks' first' second' third' s whole m f g t is =
    (λ i. value_after (m i) (f i) (g i) (t i) s) ∙ is

-- where there is room
pub small : (marks third : ℕ) (r : Bool) → r ≡ not (nat_lt marks 3 && nat_lt third (2 ^ 24)) → r ≡ false → (marks < 3) × (third < 2 ^ 24)
small marks third r is fails =
    let parts = and_parts (nat_lt marks 3) (nat_lt third (2 ^ 24)) (roomy _ r is fails) in
    (ltb-true marks 3 parts.0, ltb-true third (2 ^ 24) parts.1)
