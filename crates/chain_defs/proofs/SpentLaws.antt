-- Which rows events spend.
use Rattle.std.proofs.Common.{◌≡◌, ℕ, zero, suc, ◌⊎◌, inl, inr, ⊎_elim, Bool, true, false, List, [], ◌∷◌, ◌++◌, ◌<◌, length, get_or, Option, Some, None, if◌then◌else◌, refl, sym, ap, ◌∙◌, subst, arith}
use Rattle.std.specs.Prelude.{IsTrue}
use Rattle.std.specs.List.{Contains, AllPairs, find}
use Rattle.std.proofs.lemmas.List.Kept.{AllPairs-cons}
use Rattle.std.proofs.lemmas.Option.{slice_get-get_or, get_or_from_slice_get}
use Rattle.chain_defs.specs.Schema.{OutPoint}
use Rattle.chain_defs.specs.Events.{Event, Makes, Spends, same_out_point, names}
use Rattle.chain_defs.specs.Row.{Row}
use Rattle.chain_defs.proofs.EventLemmas.{out_points-same}
use Rattle.chain_defs.specs.Undo.{without, row_at, spent_of}
use Rattle.chain_defs.specs.UndoLaws.{is_spend, SpendsRowsOnce}
use Rattle.chain_defs.proofs.NamingLemmas.{out_point-self}
use Rattle.chain_defs.proofs.BackLaws.{there-apart, spend-later}

-- ---- Elements

Contains-cons : {X : Type 0} (x : X) (xs : List X) (y : X) → Contains (x ∷ xs) y → (x ≡ y) ⊎ Contains xs y
Contains-cons x xs y (zero, lt, is) = inl is
Contains-cons x xs y (suc k, lt, is) = inr (k, omega (arith, lt), is)

Contains-here : {X : Type 0} (x : X) (xs : List X) → Contains (x ∷ xs) x
Contains-here x xs = (0, omega arith, refl)

Contains-there : {X : Type 0} (x : X) (xs : List X) (y : X) → Contains xs y → Contains (x ∷ xs) y
Contains-there x xs y (k, lt, is) = (suc k, omega (arith, lt), is)

Contains-at : {X : Type 0} (xs : List X) (k : ℕ) (d : X) → k < length xs → Contains xs (get_or xs k d)
Contains-at xs k d within = (k, within, get_or_from_slice_get xs k (get_or xs k d) (get_or xs k d) (slice_get-get_or xs k d within))

-- ---- Each row that is spent is there, and spent first

abbrev IsSpentRow : List Event → (OutPoint → Option Row) → OutPoint → Row → Type 0
IsSpentRow events rows o row = (rows o ≡ Some row) × IsTrue (is_spend (find (names o) events))

later-spent : (event : Event) (p : OutPoint) (later : List Event) (rows : OutPoint → Option Row) (o : OutPoint) (row : Row)
    → ((b : Bool) → same_out_point p o ≡ b → names o event ≡ b) → IsSpentRow later (without p rows) o row → IsSpentRow (event ∷ later) rows o row
later-spent event p later rows o row named it =
    let there = there-apart p rows o row it.0 in
    (there.there, spend-later event later o (named false there.apart) it.1)

spends-self : (p : OutPoint) (later : List Event) → IsTrue (is_spend (find (names p) (Spends p ∷ later)))
spends-self p later = subst (λ (b : Bool). IsTrue (is_spend (if b then Some (Spends p) else find (names p) later))) (sym (out_point-self p)) refl

spent-row : (events : List Event) (rows : OutPoint → Option Row) (o : OutPoint) (row : Row) → Contains (spent_of events rows) (o, row) → IsSpentRow events rows o row
unfolding spent_of
spent-row [] rows o row (k, lt, is) = absurd (omega (arith, lt))
spent-row (Makes p cell ∷ later) rows o row has = later-spent (Makes p cell) p later rows o row (λ b is. is) (spent-row later (without p rows) o row has)
spent-row (Spends p ∷ later) rows o row has = by_row (rows p) refl has (spent-row later (without p rows) o row)
  where
    by_row : (found : Option Row) → rows p ≡ found → Contains (row_at p found ++ spent_of later (without p rows)) (o, row)
        → (Contains (spent_of later (without p rows)) (o, row) → IsSpentRow later (without p rows) o row) → IsSpentRow (Spends p ∷ later) rows o row
    by_row None is in_list rest = later-spent (Spends p) p later rows o row (λ b test. test) (rest in_list)
    by_row (Some found) is in_list rest =
        ⊎_elim
        (λ here. subst (λ (one : OutPoint × Row). IsSpentRow (Spends p ∷ later) rows one.0 one.1) here (is, spends-self p later))
        (λ there. later-spent (Spends p) p later rows o row (λ b test. test) (rest there))
        (Contains-cons (p, found) (spent_of later (without p rows)) (o, row) in_list)

-- ---- and each such row is spent

after-row : (p : OutPoint) (found : Option Row) (later : List (OutPoint × Row)) (one : OutPoint × Row) → Contains later one → Contains (row_at p found ++ later) one
after-row p None later one has = has
after-row p (Some row) later one has = Contains-there (p, row) later one has

row-spent : (events : List Event) (rows : OutPoint → Option Row) (o : OutPoint) (row : Row) → rows o ≡ Some row → IsTrue (is_spend (find (names o) events))
    → Contains (spent_of events rows) (o, row)
unfolding spent_of
row-spent [] rows o row is spend = absurd (cc)
row-spent (Makes p cell ∷ later) rows o row is spend = by_test (same_out_point p o) refl spend (row-spent later (without p rows) o row)
  where
    by_test : (b : Bool) → same_out_point p o ≡ b → IsTrue (is_spend (if b then Some (Makes p cell) else find (names o) later))
        → (without p rows o ≡ Some row → IsTrue (is_spend (find (names o) later)) → Contains (spent_of later (without p rows)) (o, row))
        → Contains (spent_of later (without p rows)) (o, row)
    by_test true same it rest = absurd (cc)
    by_test false apart it rest = rest (ap (λ (b : Bool). if b then None else rows o) apart ∙ is) it
row-spent (Spends p ∷ later) rows o row is spend = by_test (same_out_point p o) refl spend (row-spent later (without p rows) o row)
  where
    by_test : (b : Bool) → same_out_point p o ≡ b → IsTrue (is_spend (if b then Some (Spends p) else find (names o) later))
        → (without p rows o ≡ Some row → IsTrue (is_spend (find (names o) later)) → Contains (spent_of later (without p rows)) (o, row))
        → Contains (row_at p (rows p) ++ spent_of later (without p rows)) (o, row)
    by_test true same it rest =
        let one : p ≡ o = out_points-same p o same in
        subst (λ (found : Option Row). Contains (row_at p found ++ spent_of later (without p rows)) (o, row)) (sym (ap rows one ∙ is))
        (subst (λ (q : OutPoint). Contains ((p, row) ∷ spent_of later (without p rows)) (q, row)) one (Contains-here (p, row) (spent_of later (without p rows))))
    by_test false apart it rest =
        after-row p (rows p) (spent_of later (without p rows)) (o, row) (rest (ap (λ (b : Bool). if b then None else rows o) apart ∙ is) it)

-- ---- No out-point is spent twice

abbrev IsApart : OutPoint × Row → OutPoint × Row → Type 0
IsApart one other = same_out_point one.0 other.0 ≡ false

once : (events : List Event) (rows : OutPoint → Option Row) → AllPairs IsApart (spent_of events rows)
unfolding spent_of
once [] rows = λ i j d before within. absurd (omega (arith, within))
once (Makes p cell ∷ later) rows = once later (without p rows)
once (Spends p ∷ later) rows = by_row (rows p) (once later (without p rows))
  where
    by_row : (found : Option Row) → AllPairs IsApart (spent_of later (without p rows)) → AllPairs IsApart (row_at p found ++ spent_of later (without p rows))
    by_row None rest = rest
    by_row (Some found) rest =
        AllPairs-cons IsApart (p, found) (spent_of later (without p rows))
        (λ k d within.
        let one = get_or (spent_of later (without p rows)) k d in
        let has = Contains-at (spent_of later (without p rows)) k d within in
        (there-apart p rows one.0 one.1 (spent-row later (without p rows) one.0 one.1 has).0).apart)
        rest

pub spends-rows-once : SpendsRowsOnce
spends-rows-once events rows = record {
  once = once events rows;
  each = λ o row. (spent-row events rows o row, λ it. row-spent events rows o row it.0 it.1);
}
