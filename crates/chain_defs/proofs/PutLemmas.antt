-- On rows that are put back, at one out-point.
use Rattle.std.proofs.Common.{◌≡◌, Bool, true, false, List, [], ◌∷◌, ◌++◌, Option, Some, None, if◌then◌else◌, refl, ap, ◌∙◌}
use Rattle.std.specs.List.{find}
use Rattle.chain_defs.specs.Schema.{OutPoint}
use Rattle.chain_defs.specs.Events.{Event, Makes, Spends, same_out_point, out_point_of, names}
use Rattle.chain_defs.specs.Row.{Row}
use Rattle.chain_defs.proofs.EventLemmas.{out_points-same}
use Rattle.chain_defs.specs.Undo.{without, row_at, row_spent, spent_of, with_row, with_rows}

-- what a list puts at an out-point, over what is there
abbrev pub put_at : List (OutPoint × Row) → OutPoint → Option Row → Option Row
put_at [] o found = found
put_at (one ∷ later) o found = put_at later o (if same_out_point one.0 o then Some one.1 else found)

pub with_rows-at : (list : List (OutPoint × Row)) (rows : OutPoint → Option Row) (o : OutPoint) → with_rows list rows o ≡ put_at list o (rows o)
with_rows-at [] rows o = refl
with_rows-at (one ∷ later) rows o = with_rows-at later (with_row one rows) o

put_at-append : (xs ys : List (OutPoint × Row)) (o : OutPoint) (found : Option Row) → put_at (xs ++ ys) o found ≡ put_at ys o (put_at xs o found)
put_at-append [] ys o found = refl
put_at-append (one ∷ xs) ys o found = put_at-append xs ys o (if same_out_point one.0 o then Some one.1 else found)

-- ---- The row that one event spends

row_at-apart : (p : OutPoint) (row : Option Row) (o : OutPoint) (found : Option Row) → same_out_point p o ≡ false → put_at (row_at p row) o found ≡ found
row_at-apart p None o found apart = refl
row_at-apart p (Some row) o found apart = ap (λ (b : Bool). if b then Some row else found) apart

spent-apart : (event : Event) (rows : OutPoint → Option Row) (o : OutPoint) (found : Option Row) → names o event ≡ false → put_at (row_spent event rows) o found ≡ found
spent-apart (Makes p cell) rows o found apart = refl
spent-apart (Spends p) rows o found apart = row_at-apart p (rows p) o found apart

spent-none : (event : Event) (rows : OutPoint → Option Row) (o : OutPoint) (found : Option Row) → rows o ≡ None → put_at (row_spent event rows) o found ≡ found
spent-none (Makes p cell) rows o found none = refl
spent-none (Spends p) rows o found none = by_test (same_out_point p o) refl
  where
    by_test : (b : Bool) → same_out_point p o ≡ b → put_at (row_at p (rows p)) o found ≡ found
    by_test true same = ap (λ (row : Option Row). put_at (row_at p row) o found) (ap rows (out_points-same p o same) ∙ none)
    by_test false apart = row_at-apart p (rows p) o found apart

-- what the rows spent put at an out-point, by the first event that names it
abbrev pub given_back : Option Event → Option Row → Option Row → Option Row
given_back None row found = found
given_back (Some (Makes p cell)) row found = found
given_back (Some (Spends p)) None found = found
given_back (Some (Spends p)) (Some row) found = Some row

spent-named : (event : Event) (rows : OutPoint → Option Row) (o : OutPoint) (found : Option Row) → names o event ≡ true
    → put_at (row_spent event rows) o found ≡ given_back (Some event) (rows o) found
spent-named (Makes p cell) rows o found named = refl
spent-named (Spends p) rows o found named =
    by_row (rows p) ∙ ap (λ (row : Option Row). given_back (Some (Spends p)) row found) (ap rows (out_points-same p o named))
  where
    by_row : (row : Option Row) → put_at (row_at p row) o found ≡ given_back (Some (Spends p)) row found
    by_row None = refl
    by_row (Some row) = ap (λ (b : Bool). if b then Some row else found) named

-- ---- The rows that events spend

without-none : (gone : OutPoint) (rows : OutPoint → Option Row) (o : OutPoint) → rows o ≡ None → without gone rows o ≡ None
without-none gone rows o none = by_test (same_out_point gone o)
  where
    by_test : (b : Bool) → (if b then None else rows o) ≡ None
    by_test true = refl
    by_test false = none

-- where no row is there, none is put there
all-none : (events : List Event) (rows : OutPoint → Option Row) (o : OutPoint) (found : Option Row) → rows o ≡ None → put_at (spent_of events rows) o found ≡ found
unfolding spent_of
all-none [] rows o found none = refl
all-none (event ∷ later) rows o found none =
    put_at-append (row_spent event rows) (spent_of later (without (out_point_of event) rows)) o found
    ∙ all-none later (without (out_point_of event) rows) o (put_at (row_spent event rows) o found) (without-none (out_point_of event) rows o none)
    ∙ spent-none event rows o found none

pub spent-at : (events : List Event) (rows : OutPoint → Option Row) (o : OutPoint) (found : Option Row)
    → put_at (spent_of events rows) o found ≡ given_back (find (names o) events) (rows o) found
unfolding spent_of
spent-at [] rows o found = refl
spent-at (event ∷ later) rows o found =
    put_at-append (row_spent event rows) (spent_of later (without (out_point_of event) rows)) o found
    ∙ by_test (names o event) refl (spent-at later (without (out_point_of event) rows) o (put_at (row_spent event rows) o found))
  where
    first : Option Row
    first = put_at (row_spent event rows) o found

    by_test : (b : Bool) → names o event ≡ b
        → put_at (spent_of later (without (out_point_of event) rows)) o first ≡ given_back (find (names o) later) (without (out_point_of event) rows o) first
        → put_at (spent_of later (without (out_point_of event) rows)) o first ≡ given_back (if b then Some event else find (names o) later) (rows o) found
    by_test true named rest =
        all-none later (without (out_point_of event) rows) o first (ap (λ (b : Bool). if b then None else rows o) named)
        ∙ spent-named event rows o found named
    by_test false apart rest =
        rest
        ∙ ap (λ (row : Option Row). given_back (find (names o) later) row first) (ap (λ (b : Bool). if b then None else rows o) apart)
        ∙ ap (λ (row : Option Row). given_back (find (names o) later) (rows o) row) (spent-apart event rows o found apart)
