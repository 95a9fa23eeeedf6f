-- On the rows that the events of a transaction spend.
use Rattle.std.proofs.Common.{◌≡◌, ℕ, ◌+◌, Bool, true, false, cond, List, [], ◌∷◌, ◌++◌, map, Option, Some, None, if◌then◌else◌, refl, sym, ap, ◌∙◌}
use Rattle.std.specs.Prelude.{◌||◌, not}
use Rattle.std.specs.Option.{option_or}
use Rattle.std.specs.List.{list_any}
use Rattle.std.specs.Str.{bytes_eq}
use Rattle.std.proofs.lemmas.Bool.{and_parts, or_parts, not-true, false_from_ne_true}
use Rattle.std.proofs.lemmas.List.{append_assoc}
use Rattle.std.proofs.lemmas.Slice.Eq.{bytes_eq-Decides}
use Rattle.chain_defs.specs.Schema.{OutPoint, CellInput, CellOutput, Transaction}
use Rattle.chain_defs.specs.Hashes.{transaction_hash, are_distinct}
use Rattle.chain_defs.specs.Events.{Event, Spends, out_point_of, same_out_point, names, last_naming, makes_from}
use Rattle.chain_defs.specs.Row.{Row}
use Rattle.chain_defs.proofs.EventLemmas.{out_points-same, last_naming-step}
use Rattle.chain_defs.specs.Undo.{without, row_at, row_spent, spent_of}

-- ---- The rows that events leave of those before them

abbrev pub left : List Event → (OutPoint → Option Row) → OutPoint → Option Row
left [] rows = rows
left (event ∷ later) rows = left later (without (out_point_of event) rows)

pub left-at : (done : List Event) (rows : OutPoint → Option Row) (o : OutPoint) → left done rows o ≡ (if list_any (names o) done then None else rows o)
left-at [] rows o = refl
left-at (event ∷ later) rows o = left-at later (without (out_point_of event) rows) o ∙ by_test (names o event) (list_any (names o) later)
  where
    by_test : (b any : Bool) → (if any then None else if b then None else rows o) ≡ (if b || any then None else rows o)
    by_test true true = refl
    by_test true false = refl
    by_test false any = refl

pub left-append : (xs ys : List Event) (rows : OutPoint → Option Row) → left (xs ++ ys) rows ≡ left ys (left xs rows)
left-append [] ys rows = refl
left-append (event ∷ xs) ys rows = left-append xs ys (without (out_point_of event) rows)

pub spent-append : (xs ys : List Event) (rows : OutPoint → Option Row) → spent_of (xs ++ ys) rows ≡ spent_of xs rows ++ spent_of ys (left xs rows)
unfolding spent_of
spent-append [] ys rows = refl
spent-append (event ∷ xs) ys rows =
    let gone = without (out_point_of event) rows in
    ap (λ (list : List (OutPoint × Row)). row_spent event rows ++ list) (spent-append xs ys gone)
    ∙ sym (append_assoc (row_spent event rows) (spent_of xs gone) (spent_of ys (left xs gone)))

pub spent-nil : (rows : OutPoint → Option Row) → spent_of [] rows ≡ []
unfolding spent_of
spent-nil rows = refl

-- makes spend nothing
pub makes-none : (index : ℕ) (outputs : List CellOutput) (t : Transaction) (height place : ℕ) (rows : OutPoint → Option Row)
    → spent_of (makes_from index outputs t height place) rows ≡ []
unfolding spent_of
makes-none index [] t height place rows = refl
makes-none index (output ∷ outputs) t height place rows =
    makes-none (index + 1) outputs t height place (without (record { tx_hash = transaction_hash t; index = index }) rows)

-- ---- Inputs

-- the rows that there are of the out-points of inputs
abbrev pub rows_of : List CellInput → (OutPoint → Option Row) → List (OutPoint × Row)
rows_of [] rows = []
rows_of (input ∷ later) rows = row_at input.previous_output (rows input.previous_output) ++ rows_of later rows

-- out-points whose codes differ are not one
apart-by-code : (code : OutPoint → List ℕ) (o other : OutPoint) → bytes_eq (code other) (code o) ≡ false → same_out_point o other ≡ false
apart-by-code code o other apart = false_from_ne_true (same_out_point o other) same
  where
    same : same_out_point o other ≡ true → ⊥
    same is = let one : bytes_eq (code other) (code o) ≡ true = (bytes_eq-Decides (code other) (code o)).1 (ap code (sym (out_points-same o other is))) in cc

rows-apart : (code : OutPoint → List ℕ) (o : OutPoint) (inputs : List CellInput) (rows : OutPoint → Option Row)
    → list_any (λ other. bytes_eq other (code o)) (map (λ (input : CellInput). code input.previous_output) inputs) ≡ false
    → rows_of inputs (without o rows) ≡ rows_of inputs rows
rows-apart code o [] rows apart = refl
rows-apart code o (input ∷ later) rows apart =
    let p = input.previous_output in
    let parts = or_parts (bytes_eq (code p) (code o)) (list_any (λ other. bytes_eq other (code o)) (map (λ (other : CellInput). code other.previous_output) later)) apart in
    ap (λ (b : Bool). row_at p (if b then None else rows p) ++ rows_of later (without o rows)) (apart-by-code code o p parts.0)
    ∙ ap (λ (list : List (OutPoint × Row)). row_at p (rows p) ++ list) (rows-apart code o later rows parts.1)

-- distinct inputs spend the rows of their out-points
pub spent-inputs : (code : OutPoint → List ℕ) (inputs : List CellInput) (rows : OutPoint → Option Row)
    → are_distinct (map (λ (input : CellInput). code input.previous_output) inputs) ≡ true
    → spent_of (map (λ (input : CellInput). Spends input.previous_output) inputs) rows ≡ rows_of inputs rows
unfolding spent_of
spent-inputs code [] rows distinct = refl
spent-inputs code (input ∷ later) rows distinct =
    let p = input.previous_output in
    let new : Bool = list_any (λ other. bytes_eq other (code p)) (map (λ (other : CellInput). code other.previous_output) later) in
    let parts = and_parts (not new) (are_distinct (map (λ (other : CellInput). code other.previous_output) later)) distinct in
    ap (λ (list : List (OutPoint × Row)). row_at p (rows p) ++ list)
    (spent-inputs code later (without p rows) parts.1 ∙ rows-apart code p later rows (not-true new parts.0))

-- ---- Whether events name an out-point

or-true : (b c : Bool) → c ≡ true → (b || c) ≡ true
or-true true c is = refl
or-true false c is = is

pub unnamed-any : (o : OutPoint) (done : List Event) → last_naming o done ≡ None → list_any (names o) done ≡ false
unfolding last_naming
unnamed-any o [] none = refl
unnamed-any o (event ∷ later) none =
    by_last (last_naming o later) refl (names o event) refl (sym (last_naming-step o event later) ∙ none) (unnamed-any o later)
  where
    by_last : (last : Option Event) → last_naming o later ≡ last → (b : Bool) → names o event ≡ b → option_or last (cond b (Some event) None) ≡ None
        → (last_naming o later ≡ None → list_any (names o) later ≡ false) → (names o event || list_any (names o) later) ≡ false
    by_last (Some last) here b test gone rest = absurd (cc)
    by_last None here true test gone rest = absurd (cc)
    by_last None here false test gone rest = ap (λ (b : Bool). b || list_any (names o) later) test ∙ rest here

pub named-any : (o : OutPoint) (done : List Event) (event : Event) → last_naming o done ≡ Some event → list_any (names o) done ≡ true
unfolding last_naming
named-any o [] event is = absurd (cc)
named-any o (first ∷ later) event is =
    by_last (last_naming o later) refl (names o first) refl (sym (last_naming-step o first later) ∙ is) (named-any o later event)
  where
    by_last : (last : Option Event) → last_naming o later ≡ last → (b : Bool) → names o first ≡ b → option_or last (cond b (Some first) None) ≡ Some event
        → (last_naming o later ≡ Some event → list_any (names o) later ≡ true) → (names o first || list_any (names o) later) ≡ true
    by_last (Some last) here b test found rest = or-true (names o first) (list_any (names o) later) (rest (here ∙ found))
    by_last None here true test found rest = ap (λ (b : Bool). b || list_any (names o) later) test
    by_last None here false test found rest = absurd (cc)
