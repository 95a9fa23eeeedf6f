-- Rows with what transactions change, one change after the other.
use Rattle.std.proofs.Common.{◌≡◌, ℕ, ◌+◌, ◌<◌, ◌≤◌, Bool, true, false, cond, List, [], ◌∷◌, ◌++◌, length, map, take, min, Option, Some, None, refl, sym, ap, ◌∙◌, arith}
use Rattle.std.specs.Prelude.{slice_get, ◌==◌, ◌||◌}
use Rattle.std.specs.Option.{option_or}
use Rattle.std.proofs.lemmas.List.{take_all, map-append, length-take}
use Rattle.std.proofs.lemmas.Bool.{ne_eqb}
use Rattle.std.proofs.lemmas.Option.{slice_get_within}
use Rattle.chain_defs.specs.Schema.{OutPoint, CellInput, CellOutput, RawTransaction, Transaction}
use Rattle.chain_defs.specs.Hashes.{transaction_hash}
use Rattle.chain_defs.specs.Cell.{data_of}
use Rattle.chain_defs.specs.Events.{Event, Makes, Spends, names, same_out_point, last_naming, makes_from, makes_of, spends_of, events_of}
use Rattle.chain_defs.specs.Row.{Row, row_of, row_left, row_or, row_after}
use Rattle.chain_defs.proofs.EventLemmas.{last_naming-push, last_naming-append}
use Rattle.tx_rules.proofs.AllThere.{take-push}
use Rattle.block_judge.specs.Changes.{Changed, changed_or, change_at, with_changes}

-- ---- Rows after events

pub row_after-nil : (e : ℕ) (rows : OutPoint → Option Row) (o : OutPoint) → row_after e [] rows o ≡ rows o
unfolding row_after last_naming
row_after-nil e rows o = refl

-- one event more
pub row_after-push : (e : ℕ) (done : List Event) (event : Event) (rows : OutPoint → Option Row) (o : OutPoint)
    → row_after e (done ++ event ∷ []) rows o ≡ cond (names o event) (row_left e event) (row_after e done rows o)
unfolding row_after
row_after-push e done event rows o = ap (row_or e (rows o)) (last_naming-push o done event) ∙ by_test (names o event)
  where
    by_test : (b : Bool) → row_or e (rows o) (cond b (Some event) (last_naming o done)) ≡ cond b (row_left e event) (row_or e (rows o) (last_naming o done))
    by_test true = refl
    by_test false = refl

-- more events after
pub row_after-append : (e : ℕ) (earlier later : List Event) (rows : OutPoint → Option Row) (o : OutPoint)
    → row_after e (earlier ++ later) rows o ≡ row_after e later (row_after e earlier rows) o
unfolding row_after
row_after-append e earlier later rows o = ap (row_or e (rows o)) (last_naming-append o earlier later) ∙ by_last (last_naming o later)
  where
    by_last : (last : Option Event) → row_or e (rows o) (option_or last (last_naming o earlier)) ≡ row_or e (row_or e (rows o) (last_naming o earlier)) last
    by_last None = refl
    by_last (Some event) = refl

-- over rows that are the same
pub row_after-same : (e : ℕ) (events : List Event) (rows other : OutPoint → Option Row) (o : OutPoint) → rows o ≡ other o
    → row_after e events rows o ≡ row_after e events other o
unfolding row_after
row_after-same e events rows other o same = ap (λ (before : Option Row). row_or e before (last_naming o events)) same

-- ---- One change

pub written-same : (change : Option (Option Row)) (v w : Changed) (o p other : OutPoint) → v ≡ w → o ≡ p
    → cond (same_out_point o other) change (change_at v other) ≡ cond (same_out_point p other) change (change_at w other)
written-same change v w o p other same named =
    ap (λ (x : Changed). cond (same_out_point o other) change (change_at x other)) same
    ∙ ap (λ (x : OutPoint). cond (same_out_point x other) change (change_at w other)) named

-- A change at the out-point of an event, to the row that it leaves.
abbrev pub IsChanged : ℕ → Event → Changed → Changed → Type 0
IsChanged e event old new = (o : OutPoint) → change_at new o ≡ cond (names o event) (Some (row_left e event)) (change_at old o)

-- The rows stand after one event more.
pub changed-push : (e : ℕ) (done : List Event) (event : Event) (old new : Changed) (rows start : OutPoint → Option Row) (o : OutPoint) → IsChanged e event old new
    → with_changes old rows o ≡ row_after e done start o → with_changes new rows o ≡ row_after e (done ++ event ∷ []) start o
changed-push e done event old new rows start o is before =
    ap (changed_or (rows o)) (is o) ∙ by_test (names o event) ∙ sym (row_after-push e done event start o)
  where
    by_test : (b : Bool) → changed_or (rows o) (cond b (Some (row_left e event)) (change_at old o)) ≡ cond b (row_left e event) (row_after e done start o)
    by_test true = refl
    by_test false = before

-- ---- Spends

abbrev pub spends : List CellInput → List Event
spends inputs = map (λ input. Spends input.previous_output) inputs

pub spends-push : (inputs : List CellInput) (i : ℕ) (input : CellInput) → slice_get inputs i ≡ Some input
    → spends (take (i + 1) inputs) ≡ spends (take i inputs) ++ Spends input.previous_output ∷ []
spends-push inputs i input there =
    ap spends (take-push inputs i input there) ∙ map-append (λ (it : CellInput). Spends it.previous_output) (take i inputs) (input ∷ [])

pub spends-all : (t : Transaction) (raw : RawTransaction) (i : ℕ) → raw ≡ t.raw → length raw.inputs ≤ i → spends (take i raw.inputs) ≡ spends_of t
spends-all t raw i is all = ap spends (take_all i raw.inputs all) ∙ ap (λ (it : RawTransaction). spends it.inputs) is

-- ---- Makes

abbrev pub make : Transaction → ℕ → ℕ → ℕ → CellOutput → Event
make t height place index output =
    Makes (record { tx_hash = transaction_hash t; index = index }) (record { output = output; content = data_of t index; height = height; transaction = place })

makes-append : (first : ℕ) (outputs : List CellOutput) (output : CellOutput) (t : Transaction) (height place : ℕ)
    → makes_from first (outputs ++ output ∷ []) t height place ≡ makes_from first outputs t height place ++ make t height place (first + length outputs) output ∷ []
makes-append first [] output t height place =
    let at : first ≡ first + 0 = omega arith in ap (λ (n : ℕ). make t height place n output ∷ []) at
makes-append first (one ∷ outputs) output t height place =
    let at : (first + 1) + length outputs ≡ first + length (one ∷ outputs) = omega arith in
    ap (λ (rest : List Event). make t height place first one ∷ rest) (makes-append (first + 1) outputs output t height place)
    ∙ ap (λ (n : ℕ). make t height place first one ∷ (makes_from (first + 1) outputs t height place ++ make t height place n output ∷ [])) at

length-take-of : (outputs : List CellOutput) (i : ℕ) → i < length outputs → length (take i outputs) ≡ i
length-take-of outputs i below =
    let long : length (take i outputs) ≡ min i (length outputs) = length-take i outputs in omega (arith, long, below)

pub makes-push : (outputs : List CellOutput) (i : ℕ) (output : CellOutput) (t : Transaction) (height place : ℕ) → slice_get outputs i ≡ Some output
    → makes_from 0 (take (i + 1) outputs) t height place ≡ makes_from 0 (take i outputs) t height place ++ make t height place i output ∷ []
makes-push outputs i output t height place there =
    let at : 0 + length (take i outputs) ≡ i = omega (arith, length-take-of outputs i (slice_get_within outputs i output there)) in
    ap (λ (these : List CellOutput). makes_from 0 these t height place) (take-push outputs i output there)
    ∙ makes-append 0 (take i outputs) output t height place
    ∙ ap (λ (n : ℕ). makes_from 0 (take i outputs) t height place ++ make t height place n output ∷ []) at

pub makes-all : (t : Transaction) (raw : RawTransaction) (i height place : ℕ) → raw ≡ t.raw → length raw.outputs ≤ i
    → makes_from 0 (take i raw.outputs) t height place ≡ makes_of t height place
makes-all t raw i height place is all =
    ap (λ (these : List CellOutput). makes_from 0 these t height place) (take_all i raw.outputs all)
    ∙ ap (λ (it : RawTransaction). makes_from 0 it.outputs t height place) is

-- A change to the row of an output is that of its make.
pub made-changed : (e : ℕ) (t : Transaction) (height place index : ℕ) (output : CellOutput) (hash content : List ℕ) (row : Row) (old new : Changed)
    → hash ≡ transaction_hash t → content ≡ data_of t index
    → row ≡ row_of e (record { output = output; content = content; height = height; transaction = place })
    → ((o : OutPoint) → change_at new o ≡ cond (same_out_point (record { tx_hash = hash; index = index }) o) (Some (Some row)) (change_at old o))
    → IsChanged e (make t height place index output) old new
made-changed e t height place index output hash content row old new hash_is content_is row_is changed o =
    changed o
    ∙ ap (λ (h : List ℕ). cond (same_out_point (record { tx_hash = h; index = index }) o) (Some (Some row)) (change_at old o)) hash_is
    ∙ ap (λ (r : Row). cond (same_out_point (record { tx_hash = transaction_hash t; index = index }) o) (Some (Some r)) (change_at old o))
    (row_is ∙ ap (λ (c : List ℕ). row_of e (record { output = output; content = c; height = height; transaction = place })) content_is)

-- ---- A transaction

-- a cellbase only makes
pub events-first : (t : Transaction) (height : ℕ) → events_of t height 0 ≡ makes_of t height 0
events-first t height = by_test (height == 0)
  where
    by_test : (b : Bool) → cond (b || true) [] (spends_of t) ++ makes_of t height 0 ≡ makes_of t height 0
    by_test true = refl
    by_test false = refl

-- Another one spends, and then makes.
pub events-later : (t : Transaction) (height place : ℕ) → 0 < height → 0 < place → events_of t height place ≡ spends_of t ++ makes_of t height place
events-later t height place above later =
    ap (λ (none : Bool). cond none [] (spends_of t) ++ makes_of t height place)
    (ap (λ (b : Bool). b || (place == 0)) (ne_eqb height 0 (omega (arith, above))) ∙ ne_eqb place 0 (omega (arith, later)))

-- so the rows stand after what it does
pub taken-first : (e : ℕ) (t : Transaction) (height place : ℕ) (old new : Changed) (rows : OutPoint → Option Row) (o : OutPoint) → place ≡ 0
    → with_changes new rows o ≡ row_after e (makes_of t height place) (with_changes old rows) o
    → with_changes new rows o ≡ row_after e (events_of t height place) (with_changes old rows) o
taken-first e t height place old new rows o first made =
    made ∙ ap (λ (events : List Event). row_after e events (with_changes old rows) o)
    (ap (makes_of t height) first ∙ sym (events-first t height) ∙ sym (ap (events_of t height) first))

pub taken-later : (e : ℕ) (t : Transaction) (height place : ℕ) (old spent new : Changed) (rows : OutPoint → Option Row) (o : OutPoint) → 0 < height → 0 < place
    → with_changes spent rows o ≡ row_after e (spends_of t) (with_changes old rows) o
    → with_changes new rows o ≡ row_after e (makes_of t height place) (with_changes spent rows) o
    → with_changes new rows o ≡ row_after e (events_of t height place) (with_changes old rows) o
taken-later e t height place old spent new rows o above later spent_is made =
    made
    ∙ row_after-same e (makes_of t height place) (with_changes spent rows) (row_after e (spends_of t) (with_changes old rows)) o spent_is
    ∙ sym (row_after-append e (spends_of t) (makes_of t height place) (with_changes old rows) o)
    ∙ ap (λ (events : List Event). row_after e events (with_changes old rows) o) (sym (events-later t height place above later))
