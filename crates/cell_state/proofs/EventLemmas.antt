-- On the events of a block that are still to come.
use Rattle.std.proofs.Common.{◌≡◌, ℕ, zero, suc, ◌+◌, ◌-◌, ◌<◌, ◌≤◌, List, [], ◌∷◌, ◌++◌, length, drop, Option, Some, None, slice_get, Bool, true, false, ◌||◌, ◌==◌, if◌then◌else◌, refl, sym, ap, ◌∙◌, arith}
use Rattle.std.specs.Option.{option_map}
use Rattle.std.proofs.lemmas.Option.{slice_get_within, slice_get_past, slice_get-map, get_or_from_slice_get}
use Rattle.std.proofs.Math.Seq.{drop-cons}
use Rattle.chain_defs.specs.Schema.{CellInput, CellOutput, Transaction, Block}
use Rattle.chain_defs.specs.Hashes.{transaction_hash}
use Rattle.chain_defs.specs.Cell.{data_of}
use Rattle.chain_defs.specs.Events.{Event, Makes, Spends, spends_of, makes_from, events_of, events_from, events_of_block}
use Rattle.cell_state.specs.Walk.{spends_at, left_at, events_left}

-- ---- Lists

pub drop-there : {A : Type 0} (xs : List A) (i : ℕ) (x : A) → slice_get xs i ≡ Some x → drop i xs ≡ x ∷ drop (i + 1) xs
drop-there xs i x is =
    let within = slice_get_within xs i x is in
    let next : suc i ≡ i + 1 = omega arith in
    drop-cons xs i x within ∙ ap (λ y. y ∷ drop (suc i) xs) (get_or_from_slice_get xs i x x is) ∙ ap (λ n. x ∷ drop n xs) next

pub slice_get-none : {A : Type 0} (xs : List A) (i : ℕ) → slice_get xs i ≡ None → length xs ≤ i
slice_get-none [] i is = omega arith
slice_get-none (x ∷ xs) zero is = cc
slice_get-none (x ∷ xs) (suc i) is = let h = slice_get-none xs i is in omega (arith, h)

pub drop-all : {A : Type 0} (xs : List A) (i : ℕ) → length xs ≤ i → drop i xs ≡ []
drop-all [] zero h = refl
drop-all [] (suc i) h = refl
drop-all (x ∷ xs) zero h = absurd (omega (arith, h))
drop-all (x ∷ xs) (suc i) h = drop-all xs i (omega (arith, h))

pub slice_get-append : {A : Type 0} (xs ys : List A) (i : ℕ) → length xs ≤ i → slice_get (xs ++ ys) i ≡ slice_get ys (i - length xs)
slice_get-append [] ys i h = let same : i ≡ i - 0 = omega arith in ap (slice_get ys) same
slice_get-append (x ∷ xs) ys zero h = absurd (omega (arith, h))
slice_get-append (x ∷ xs) ys (suc i) h =
    let same : i - length xs ≡ suc i - length (x ∷ xs) = omega arith in
    slice_get-append xs ys i (omega (arith, h)) ∙ ap (slice_get ys) same

pub slice_get-front : {A : Type 0} (xs ys : List A) (i : ℕ) (x : A) → slice_get xs i ≡ Some x → slice_get (xs ++ ys) i ≡ Some x
slice_get-front [] ys i x is = cc
slice_get-front (y ∷ xs) ys zero x is = is
slice_get-front (y ∷ xs) ys (suc i) x is = slice_get-front xs ys i x is

-- ---- The events of a transaction

abbrev pub make : Transaction → ℕ → ℕ → ℕ → CellOutput → Event
make t height place index output =
    Makes (record { tx_hash = transaction_hash t; index = index }) (record { output = output; content = data_of t index; height = height; transaction = place })

pub make-at : (first : ℕ) (outputs : List CellOutput) (t : Transaction) (height place index : ℕ)
    → slice_get (makes_from first outputs t height place) index ≡ option_map (make t height place (first + index)) (slice_get outputs index)
make-at first [] t height place index = refl
make-at first (output ∷ outputs) t height place zero = let same : first ≡ first + 0 = omega arith in ap (λ n. Some (make t height place n output)) same
make-at first (output ∷ outputs) t height place (suc index) =
    let same : (first + 1) + index ≡ first + suc index = omega arith in
    make-at (first + 1) outputs t height place index ∙ ap (λ n. option_map (make t height place n) (slice_get outputs index)) same

-- the spends stand first
pub event-spent : (t : Transaction) (height place index : ℕ) (event : Event) → slice_get (spends_at t height place) index ≡ Some event
    → slice_get (events_of t height place) index ≡ Some event
event-spent t height place index event is = slice_get-front (spends_at t height place) (makes_from 0 t.raw.outputs t height place) index event is

-- where there are any, they are those of the inputs
pub spend-at : (t : Transaction) (height place index : ℕ) (input : CellInput) → index < length (spends_at t height place)
    → slice_get t.raw.inputs index ≡ Some input → slice_get (spends_at t height place) index ≡ Some (Spends input.previous_output)
spend-at t height place index input within there = by ((height == 0) || (place == 0)) within
  where
    by : (none : Bool) → index < length (if none then [] else spends_of t) → slice_get (if none then [] else spends_of t) index ≡ Some (Spends input.previous_output)
    by true h = absurd (omega (arith, h))
    by false h = slice_get-map (λ (i : CellInput). Spends i.previous_output) t.raw.inputs index ∙ ap (option_map (λ (i : CellInput). Spends i.previous_output)) there

-- after the spends stand the makes
pub event-made : (t : Transaction) (height place index : ℕ) → length (spends_at t height place) ≤ index
    → slice_get (events_of t height place) index
    ≡ option_map (make t height place (index - length (spends_at t height place))) (slice_get t.raw.outputs (index - length (spends_at t height place)))
event-made t height place index h =
    let same : 0 + (index - length (spends_at t height place)) ≡ index - length (spends_at t height place) = omega arith in
    slice_get-append (spends_at t height place) (makes_from 0 t.raw.outputs t height place) index h
    ∙ make-at 0 t.raw.outputs t height place (index - length (spends_at t height place))
    ∙ ap (λ n. option_map (make t height place n) (slice_get t.raw.outputs (index - length (spends_at t height place)))) same

-- ---- The events of a block

at-found : (transactions : List Transaction) (height place index : ℕ) (found : Option Transaction) → slice_get transactions place ≡ found
    → events_left transactions height place index ≡ left_at found (drop (place + 1) transactions) height place index
unfolding events_left
at-found transactions height place index found is = ap (λ (f : Option Transaction). left_at f (drop (place + 1) transactions) height place index) is

pub left-past : (transactions : List Transaction) (height place index : ℕ) → length transactions ≤ place → events_left transactions height place index ≡ []
left-past transactions height place index h = at-found transactions height place index None (slice_get_past transactions place h)

pub left-next : (transactions : List Transaction) (height place index : ℕ) (t : Transaction) (event : Event)
    → slice_get transactions place ≡ Some t → slice_get (events_of t height place) index ≡ Some event
    → events_left transactions height place index ≡ event ∷ events_left transactions height place (index + 1)
left-next transactions height place index t event there is =
    at-found transactions height place index (Some t) there
    ∙ ap (λ (es : List Event). es ++ events_from (place + 1) (drop (place + 1) transactions) height) (drop-there (events_of t height place) index event is)
    ∙ ap (λ (es : List Event). event ∷ es) (sym (at-found transactions height place (index + 1) (Some t) there))

left-from : (transactions : List Transaction) (height place : ℕ) (found : Option Transaction) → slice_get transactions place ≡ found
    → events_left transactions height place 0 ≡ events_from place (drop place transactions) height
left-from transactions height place None is =
    at-found transactions height place 0 None is
    ∙ ap (λ (ts : List Transaction). events_from place ts height) (sym (drop-all transactions place (slice_get-none transactions place is)))
left-from transactions height place (Some t) is =
    at-found transactions height place 0 (Some t) is
    ∙ ap (λ (ts : List Transaction). events_from place ts height) (sym (drop-there transactions place t is))

-- all events of the transaction at a place and after it
pub left-start : (transactions : List Transaction) (height place : ℕ) → events_left transactions height place 0 ≡ events_from place (drop place transactions) height
left-start transactions height place = left-from transactions height place (slice_get transactions place) refl

left-drop : (transactions : List Transaction) (height place index : ℕ) (t : Transaction)
    → slice_get transactions place ≡ Some t → drop index (events_of t height place) ≡ []
    → events_left transactions height place index ≡ events_from (place + 1) (drop (place + 1) transactions) height
left-drop transactions height place index t there is =
    at-found transactions height place index (Some t) there
    ∙ ap (λ (es : List Event). es ++ events_from (place + 1) (drop (place + 1) transactions) height) is

pub left-over : (transactions : List Transaction) (height place index : ℕ) (t : Transaction)
    → slice_get transactions place ≡ Some t → slice_get (events_of t height place) index ≡ None
    → events_left transactions height place index ≡ events_left transactions height (place + 1) 0
left-over transactions height place index t there is =
    left-drop transactions height place index t there (drop-all (events_of t height place) index (slice_get-none (events_of t height place) index is))
    ∙ sym (left-start transactions height (place + 1))

pub left-all : (b : Block) (height : ℕ) → events_left b.transactions height 0 0 ≡ events_of_block height b
unfolding events_of_block
left-all b height = left-start b.transactions height 0
