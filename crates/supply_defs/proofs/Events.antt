-- What events make and spend, as sums by a number of each cell, and what fitting events move of the sum over the live cells.
use Rattle.std.proofs.Common.{◌≡◌, ℕ, ◌+◌, ◌<◌, Bool, true, false, cond, List, [], ◌∷◌, ◌++◌, map, Option, Some, None, refl, sym, ap, ◌∙◌, subst, arith}
use Rattle.std.specs.Prelude.{◌||◌, ◌==◌, IsTrue, is_some, unwrap_or, if◌then◌else◌}
use Rattle.std.specs.Option.{option_map, option_and_then}
use Rattle.std.specs.List.{sum_by, enumerate_from}
use Rattle.std.proofs.lemmas.Bool.{or_right, not-true}
use Rattle.std.proofs.lemmas.List.{append-nil, append_assoc}
use Rattle.std.proofs.lemmas.List.Sums.{sum_by-cons}
use Rattle.std.proofs.lemmas.Option.{same_Some}
use Rattle.chain_defs.specs.Schema.{OutPoint, CellInput, CellOutput, Transaction}
use Rattle.chain_defs.specs.Hashes.{transaction_hash}
use Rattle.chain_defs.specs.Cell.{Cell, data_of}
use Rattle.chain_defs.specs.Events.{Event, Makes, Spends, makes_from, makes_of, spends_of, events_of, names, cell_after}
use Rattle.chain_defs.specs.Fit.{are_live, fits}
use Rattle.chain_defs.proofs.EventLemmas.{cell_after-push}
use Rattle.rule_defs.specs.Site.{Site, Found, find_cell, all_there}
use Rattle.rule_defs.specs.Resolving.{spends_each_once, input_cells, spends_live_cells, inputs}
use Rattle.rule_defs.specs.Field.{occupied_output, made_by}
use Rattle.store_defs.proofs.EventFit.{FitAfter}
use Rattle.supply_defs.specs.Sums.{capacity_of, occupied_of, sum_of_live}
use Rattle.supply_defs.proofs.Weights.{number_in, made, one-more}

-- ---- Sums along events

unfoldable pub all_made : (Cell → ℕ) → List Event → ℕ
all_made number [] = 0
all_made number (event ∷ later) = made number event + all_made number later

-- the number of the cell that an event spends, after earlier ones
abbrev pub spent : (Cell → ℕ) → List Event → Event → ℕ
spent number earlier (Makes o cell) = 0
spent number earlier (Spends o) = number_in number (cell_after earlier o)

unfoldable pub all_spent : (Cell → ℕ) → List Event → List Event → ℕ
all_spent number earlier [] = 0
all_spent number earlier (event ∷ later) = spent number earlier event + all_spent number (earlier ++ event ∷ []) later

pub made-append : (number : Cell → ℕ) (one other : List Event) → all_made number (one ++ other) ≡ all_made number one + all_made number other
unfolding all_made
made-append number [] other = omega arith
made-append number (event ∷ one) other = let rest = made-append number one other in omega (arith, rest)

pub spent-append : (number : Cell → ℕ) (earlier one other : List Event)
    → all_spent number earlier (one ++ other) ≡ all_spent number earlier one + all_spent number (earlier ++ one) other
unfolding all_spent
spent-append number earlier [] other =
    let same : all_spent number earlier other ≡ all_spent number (earlier ++ []) other =
    ap (λ (front : List Event). all_spent number front other) (sym (append-nil earlier)) in omega (arith, same)
spent-append number earlier (event ∷ one) other =
    let rest = spent-append number (earlier ++ event ∷ []) one other in
    let same : all_spent number ((earlier ++ event ∷ []) ++ one) other ≡ all_spent number (earlier ++ event ∷ one) other =
    ap (λ (front : List Event). all_spent number front other) (append_assoc earlier (event ∷ []) one) in
    omega (arith, rest, same)

-- ---- Events that fit

not-there : (number : Cell → ℕ) (live : Option Cell) → is_some live ≡ false → number_in number live ≡ 0
not-there number None is = refl
not-there number (Some cell) is = absurd (cc)

fitting : (number : Cell → ℕ) (earlier : List Event) (event : Event) → IsTrue (fits (are_live (cell_after earlier)) event)
    → sum_of_live number (earlier ++ event ∷ []) + spent number earlier event ≡ sum_of_live number earlier + made number event
fitting number earlier (Makes o cell) fit =
    let free = not-there number (cell_after earlier o) (not-true (is_some (cell_after earlier o)) fit) in
    omega (arith, free, one-more number earlier (Makes o cell))
fitting number earlier (Spends o) fit = one-more number earlier (Spends o)

pub live-moves : (number : Cell → ℕ) (earlier later : List Event) → FitAfter earlier later
    → sum_of_live number (earlier ++ later) + all_spent number earlier later ≡ sum_of_live number earlier + all_made number later
unfolding all_spent all_made
live-moves number earlier [] fit = ap (λ (all : List Event). sum_of_live number all + 0) (append-nil earlier)
live-moves number earlier (event ∷ later) fit =
    let rest = live-moves number (earlier ++ event ∷ []) later fit.1 in
    let same : sum_of_live number ((earlier ++ event ∷ []) ++ later) ≡ sum_of_live number (earlier ++ event ∷ later) =
    ap (sum_of_live number) (append_assoc earlier (event ∷ []) later) in
    omega (arith, rest, same, fitting number earlier event fit.0)

pub fit-split : (earlier one other : List Event) → FitAfter earlier (one ++ other) → FitAfter earlier one × FitAfter (earlier ++ one) other
fit-split earlier [] other fit = (tt, subst (λ (front : List Event). FitAfter front other) (sym (append-nil earlier)) fit)
fit-split earlier (event ∷ one) other fit =
    let rest = fit-split (earlier ++ event ∷ []) one other fit.1 in
    ((fit.0, rest.0), subst (λ (front : List Event). FitAfter front other) (append_assoc earlier (event ∷ []) one) rest.1)

-- ---- Inputs

-- the numbers of the cells that inputs spend, by what is live
unfoldable pub sum_of_inputs : (Cell → ℕ) → (OutPoint → Option Cell) → List CellInput → ℕ
sum_of_inputs number live [] = 0
sum_of_inputs number live (input ∷ later) = number_in number (live input.previous_output) + sum_of_inputs number live later

-- what is live after some events was so before
abbrev Stays : (OutPoint → Option Cell) → List Event → Type 0
Stays live earlier = (o : OutPoint) → is_some (cell_after earlier o) ≡ true → cell_after earlier o ≡ live o

stays-spent : (live : OutPoint → Option Cell) (earlier : List Event) (o : OutPoint) → Stays live earlier → Stays live (earlier ++ Spends o ∷ [])
stays-spent live earlier o stays other is = by_name (names other (Spends o)) refl
  where
    by_name : (b : Bool) → names other (Spends o) ≡ b → cell_after (earlier ++ Spends o ∷ []) other ≡ live other
    by_name b named = by_case b (cell_after-push earlier (Spends o) other ∙ ap (λ (c : Bool). cond c None (cell_after earlier other)) named)
      where
        by_case : (c : Bool) → cell_after (earlier ++ Spends o ∷ []) other ≡ cond c None (cell_after earlier other)
            → cell_after (earlier ++ Spends o ∷ []) other ≡ live other
        by_case true none = let never : is_some (cell_after (earlier ++ Spends o ∷ []) other) ≡ false = ap is_some none in absurd (cc)
        by_case false same = same ∙ stays other (ap is_some (sym same) ∙ is)

abbrev spends : List CellInput → List Event
spends inputs = map (λ (input : CellInput). Spends input.previous_output) inputs

pub inputs-spent : (number : Cell → ℕ) (live : OutPoint → Option Cell) (earlier : List Event) (inputs : List CellInput) → Stays live earlier
    → FitAfter earlier (spends inputs) → all_spent number earlier (spends inputs) ≡ sum_of_inputs number live inputs
unfolding all_spent sum_of_inputs
inputs-spent number live earlier [] stays fit = refl
inputs-spent number live earlier (input ∷ later) stays fit =
    let rest = inputs-spent number live (earlier ++ Spends input.previous_output ∷ []) later (stays-spent live earlier input.previous_output stays) fit.1 in
    let here : number_in number (cell_after earlier input.previous_output) ≡ number_in number (live input.previous_output) =
    ap (number_in number) (stays input.previous_output fit.0) in
    omega (arith, rest, here)

found-inputs : (number : Cell → ℕ) (site : Site) (inputs : List CellInput) (found : List Found)
    → all_there (map (λ (input : CellInput). find_cell site input.previous_output) inputs) ≡ Some found
    → sum_by (λ (it : Found). number it.cell) found ≡ sum_of_inputs number site.cell inputs
unfolding all_there sum_of_inputs
found-inputs number site [] found is = ap (sum_by (λ (it : Found). number it.cell)) (sym (same_Some [] found is))
found-inputs number site (input ∷ later) found is =
    by_cell (site.cell input.previous_output) refl _ refl
    (ap (λ (live : Option Cell). option_and_then (λ (v : Found). option_map (λ (vs : List Found). v ∷ vs)
    (all_there (map (λ (other : CellInput). find_cell site other.previous_output) later)))
    (option_map (λ (cell : Cell). record { out_point = input.previous_output; cell = cell }) live)) refl ∙ is)
    (found-inputs number site later)
  where
    by_cell : (live : Option Cell) → site.cell input.previous_output ≡ live → (rest : Option (List Found))
        → all_there (map (λ (other : CellInput). find_cell site other.previous_output) later) ≡ rest
        → option_and_then (λ (v : Found). option_map (λ (vs : List Found). v ∷ vs) rest)
        (option_map (λ (cell : Cell). record { out_point = input.previous_output; cell = cell }) live) ≡ Some found
        → ((vs : List Found) → all_there (map (λ (other : CellInput). find_cell site other.previous_output) later) ≡ Some vs
        → sum_by (λ (it : Found). number it.cell) vs ≡ sum_of_inputs number site.cell later)
        → sum_by (λ (it : Found). number it.cell) found ≡ number_in number (site.cell input.previous_output) + sum_of_inputs number site.cell later
    by_cell None live rest there all behind = absurd (cc)
    by_cell (Some cell) live None there all behind = absurd (cc)
    by_cell (Some cell) live (Some vs) there all behind =
        let first : Found = record { out_point = input.previous_output; cell = cell } in
        let number_is : number cell ≡ number_in number (site.cell input.previous_output) = ap (number_in number) (sym live) in
        let whole : sum_by (λ (it : Found). number it.cell) found ≡ sum_by (λ (it : Found). number it.cell) (first ∷ vs) =
        ap (sum_by (λ (it : Found). number it.cell)) (sym (same_Some (first ∷ vs) found all)) in
        omega (arith, number_is, whole, sum_by-cons (λ (it : Found). number it.cell) first vs, behind vs there)

-- J20: the cells of its inputs are there.
pub inputs-found : (number : Cell → ℕ) (site : Site) (t : Transaction) → IsTrue (spends_live_cells site t)
    → sum_by (λ (it : Found). number it.cell) (inputs site t) ≡ sum_of_inputs number site.cell t.raw.inputs
unfolding input_cells
inputs-found number site t spends = by_once (spends_each_once t) _ refl spends
  where
    by_once : (once : Bool) (found : Option (List Found)) → all_there (map (λ (input : CellInput). find_cell site input.previous_output) t.raw.inputs) ≡ found
        → IsTrue (is_some (if once then found else None))
        → sum_by (λ (it : Found). number it.cell) (unwrap_or (if once then found else None) []) ≡ sum_of_inputs number site.cell t.raw.inputs
    by_once false found there is = absurd (cc)
    by_once true None there is = absurd (cc)
    by_once true (Some found) there is = found-inputs number site t.raw.inputs found there

-- ---- Outputs

pub capacity-made : (index : ℕ) (outputs : List CellOutput) (t : Transaction) (height place : ℕ)
    → all_made capacity_of (makes_from index outputs t height place) ≡ sum_by (λ (output : CellOutput). output.capacity) outputs
unfolding all_made
capacity-made index [] t height place = refl
capacity-made index (output ∷ outputs) t height place =
    let rest = capacity-made (index + 1) outputs t height place in
    omega (arith, rest, sum_by-cons (λ (output : CellOutput). output.capacity) output outputs)

occupied-from : (index : ℕ) (outputs : List CellOutput) (t : Transaction) (height place : ℕ)
    → all_made occupied_of (makes_from index outputs t height place) ≡ sum_by (occupied_output t) (enumerate_from index outputs)
unfolding all_made
occupied-from index [] t height place = refl
occupied-from index (output ∷ outputs) t height place =
    let rest = occupied-from (index + 1) outputs t height place in
    omega (arith, rest, sum_by-cons (occupied_output t) (index, output) (enumerate_from (index + 1) outputs))

pub occupied-made : (t : Transaction) (height place : ℕ) → all_made occupied_of (makes_of t height place) ≡ made_by t
unfolding made_by
occupied-made t height place = occupied-from 0 t.raw.outputs t height place

-- makes spend nothing, and spends make nothing
pub makes-spend-none : (number : Cell → ℕ) (earlier : List Event) (index : ℕ) (outputs : List CellOutput) (t : Transaction) (height place : ℕ)
    → all_spent number earlier (makes_from index outputs t height place) ≡ 0
unfolding all_spent
makes-spend-none number earlier index [] t height place = refl
makes-spend-none number earlier index (output ∷ outputs) t height place =
    let rest = makes-spend-none number (earlier ++ Makes (record { tx_hash = transaction_hash t; index = index }) (record { output = output; content = data_of t index; height = height; transaction = place }) ∷ [])
    (index + 1) outputs t height place in omega (arith, rest)

pub spends-make-none : (number : Cell → ℕ) (inputs : List CellInput) → all_made number (spends inputs) ≡ 0
unfolding all_made
spends-make-none number [] = refl
spends-make-none number (input ∷ later) = let rest = spends-make-none number later in omega (arith, rest)

-- ---- The events of one transaction

pub cellbase-events : (t : Transaction) (height : ℕ) → events_of t height 0 ≡ makes_of t height 0
cellbase-events t height = ap (λ (none : Bool). (if none then [] else spends_of t) ++ makes_of t height 0) (or_right (height == 0) true refl)

pub later-events : (t : Transaction) (height place : ℕ) → 0 < height → 0 < place → events_of t height place ≡ spends_of t ++ makes_of t height place
later-events t height place above later = ap (λ (none : Bool). (if none then [] else spends_of t) ++ makes_of t height place) test
  where
    test : ((height == 0) || (place == 0)) ≡ false
    test = grind arith
