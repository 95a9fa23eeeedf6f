-- A sum over the live cells, after one event more: what it makes comes to it, and what was live there goes.
use Rattle.std.proofs.Common.{◌≡◌, ℕ, ◌+◌, Bool, true, false, cond, List, [], ◌∷◌, ◌++◌, Option, Some, None, refl, sym, ap, ◌∙◌, arith}
use Rattle.std.specs.Option.{option_or}
use Rattle.std.specs.List.{sum_by}
use Rattle.std.proofs.lemmas.List.Sums.{sum_by-cons}
use Rattle.chain_defs.specs.Schema.{OutPoint}
use Rattle.chain_defs.specs.Cell.{Cell}
use Rattle.chain_defs.specs.Events.{Event, Makes, Spends, same_out_point, out_point_of, names, last_naming, cell_left, cell_after}
use Rattle.chain_defs.proofs.EventLemmas.{names-same, out_points-same, last_naming-step, last_naming-push}
use Rattle.chain_defs.proofs.NamingLemmas.{out_point-self}
use Rattle.chain_defs.specs.LiveCells.{live_cells}
use Rattle.supply_defs.specs.Sums.{sum_of_live}

-- ---- The number of a cell that may be there

abbrev pub number_in : (Cell → ℕ) → Option Cell → ℕ
number_in number None = 0
number_in number (Some cell) = number cell

-- what an event makes
abbrev pub made : (Cell → ℕ) → Event → ℕ
made number (Makes o cell) = number cell
made number (Spends o) = 0

-- what a make adds, by the last later event that names it
abbrev unnamed : ℕ → Option Event → ℕ
unnamed n None = n
unnamed n (Some last) = 0

-- ---- The sum from the first event on

make-first : (number : Cell → ℕ) (p : OutPoint) (cell : Cell) (later : List Event)
    → sum_of_live number (Makes p cell ∷ later) ≡ unnamed (number cell) (last_naming p later) + sum_of_live number later
unfolding live_cells
make-first number p cell later = by_last (last_naming p later)
  where
    by_last : (found : Option Event)
        → sum_by (λ (listed : OutPoint × Cell). number listed.1) (elim found [ None ↦ (p, cell) ∷ live_cells later | Some last ↦ live_cells later ])
        ≡ unnamed (number cell) found + sum_by (λ (listed : OutPoint × Cell). number listed.1) (live_cells later)
    by_last None = sum_by-cons (λ (listed : OutPoint × Cell). number listed.1) (p, cell) (live_cells later)
    by_last (Some last) = omega arith

spend-first : (number : Cell → ℕ) (p : OutPoint) (later : List Event) → sum_of_live number (Spends p ∷ later) ≡ sum_of_live number later
unfolding live_cells
spend-first number p later = refl

-- ---- What is live

first-live : (number : Cell → ℕ) (o : OutPoint) (event : Event) (later : List Event)
    → number_in number (cell_after (event ∷ later) o) ≡ number_in number (cell_left (option_or (last_naming o later) (cond (names o event) (Some event) None)))
unfolding cell_after
first-live number o event later = ap (λ (last : Option Event). number_in number (cell_left last)) (last_naming-step o event later)

live-later : (number : Cell → ℕ) (o : OutPoint) (later : List Event)
    → number_in number (cell_after later o) ≡ number_in number (cell_left (last_naming o later))
unfolding cell_after
live-later number o later = refl

spend-live : (number : Cell → ℕ) (o p : OutPoint) (later : List Event)
    → number_in number (cell_after (Spends p ∷ later) o) ≡ number_in number (cell_after later o)
spend-live number o p later =
    first-live number o (Spends p) later ∙ by_last (last_naming o later) (names o (Spends p)) ∙ sym (live-later number o later)
  where
    by_last : (found : Option Event) (b : Bool)
        → number_in number (cell_left (option_or found (cond b (Some (Spends p)) None))) ≡ number_in number (cell_left found)
    by_last None true = refl
    by_last None false = refl
    by_last (Some last) b = refl

-- two out-points are one, or they test apart both ways
apart-too : (o p : OutPoint) → same_out_point o p ≡ false → (b : Bool) → same_out_point p o ≡ b → b ≡ false
apart-too o p apart false is = refl
apart-too o p apart true is =
    let one : p ≡ o = out_points-same p o is in
    let self : same_out_point o p ≡ true = ap (same_out_point o) one ∙ out_point-self o in cc

-- What a make adds goes where a later event names it.
make-live : (number : Cell → ℕ) (p : OutPoint) (cell : Cell) (later : List Event) (event : Event)
    → number_in number (cell_after (Makes p cell ∷ later) (out_point_of event)) + unnamed (number cell) (cond (names p event) (Some event) (last_naming p later))
    ≡ number_in number (cell_after later (out_point_of event)) + unnamed (number cell) (last_naming p later)
make-live number p cell later event = by_name (names p event) refl
  where
    here : Bool → Option Event → ℕ
    here b found = number_in number (cell_left (option_or found (cond b (Some (Makes p cell)) None)))

    by_last : (found : Option Event) → here true found ≡ number_in number (cell_left found) + unnamed (number cell) found
    by_last None = omega arith
    by_last (Some last) = omega arith

    by_other : (found : Option Event) → here false found ≡ number_in number (cell_left found)
    by_other None = refl
    by_other (Some last) = refl

    by_name : (b : Bool) → names p event ≡ b
        → number_in number (cell_after (Makes p cell ∷ later) (out_point_of event)) + unnamed (number cell) (cond b (Some event) (last_naming p later))
        ≡ number_in number (cell_after later (out_point_of event)) + unnamed (number cell) (last_naming p later)
    by_name true named =
        let same : out_point_of event ≡ p = names-same p event named in
        let first : number_in number (cell_after (Makes p cell ∷ later) (out_point_of event)) ≡ here true (last_naming p later) =
        ap (λ (o : OutPoint). number_in number (cell_after (Makes p cell ∷ later) o)) same
        ∙ first-live number p (Makes p cell) later ∙ ap (λ (b : Bool). here b (last_naming p later)) (out_point-self p) in
        let rest : number_in number (cell_after later (out_point_of event)) ≡ number_in number (cell_left (last_naming p later)) =
        ap (λ (o : OutPoint). number_in number (cell_after later o)) same ∙ live-later number p later in
        omega (arith, first, rest, by_last (last_naming p later))
    by_name false apart =
        let first : number_in number (cell_after (Makes p cell ∷ later) (out_point_of event)) ≡ here false (last_naming (out_point_of event) later) =
        first-live number (out_point_of event) (Makes p cell) later
        ∙ ap (λ (b : Bool). here b (last_naming (out_point_of event) later)) (apart-too (out_point_of event) p apart _ refl) in
        omega (arith, first, by_other (last_naming (out_point_of event) later), live-later number (out_point_of event) later)

-- ---- One event more

nothing-live : (number : Cell → ℕ) (o : OutPoint) → number_in number (cell_after [] o) ≡ 0
unfolding cell_after last_naming
nothing-live number o = refl

one-event : (number : Cell → ℕ) (event : Event) → sum_of_live number (event ∷ []) ≡ made number event
unfolding live_cells last_naming
one-event number (Makes o cell) = omega arith
one-event number (Spends o) = refl

no-event : (number : Cell → ℕ) → sum_of_live number [] ≡ 0
unfolding live_cells
no-event number = refl

pub one-more : (number : Cell → ℕ) (events : List Event) (event : Event)
    → sum_of_live number (events ++ event ∷ []) + number_in number (cell_after events (out_point_of event)) ≡ sum_of_live number events + made number event
one-more number [] event = omega (arith, nothing-live number (out_point_of event), one-event number event, no-event number)
one-more number (Spends p ∷ later) event =
    let rest = one-more number later event in
    omega (arith, rest, spend-first number p (later ++ event ∷ []), spend-first number p later, spend-live number (out_point_of event) p later)
one-more number (Makes p cell ∷ later) event =
    let rest = one-more number later event in
    let after : sum_of_live number (Makes p cell ∷ (later ++ event ∷ []))
    ≡ unnamed (number cell) (cond (names p event) (Some event) (last_naming p later)) + sum_of_live number (later ++ event ∷ []) =
    make-first number p cell (later ++ event ∷ [])
    ∙ ap (λ (last : Option Event). unnamed (number cell) last + sum_of_live number (later ++ event ∷ [])) (last_naming-push p later event) in
    omega (arith, rest, after, make-first number p cell later, make-live number p cell later event)
