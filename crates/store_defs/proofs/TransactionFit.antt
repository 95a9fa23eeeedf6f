-- The events of one transaction fit: its inputs are live and distinct, and none of the out-points of its outputs is live.
use Rattle.std.proofs.Common.{◌≡◌, ℕ, zero, suc, ◌+◌, ◌<◌, ◌≤◌, Bool, true, false, cond, List, [], ◌∷◌, ◌++◌, map, length, Option, Some, None, refl, sym, ap, ◌∙◌, subst, ⊎_elim, arith}
use Rattle.std.specs.Prelude.{◌||◌, ◌==◌, not, IsTrue, is_some, if◌then◌else◌}
use Rattle.std.specs.Option.{option_map, option_and_then}
use Rattle.std.specs.List.{list_any, range_with_len}
use Rattle.std.specs.Str.{bytes_eq}
use Rattle.std.proofs.lemmas.Bool.{and_parts, and_right, or_parts, or_right, not-true, not_from_false, ne_eqb, cases_eq, false_from_ne_true}
use Rattle.std.proofs.lemmas.List.{append-nil, append_assoc}
use Rattle.std.proofs.lemmas.Slice.Eq.{bytes_eq-Decides}
use Rattle.chain_defs.specs.Schema.{OutPoint, CellInput, CellOutput, Transaction}
use Rattle.chain_defs.specs.Hashes.{transaction_hash, are_distinct}
use Rattle.chain_defs.specs.Cell.{Cell, data_of}
use Rattle.chain_defs.specs.Events.{Event, Makes, Spends, makes_from, makes_of, spends_of, events_of, names, cell_after}
use Rattle.chain_defs.proofs.EventLemmas.{out_points-same, cell_after-push}
use Rattle.rule_defs.specs.Site.{Site, Found, find_cell, all_there}
use Rattle.store_defs.proofs.EventFit.{FitAfter, FitAfter-append}
use Rattle.chain_defs.proofs.FitLemmas.{mapped-some}

-- ---- Spends

-- the cell of each input is live
abbrev pub AllLive : (OutPoint → Option Cell) → List CellInput → Type 0
AllLive live [] = Unit {0}
AllLive live (input ∷ later) = IsTrue (is_some (live input.previous_output)) × AllLive live later

-- so it is where all are found
pub all-live : (site : Site) (inputs : List CellInput)
    → IsTrue (is_some (all_there (map (λ (input : CellInput). find_cell site input.previous_output) inputs))) → AllLive site.cell inputs
unfolding all_there
all-live site [] found = tt
all-live site (input ∷ later) found = by_cell (site.cell input.previous_output) refl found (all-live site later)
  where
    rest : Option (List Found)
    rest = all_there (map (λ (other : CellInput). find_cell site other.previous_output) later)

    by_cell : (live : Option Cell) → site.cell input.previous_output ≡ live
        → IsTrue (is_some (option_and_then (λ (v : Found). option_map (λ (vs : List Found). v ∷ vs) rest)
        (option_map (λ (cell : Cell). record { out_point = input.previous_output; cell = cell }) live)))
        → (IsTrue (is_some rest) → AllLive site.cell later) → AllLive site.cell (input ∷ later)
    by_cell None is all each = absurd (cc)
    by_cell (Some cell) is all each =
        (ap is_some is, each (sym (mapped-some (λ (vs : List Found). record { out_point = input.previous_output; cell = cell } ∷ vs) rest) ∙ all))

-- Out-points whose codes differ are not one.
unnamed : (code : OutPoint → List ℕ) (o other : OutPoint) → bytes_eq (code other) (code o) ≡ false → names other (Spends o) ≡ false
unnamed code o other apart = false_from_ne_true (names other (Spends o)) same
  where
    same : names other (Spends o) ≡ true → ⊥
    same named =
        let one : bytes_eq (code other) (code o) ≡ true = (bytes_eq-Decides (code other) (code o)).1 (ap code (sym (out_points-same o other named))) in cc

-- A spend leaves the cells of other inputs live.
AllLive-spent : (code : OutPoint → List ℕ) (front : List Event) (o : OutPoint) (inputs : List CellInput) → AllLive (cell_after front) inputs
    → list_any (λ other. bytes_eq other (code o)) (map (λ (input : CellInput). code input.previous_output) inputs) ≡ false
    → AllLive (cell_after (front ++ Spends o ∷ [])) inputs
AllLive-spent code front o [] live apart = tt
AllLive-spent code front o (input ∷ later) live apart =
    let parts = or_parts (bytes_eq (code input.previous_output) (code o))
    (list_any (λ other. bytes_eq other (code o)) (map (λ (input : CellInput). code input.previous_output) later)) apart in (
      ap is_some (cell_after-push front (Spends o) input.previous_output
          ∙ ap (λ (b : Bool). cond b None (cell_after front input.previous_output)) (unnamed code o input.previous_output parts.0)) ∙ live.0,
      AllLive-spent code front o later live.1 parts.1,
    )

-- Spends of live and distinct cells fit. The code is what tells the out-points apart.
spends-fit : (code : OutPoint → List ℕ) (front : List Event) (inputs : List CellInput) → AllLive (cell_after front) inputs
    → are_distinct (map (λ (input : CellInput). code input.previous_output) inputs) ≡ true
    → FitAfter front (map (λ (input : CellInput). Spends input.previous_output) inputs)
spends-fit code front [] live distinct = tt
spends-fit code front (input ∷ later) live distinct =
    let new : Bool = list_any (λ other. bytes_eq other (code input.previous_output)) (map (λ (input : CellInput). code input.previous_output) later) in
    let parts = and_parts (not new) (are_distinct (map (λ (input : CellInput). code input.previous_output) later)) distinct in (
      live.0,
      spends-fit code (front ++ Spends input.previous_output ∷ []) later
          (AllLive-spent code front input.previous_output later live.1 (not-true new parts.0)) parts.1,
    )

-- What is not live is not so after spends.
spent-free : (front : List Event) (inputs : List CellInput) (o : OutPoint) → is_some (cell_after front o) ≡ false
    → is_some (cell_after (front ++ map (λ (input : CellInput). Spends input.previous_output) inputs) o) ≡ false
spent-free front [] o free = ap (λ (all : List Event). is_some (cell_after all o)) (append-nil front) ∙ free
spent-free front (input ∷ later) o free =
    ap (λ (all : List Event). is_some (cell_after all o))
    (sym (append_assoc front (Spends input.previous_output ∷ []) (map (λ (input : CellInput). Spends input.previous_output) later)))
    ∙ spent-free (front ++ Spends input.previous_output ∷ []) later o
    (ap is_some (cell_after-push front (Spends input.previous_output) o) ∙ by_name (names o (Spends input.previous_output)))
  where
    by_name : (b : Bool) → is_some (cond b None (cell_after front o)) ≡ false
    by_name true = refl
    by_name false = free

-- ---- Makes

-- the out-point of an output
abbrev pub made_point : Transaction → ℕ → OutPoint
made_point t index = record { tx_hash = transaction_hash t; index = index }

-- Makes of out-points of one transaction that are not live fit, since their indices differ.
pub makes-fit : (index : ℕ) (outputs : List CellOutput) (t : Transaction) (height place : ℕ) (front : List Event)
    → ((i : ℕ) → index ≤ i → i < index + length outputs → is_some (cell_after front (made_point t i)) ≡ false)
    → FitAfter front (makes_from index outputs t height place)
makes-fit index [] t height place front free = tt
makes-fit index (output ∷ outputs) t height place front free = (
  not_from_false (is_some (cell_after front (made_point t index))) (free index (omega arith) (omega arith)),
  makes-fit (index + 1) outputs t height place (front ++ made ∷ []) behind,
)
  where
    cell : Cell
    cell = record { output = output; content = data_of t index; height = height; transaction = place }

    made : Event
    made = Makes (made_point t index) cell

    apart : (i : ℕ) → index + 1 ≤ i → names (made_point t i) made ≡ false
    apart i least = and_right (bytes_eq (transaction_hash t) (transaction_hash t)) (index == i) (ne_eqb index i (λ same. omega (arith, least, same)))

    behind : (i : ℕ) → index + 1 ≤ i → i < (index + 1) + length outputs → is_some (cell_after (front ++ made ∷ []) (made_point t i)) ≡ false
    behind i least below =
        ap is_some (cell_after-push front made (made_point t i)
        ∙ ap (λ (b : Bool). cond b (Some cell) (cell_after front (made_point t i))) (apart i least))
        ∙ free i (omega (arith, least)) (omega (arith, below))

-- what no value of a range passes
none-of-range : (test : OutPoint → Bool) (point : ℕ → OutPoint) (from count : ℕ) → list_any test (map point (range_with_len from count)) ≡ false
    → (i : ℕ) → from ≤ i → i < from + count → test (point i) ≡ false
none-of-range test point from zero none i least below = absurd (omega (arith, least, below))
none-of-range test point from (suc count) none i least below =
    let parts = or_parts (test (point from)) (list_any test (map point (range_with_len (from + 1) count))) none in
    ⊎_elim (λ same. ap (λ (n : ℕ). test (point n)) (sym same) ∙ parts.0)
    (λ other. none-of-range test point (from + 1) count parts.1 i (omega (arith, least, other)) (omega (arith, below)))
    (cases_eq from i)

-- ---- A transaction

-- none of the out-points of its outputs is live
abbrev pub NoneMade : (OutPoint → Option Cell) → Transaction → Type 0
NoneMade live t = list_any (λ o. is_some (live o)) (map (made_point t) (range_with_len 0 (length t.raw.outputs))) ≡ false

-- so it is of each of them
none-made : (front : List Event) (t : Transaction) → NoneMade (cell_after front) t → (i : ℕ) → 0 ≤ i → i < 0 + length t.raw.outputs
    → is_some (cell_after front (made_point t i)) ≡ false
none-made front t none i least below =
    none-of-range (λ o. is_some (cell_after front o)) (made_point t) 0 (length t.raw.outputs) none i least below

-- The events of a transaction fit, whether it spends or not.
pub transaction-fits : (code : OutPoint → List ℕ) (front : List Event) (t : Transaction) (height place : ℕ) → AllLive (cell_after front) t.raw.inputs
    → are_distinct (map (λ (input : CellInput). code input.previous_output) t.raw.inputs) ≡ true → NoneMade (cell_after front) t
    → FitAfter front (events_of t height place)
transaction-fits code front t height place live distinct none = by_spends ((height == 0) || (place == 0))
  where
    by_spends : (spends_none : Bool) → FitAfter front ((if spends_none then [] else spends_of t) ++ makes_of t height place)
    by_spends true = makes-fit 0 t.raw.outputs t height place front (none-made front t none)
    by_spends false =
        FitAfter-append front (spends_of t) (makes_of t height place) (spends-fit code front t.raw.inputs live distinct)
        (makes-fit 0 t.raw.outputs t height place (front ++ spends_of t)
        (λ i least below. spent-free front t.raw.inputs (made_point t i) (none-made front t none i least below)))

-- So do those of a cellbase, which only makes.
pub cellbase-fits : (front : List Event) (t : Transaction) (height : ℕ) → NoneMade (cell_after front) t → FitAfter front (events_of t height 0)
cellbase-fits front t height none =
    subst (λ (spends_none : Bool). FitAfter front ((if spends_none then [] else spends_of t) ++ makes_of t height 0)) (sym (or_right (height == 0) true refl))
    (makes-fit 0 t.raw.outputs t height 0 front (none-made front t none))
