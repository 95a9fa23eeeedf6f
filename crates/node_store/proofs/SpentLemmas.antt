-- The rows that a block spends: each is one of those before it, and there are no more of them than its inputs.
use Rattle.std.proofs.Common.{◌≡◌, ℕ, ◌+◌, ◌≤◌, Bool, true, false, List, [], ◌∷◌, ◌++◌, length, map, Option, Some, None, if◌then◌else◌, refl, ap, ◌∙◌, arith}
use Rattle.std.specs.Prelude.{◌||◌, ◌==◌, flat_map}
use Rattle.std.specs.List.{All}
use Rattle.std.proofs.lemmas.List.{append-nil, length-append}
use Rattle.std.proofs.lemmas.List.Elements.{All-nil, All-cons, All-append}
use Rattle.chain_defs.specs.Schema.{OutPoint, CellInput, Transaction, Block}
use Rattle.chain_defs.specs.Events.{Event, Makes, Spends, same_out_point, out_point_of, makes_of, spends_of, events_of, events_from, events_of_block}
use Rattle.chain_defs.specs.Row.{Row}
use Rattle.chain_defs.specs.Undo.{without, row_at, row_spent, spent_of}
use Rattle.store_defs.proofs.SpentLemmas.{left, spent-append, spent-nil, makes-none}
use Rattle.chain_defs.specs.FitLaws.{inputs_of}

-- ---- Each is one of those before

pub spent-are-of : (P : OutPoint × Row → Type 0) (events : List Event) (rows : OutPoint → Option Row)
    → ((o : OutPoint) (row : Row) → rows o ≡ Some row → P (o, row)) → All P (spent_of events rows)
unfolding spent_of
spent-are-of P [] rows each = All-nil P
spent-are-of P (event ∷ later) rows each =
    All-append P (row_spent event rows) (spent_of later (without (out_point_of event) rows)) (here event)
    (spent-are-of P later (without (out_point_of event) rows) rest)
  where
    at : (o : OutPoint) (found : Option Row) → rows o ≡ found → All P (row_at o found)
    at o None is = All-nil P
    at o (Some row) is = All-cons P (o, row) [] (each o row is) (All-nil P)

    here : (it : Event) → All P (row_spent it rows)
    here (Makes o cell) = All-nil P
    here (Spends o) = at o (rows o) refl

    by_test : (o : OutPoint) (row : Row) (gone : Bool) → (if gone then None else rows o) ≡ Some row → rows o ≡ Some row
    by_test o row true is = absurd (cc)
    by_test o row false is = is

    rest : (o : OutPoint) (row : Row) → without (out_point_of event) rows o ≡ Some row → P (o, row)
    rest o row is = each o row (by_test o row (same_out_point (out_point_of event) o) is)

-- ---- How many

one-at-most : (o : OutPoint) (found : Option Row) → length (row_at o found) ≤ 1
one-at-most o None = omega arith
one-at-most o (Some row) = omega arith

few-by-inputs : (inputs : List CellInput) (rows : OutPoint → Option Row)
    → length (spent_of (map (λ input. Spends input.previous_output) inputs) rows) ≤ length inputs
unfolding spent_of
few-by-inputs [] rows = omega arith
few-by-inputs (input ∷ later) rows =
    let p : OutPoint = input.previous_output in
    let here : List (OutPoint × Row) = row_at p (rows p) in
    let rest : List (OutPoint × Row) = spent_of (map (λ (other : CellInput). Spends other.previous_output) later) (without p rows) in
    let long : length (here ++ rest) ≡ length here + length rest = length-append here rest in
    omega (arith, one-at-most p (rows p), few-by-inputs later (without p rows), long)

few-by-transaction : (t : Transaction) (height place : ℕ) (rows : OutPoint → Option Row)
    → length (spent_of (events_of t height place) rows) ≤ length t.raw.inputs
few-by-transaction t height place rows = by_first ((height == 0) || (place == 0))
  where
    only : (spends : List Event) → spent_of (spends ++ makes_of t height place) rows ≡ spent_of spends rows
    only spends =
        spent-append spends (makes_of t height place) rows
        ∙ ap (λ (list : List (OutPoint × Row)). spent_of spends rows ++ list) (makes-none 0 t.raw.outputs t height place (left spends rows))
        ∙ append-nil (spent_of spends rows)

    by_first : (first : Bool) → length (spent_of ((if first then [] else spends_of t) ++ makes_of t height place) rows) ≤ length t.raw.inputs
    by_first true = let none = ap length (only [] ∙ spent-nil rows) in omega (arith, none)
    by_first false = let same = ap length (only (spends_of t)) in omega (arith, same, few-by-inputs t.raw.inputs rows)

few-by-transactions : (place : ℕ) (txs : List Transaction) (height : ℕ) (rows : OutPoint → Option Row)
    → length (spent_of (events_from place txs height) rows) ≤ length (flat_map (λ t. t.raw.inputs) txs)
few-by-transactions place [] height rows = let none = ap length (spent-nil rows) in omega (arith, none)
few-by-transactions place (t ∷ later) height rows =
    let own : List Event = events_of t height place in
    let behind : List Event = events_from (place + 1) later height in
    let inputs : List CellInput = flat_map (λ (t : Transaction). t.raw.inputs) later in
    let split = ap length (spent-append own behind rows) in
    let long = length-append (spent_of own rows) (spent_of behind (left own rows)) in
    let many : length (t.raw.inputs ++ inputs) ≡ length t.raw.inputs + length inputs = length-append t.raw.inputs inputs in
    omega (arith, split, long, many, few-by-transaction t height place rows, few-by-transactions (place + 1) later height (left own rows))

pub few-spent : (height : ℕ) (b : Block) (rows : OutPoint → Option Row) → length (spent_of (events_of_block height b) rows) ≤ length (inputs_of b)
unfolding events_of_block
few-spent height b rows = few-by-transactions 0 b.transactions height rows
