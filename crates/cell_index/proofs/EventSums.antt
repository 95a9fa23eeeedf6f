-- What a block's events change of the cells of one lock, by its outputs where it spends none that it makes.
use Rattle.std.proofs.Common.{◌≡◌, ℕ, zero, suc, ◌+◌, ◌<◌, ◌≤◌, Bool, true, false, cond, List, [], ◌∷◌, ◌++◌, length, map, take, drop, Option, Some, None, is_some, if◌then◌else◌, refl, sym, ap, ◌∙◌, subst, arith}
use Rattle.std.specs.Prelude.{IsTrue, not, ◌==◌, ◌||◌, slice_get}
use Rattle.std.specs.List.{filter, sum_by}
use Rattle.std.specs.Option.{option_or}
use Rattle.std.specs.Str.{bytes_eq}
use Rattle.std.proofs.lemmas.Bool.{eqb-true}
use Rattle.std.proofs.lemmas.List.Sums.{sum_by-cons, sum_by-append}
use Rattle.std.proofs.lemmas.Option.{same_Some}
use Rattle.chain_defs.specs.Schema.{OutPoint, CellInput, CellOutput, Transaction, Block}
use Rattle.chain_defs.specs.Hashes.{transaction_hash}
use Rattle.chain_defs.specs.Cell.{Cell, script_hash, data_of}
use Rattle.chain_defs.specs.Events.{Event, Makes, Spends, names, last_naming, makes_from, spends_of, events_of, events_from, events_of_block, same_out_point, out_point_of}
use Rattle.chain_defs.specs.Row.{Row, row_of, row_or, row_after, ListsRows}
use Rattle.chain_defs.specs.Fit.{are_live, live_by, live_after, fits, AllFit}
use Rattle.chain_defs.specs.Undo.{without, with_row, with_rows, first_live, row_at, row_spent, spent_of}
use Rattle.chain_defs.specs.UndoLaws.{AreSpentOf}
use Rattle.chain_defs.specs.ByLock.{of_lock, capacity_of}
use Rattle.chain_defs.proofs.EventLemmas.{last_naming-step}
use Rattle.chain_defs.proofs.FitLemmas.{fits-same}
use Rattle.chain_defs.proofs.NamingLemmas.{out_point-self, true-false}
use Rattle.chain_defs.proofs.SpentLaws.{spends-rows-once}
use Rattle.cell_index.specs.Index.{without_all}
use Rattle.cell_index.specs.Balance.{is_of, sum_of, Changes, counts_for, holds_for, made_for, inputs_of}
use Rattle.cell_index.proofs.ChangeLemmas.{takes}
use Rattle.cell_index.proofs.OfLockLemmas.{part, filtered-sum, one_each, counted}
use Rattle.cell_index.proofs.SumLemmas.{Lists, of-rising, same-lists, sums-once, under_lock, Comes, one_of, with-one-of, without-one-of, all_of, with-all-of, are-just, without-all-of}

-- ---- One event at a time

-- the rows after an event of the block at a place
abbrev step : ℕ → Event → (OutPoint → Option Row) → OutPoint → Option Row
step place (Makes o cell) rows = with_row (o, row_of place cell) rows
step place (Spends o) rows = without o rows

stepped : (place : ℕ) (event : Event) (rows : OutPoint → Option Row) (o : OutPoint) (b : Bool) → names o event ≡ b
    → row_or place (rows o) (cond b (Some event) None) ≡ step place event rows o
stepped place (Makes p cell) rows o true named = sym (ap (λ (b : Bool). if b then Some (row_of place cell) else rows o) named)
stepped place (Makes p cell) rows o false named = sym (ap (λ (b : Bool). if b then Some (row_of place cell) else rows o) named)
stepped place (Spends p) rows o true named = sym (ap (λ (b : Bool). if b then None else rows o) named)
stepped place (Spends p) rows o false named = sym (ap (λ (b : Bool). if b then None else rows o) named)

after-step : (place : ℕ) (event : Event) (later : List Event) (rows : OutPoint → Option Row) (o : OutPoint)
    → row_after place (event ∷ later) rows o ≡ row_after place later (step place event rows) o
unfolding row_after
after-step place event later rows o =
    ap (row_or place (rows o)) (last_naming-step o event later) ∙ by_last (last_naming o later)
  where
    by_last : (last : Option Event) → row_or place (rows o) (option_or last (cond (names o event) (Some event) None)) ≡ row_or place (step place event rows o) last
    by_last None = stepped place event rows o (names o event) refl
    by_last (Some last) = refl

none-after : (place : ℕ) (rows : OutPoint → Option Row) (o : OutPoint) → row_after place [] rows o ≡ rows o
unfolding row_after last_naming
none-after place rows o = refl

live-step : (place : ℕ) (event : Event) (done : List Event) (rows : OutPoint → Option Row) (o : OutPoint)
    → live_after (event ∷ done) (are_live rows) o ≡ live_after done (are_live (step place event rows)) o
unfolding live_after
live-step place event done rows o =
    ap (λ (last : Option Event). live_by last (is_some (rows o))) (last_naming-step o event done) ∙ by_last (last_naming o done)
  where
    by_event : (b : Bool) (e : Event) → names o e ≡ b → live_by (cond b (Some e) None) (is_some (rows o)) ≡ is_some (step place e rows o)
    by_event true (Makes p cell) named = sym (ap (λ (b : Bool). is_some (if b then Some (row_of place cell) else rows o)) named)
    by_event false (Makes p cell) named = sym (ap (λ (b : Bool). is_some (if b then Some (row_of place cell) else rows o)) named)
    by_event true (Spends p) named = sym (ap (λ (b : Bool). is_some (if b then None else rows o)) named)
    by_event false (Spends p) named = sym (ap (λ (b : Bool). is_some (if b then None else rows o)) named)

    by_last : (last : Option Event) → live_by (option_or last (cond (names o event) (Some event) None)) (is_some (rows o)) ≡ live_by last (is_some (step place event rows o))
    by_last None = by_event (names o event) event refl
    by_last (Some (Makes p cell)) = refl
    by_last (Some (Spends p)) = refl

nothing-done : (live : OutPoint → Bool) (o : OutPoint) → live_after [] live o ≡ live o
unfolding live_after last_naming
nothing-done live o = refl

fit-first : (event : Event) (later : List Event) (live : OutPoint → Bool) → AllFit (event ∷ later) live → IsTrue (fits live event)
fit-first event later live fit = sym (fits-same live (live_after [] live) event (nothing-done live)) ∙ fit 0 event refl

fit-later : (place : ℕ) (event : Event) (later : List Event) (rows : OutPoint → Option Row) → AllFit (event ∷ later) (are_live rows)
    → AllFit later (are_live (step place event rows))
fit-later place event later rows fit count other there =
    fits-same (live_after (event ∷ take count later) (are_live rows)) (live_after (take count later) (are_live (step place event rows))) other
    (λ o. sym (live-step place event (take count later) rows o))
    ∙ fit (suc count) other there

free : (found : Option Row) → IsTrue (not (is_some found)) → found ≡ None
free None is = refl
free (Some row) is = absurd (cc)

some-row : (found : Option Row) → IsTrue (is_some found) → (row : Row) × (found ≡ Some row)
some-row None is = absurd (cc)
some-row (Some row) is = (row, refl)

-- ---- What they make and spend

abbrev spend_count : Event → ℕ
spend_count (Makes o cell) = 0
spend_count (Spends o) = 1

abbrev made_part : List ℕ → ℕ → (OutPoint × Row → ℕ) → Event → ℕ
made_part lock place number (Makes o cell) = part (is_of lock) number (o, row_of place cell)
made_part lock place number (Spends o) = 0

spends-of : (event : Event) (later : List Event) (rows : OutPoint → Option Row)
    → spent_of (event ∷ later) rows ≡ row_spent event rows ++ spent_of later (without (out_point_of event) rows)
unfolding spent_of
spends-of event later rows = refl

spends-none : (rows : OutPoint → Option Row) → spent_of [] rows ≡ []
unfolding spent_of
spends-none rows = refl

-- no more rows are spent than there are spends
spent-most : (events : List Event) (rows : OutPoint → Option Row) → length (spent_of events rows) ≤ sum_by spend_count events
spent-most [] rows = let none = ap (λ (l : List (OutPoint × Row)). length l) (spends-none rows) in omega (arith, none)
spent-most (Makes o cell ∷ later) rows =
    let same = ap (λ (l : List (OutPoint × Row)). length l) (spends-of (Makes o cell) later rows) in
    let rest = spent-most later (without o rows) in
    let all = sum_by-cons spend_count (Makes o cell) later in
    omega (arith, same, rest, all)
spent-most (Spends o ∷ later) rows =
    let same = ap (λ (l : List (OutPoint × Row)). length l) (spends-of (Spends o) later rows) in
    let rest = spent-most later (without o rows) in
    let all = sum_by-cons spend_count (Spends o) later in
    let one = by_row (rows o) (spent_of later (without o rows)) in
    omega (arith, same, rest, all, one)
  where
    by_row : (found : Option Row) (l : List (OutPoint × Row)) → length (row_at o found ++ l) ≤ 1 + length l
    by_row None l = omega arith
    by_row (Some row) l = omega arith

-- ---- All of them

longer : {X : Type 0} (x : X) (xs : List X) → length (x ∷ xs) ≡ 1 + length xs
longer x xs = omega arith

-- rows from before the events that are there still
abbrev AreStill : (OutPoint → Option Row) → (OutPoint → Option Row) → Type 0
AreStill kept rows = (o : OutPoint) (row : Row) → kept o ≡ Some row → rows o ≡ Some row

still-later : (place : ℕ) (event : Event) (kept rows : OutPoint → Option Row) → AreStill kept rows → AreStill (without (out_point_of event) kept) (step place event rows)
still-later place event kept rows still o row is = by_test (names o event) refl is
  where
    off : (e : Event) → names o e ≡ false → step place e rows o ≡ rows o
    off (Makes p cell) other = ap (λ (b : Bool). if b then Some (row_of place cell) else rows o) other
    off (Spends p) other = ap (λ (b : Bool). if b then None else rows o) other

    by_test : (b : Bool) → names o event ≡ b → (if b then None else kept o) ≡ Some row → step place event rows o ≡ Some row
    by_test true named has = absurd (cc)
    by_test false named has = off event named ∙ still o row has

-- Where each spend takes a row from before, what they make comes and what they spend goes.
walked : (lock : List ℕ) (place : ℕ) (events : List Event) (kept rows : OutPoint → Option Row) (list : List (OutPoint × Row)) → AreStill kept rows
    → AllFit events (are_live rows) → length (spent_of events kept) ≡ sum_by spend_count events → Lists (under_lock lock rows) list
    → Comes lock (row_after place events rows) list (all_of lock (spent_of events kept)) (λ number. sum_by (made_part lock place number) events)
walked lock place [] kept rows list still fit count lists = record {
  now = list;
  lists = same-lists (under_lock lock rows) (under_lock lock (row_after place [] rows)) list (λ o. ap (of_lock lock) (sym (none-after place rows o))) lists;
  sum = λ number.
      let none = ap (λ (l : List (OutPoint × Row)). all_of lock l number) (spends-none kept) in
      omega (arith, none);
}
walked lock place (Makes o cell ∷ later) kept rows list still fit count lists =
    let one : OutPoint × Row = (o, row_of place cell) in
    let first = with-one-of lock one rows list (free (rows o) (fit-first (Makes o cell) later (are_live rows) fit)) lists in
    let same = spends-of (Makes o cell) later kept in
    let all : sum_by spend_count (Makes o cell ∷ later) ≡ 0 + sum_by spend_count later = sum_by-cons spend_count (Makes o cell) later in
    let fewer : length (spent_of (Makes o cell ∷ later) kept) ≡ length (spent_of later (without o kept)) = ap (λ (l : List (OutPoint × Row)). length l) same in
    let rest = walked lock place later (without o kept) (with_row one rows) first.now (still-later place (Makes o cell) kept rows still)
    (fit-later place (Makes o cell) later rows fit) (omega (arith, count, all, fewer)) first.lists in
    record {
      now = rest.now;
      lists = same-lists (under_lock lock (row_after place later (with_row one rows))) (under_lock lock (row_after place (Makes o cell ∷ later) rows)) rest.now
          (λ p. ap (of_lock lock) (sym (after-step place (Makes o cell) later rows p))) rest.lists;
      sum = λ number.
          let now : sum_by number first.now + 0 ≡ sum_by number list + one_of lock (o, row_of place cell) number = first.sum number in
          let behind : sum_by number rest.now + all_of lock (spent_of later (without o kept)) number
          ≡ sum_by number first.now + sum_by (made_part lock place number) later = rest.sum number in
          let gone : all_of lock (spent_of (Makes o cell ∷ later) kept) number ≡ all_of lock (spent_of later (without o kept)) number =
          ap (λ (l : List (OutPoint × Row)). all_of lock l number) same in
          let come : sum_by (made_part lock place number) (Makes o cell ∷ later) ≡ one_of lock (o, row_of place cell) number + sum_by (made_part lock place number) later =
          sum_by-cons (made_part lock place number) (Makes o cell) later in
          omega (arith, now, behind, gone, come);
    }
walked lock place (Spends o ∷ later) kept rows list still fit count lists =
    by_row (kept o) refl
    (λ one of_one same_count. walked lock place later (without o kept) (without o rows) one (still-later place (Spends o) kept rows still)
    (fit-later place (Spends o) later rows fit) same_count of_one)
  where
    most : length (spent_of later (without o kept)) ≤ sum_by spend_count later
    most = spent-most later (without o kept)

    all : sum_by spend_count (Spends o ∷ later) ≡ 1 + sum_by spend_count later
    all = sum_by-cons spend_count (Spends o) later

    same : (found : Option Row) → kept o ≡ found → spent_of (Spends o ∷ later) kept ≡ row_at o found ++ spent_of later (without o kept)
    same found is = spends-of (Spends o) later kept ∙ ap (λ (f : Option Row). row_at o f ++ spent_of later (without o kept)) is

    by_row : (found : Option Row) → kept o ≡ found
        → ((one : List (OutPoint × Row)) → Lists (under_lock lock (without o rows)) one → length (spent_of later (without o kept)) ≡ sum_by spend_count later
        → Comes lock (row_after place later (without o rows)) one (all_of lock (spent_of later (without o kept))) (λ number. sum_by (made_part lock place number) later))
        → Comes lock (row_after place (Spends o ∷ later) rows) list (all_of lock (spent_of (Spends o ∷ later) kept)) (λ number. sum_by (made_part lock place number) (Spends o ∷ later))
    by_row None is behind =
        let fewer : length (spent_of (Spends o ∷ later) kept) ≡ length (spent_of later (without o kept)) = ap (λ (l : List (OutPoint × Row)). length l) (same None is) in
        absurd (omega (arith, count, fewer, most, all))
    by_row (Some row) is behind =
        let first = without-one-of lock (o, row) rows list (still o row is) lists in
        let fewer : length (spent_of (Spends o ∷ later) kept) ≡ 1 + length (spent_of later (without o kept)) =
        ap (λ (l : List (OutPoint × Row)). length l) (same (Some row) is) ∙ longer (o, row) (spent_of later (without o kept)) in
        let rest = behind first.now first.lists (omega (arith, count, fewer, all)) in
        record {
          now = rest.now;
          lists = same-lists (under_lock lock (row_after place later (without o rows))) (under_lock lock (row_after place (Spends o ∷ later) rows)) rest.now
              (λ p. ap (of_lock lock) (sym (after-step place (Spends o) later rows p))) rest.lists;
          sum = λ number.
              let now : sum_by number first.now + one_of lock (o, row) number ≡ sum_by number list + 0 = first.sum number in
              let later_sum : sum_by number rest.now + all_of lock (spent_of later (without o kept)) number
              ≡ sum_by number first.now + sum_by (made_part lock place number) later = rest.sum number in
              let gone : all_of lock (spent_of (Spends o ∷ later) kept) number ≡ one_of lock (o, row) number + all_of lock (spent_of later (without o kept)) number =
              ap (λ (l : List (OutPoint × Row)). all_of lock l number) (same (Some row) is)
              ∙ sum_by-cons (part (is_of lock) number) (o, row) (spent_of later (without o kept)) in
              let come : sum_by (made_part lock place number) (Spends o ∷ later) ≡ 0 + sum_by (made_part lock place number) later =
              sum_by-cons (made_part lock place number) (Spends o) later in
              omega (arith, now, later_sum, gone, come);
        }

-- ---- By the outputs of a block

-- what an output comes to, as the row of the cell that it makes does
abbrev IsNumberOf : ℕ → (OutPoint × Row → ℕ) → (CellOutput → ℕ) → Type 0
IsNumberOf place number value = (o : OutPoint) (cell : Cell) → number (o, row_of place cell) ≡ value cell.output

abbrev has_hash : List ℕ → CellOutput → Bool
has_hash lock output = bytes_eq (script_hash output.lock) lock

makes-one : (lock : List ℕ) (place : ℕ) (number : OutPoint × Row → ℕ) (value : CellOutput → ℕ) → IsNumberOf place number value
    → (o : OutPoint) (cell : Cell) (later : List Event)
    → sum_by (made_part lock place number) (Makes o cell ∷ later) ≡ part (has_hash lock) value cell.output + sum_by (made_part lock place number) later
makes-one lock place number value is o cell later =
    sum_by-cons (made_part lock place number) (Makes o cell) later
    ∙ ap (λ (n : ℕ). (if has_hash lock cell.output then n else 0) + sum_by (made_part lock place number) later) (is o cell)

makes-sum : (lock : List ℕ) (place : ℕ) (number : OutPoint × Row → ℕ) (value : CellOutput → ℕ) → IsNumberOf place number value
    → (index : ℕ) (outputs : List CellOutput) (t : Transaction) (height at : ℕ)
    → sum_by (made_part lock place number) (makes_from index outputs t height at) ≡ sum_by (part (has_hash lock) value) outputs
makes-sum lock place number value is index [] t height at = refl
makes-sum lock place number value is index (output ∷ outputs) t height at =
    let one : sum_by (made_part lock place number) (makes_from index (output ∷ outputs) t height at)
    ≡ part (has_hash lock) value output + sum_by (made_part lock place number) (makes_from (index + 1) outputs t height at) =
    makes-one lock place number value is (record { tx_hash = transaction_hash t; index = index })
    (record { output = output; content = data_of t index; height = height; transaction = at }) (makes_from (index + 1) outputs t height at) in
    let rest = makes-sum lock place number value is (index + 1) outputs t height at in
    let all = sum_by-cons (part (has_hash lock) value) output outputs in
    omega (arith, one, rest, all)

spends-sum : (lock : List ℕ) (place : ℕ) (number : OutPoint × Row → ℕ) (inputs : List CellInput)
    → sum_by (made_part lock place number) (map (λ (input : CellInput). Spends input.previous_output) inputs) ≡ 0
spends-sum lock place number [] = refl
spends-sum lock place number (input ∷ inputs) =
    let all : sum_by (made_part lock place number) (map (λ (i : CellInput). Spends i.previous_output) (input ∷ inputs)) ≡ 0 + sum_by (made_part lock place number) (map (λ (i : CellInput). Spends i.previous_output) inputs) =
    sum_by-cons (made_part lock place number) (Spends input.previous_output) (map (λ (i : CellInput). Spends i.previous_output) inputs) in
    let rest = spends-sum lock place number inputs in
    omega (arith, all, rest)

abbrev of_transaction : List ℕ → (CellOutput → ℕ) → Transaction → ℕ
of_transaction lock value t = sum_by (part (has_hash lock) value) t.raw.outputs

made-sum : (lock : List ℕ) (place : ℕ) (number : OutPoint × Row → ℕ) (value : CellOutput → ℕ) → IsNumberOf place number value
    → (at : ℕ) (transactions : List Transaction) (height : ℕ)
    → sum_by (made_part lock place number) (events_from at transactions height) ≡ sum_by (of_transaction lock value) transactions
made-sum lock place number value is at [] height = refl
made-sum lock place number value is at (t ∷ later) height =
    let f = made_part lock place number in
    let all = sum_by-append f (events_of t height at) (events_from (at + 1) later height) in
    let own : sum_by f (events_of t height at) ≡ of_transaction lock value t = by_test ((height == 0) || (at == 0)) in
    let rest = made-sum lock place number value is (at + 1) later height in
    let sums = sum_by-cons (of_transaction lock value) t later in
    omega (arith, all, own, rest, sums)
  where
    by_test : (b : Bool) → sum_by (made_part lock place number) ((if b then [] else spends_of t) ++ makes_from 0 t.raw.outputs t height at) ≡ of_transaction lock value t
    by_test true = makes-sum lock place number value is 0 t.raw.outputs t height at
    by_test false =
        let both = sum_by-append (made_part lock place number) (spends_of t) (makes_from 0 t.raw.outputs t height at) in
        let none = spends-sum lock place number t.raw.inputs in
        let some = makes-sum lock place number value is 0 t.raw.outputs t height at in
        omega (arith, both, none, some)

-- ---- The inputs of a block

no-spend : (index : ℕ) (outputs : List CellOutput) (t : Transaction) (height at : ℕ) → sum_by spend_count (makes_from index outputs t height at) ≡ 0
no-spend index [] t height at = refl
no-spend index (output ∷ outputs) t height at =
    let all : sum_by spend_count (makes_from index (output ∷ outputs) t height at) ≡ 0 + sum_by spend_count (makes_from (index + 1) outputs t height at) =
    sum_by-cons spend_count
    (Makes (record { tx_hash = transaction_hash t; index = index }) (record { output = output; content = data_of t index; height = height; transaction = at }))
    (makes_from (index + 1) outputs t height at) in
    let rest = no-spend (index + 1) outputs t height at in
    omega (arith, all, rest)

each-spends : (inputs : List CellInput) → sum_by spend_count (map (λ (input : CellInput). Spends input.previous_output) inputs) ≡ length inputs
each-spends [] = refl
each-spends (input ∷ inputs) =
    let all : sum_by spend_count (map (λ (i : CellInput). Spends i.previous_output) (input ∷ inputs))
    ≡ 1 + sum_by spend_count (map (λ (i : CellInput). Spends i.previous_output) inputs) =
    sum_by-cons spend_count (Spends input.previous_output) (map (λ (i : CellInput). Spends i.previous_output) inputs) in
    let rest = each-spends inputs in
    omega (arith, all, rest)

abbrev inputs_in : Transaction → ℕ
inputs_in t = length t.raw.inputs

not-zero : (n : ℕ) → 0 < n → (n == 0) ≡ false
not-zero n above = by_test (n == 0) refl
  where
    by_test : (b : Bool) → (n == 0) ≡ b → b ≡ false
    by_test true is = let zeroed = eqb-true n 0 is in absurd (omega (arith, above, zeroed))
    by_test false is = refl

later-inputs : (height : ℕ) → 0 < height → (at : ℕ) → 0 < at → (transactions : List Transaction)
    → sum_by spend_count (events_from at transactions height) ≡ sum_by inputs_in transactions
later-inputs height above at past [] = refl
later-inputs height above at past (t ∷ later) =
    let all = sum_by-append spend_count (events_of t height at) (events_from (at + 1) later height) in
    let own : sum_by spend_count (events_of t height at) ≡ length t.raw.inputs =
    ap (λ (b : Bool). sum_by spend_count ((if b then [] else spends_of t) ++ makes_from 0 t.raw.outputs t height at))
    (ap (λ (b : Bool). b || (at == 0)) (not-zero height above) ∙ not-zero at past)
    ∙ both in
    let rest = later-inputs height above (at + 1) (omega (arith, past)) later in
    let sums = sum_by-cons inputs_in t later in
    omega (arith, all, own, rest, sums)
  where
    both : sum_by spend_count (spends_of t ++ makes_from 0 t.raw.outputs t height at) ≡ length t.raw.inputs
    both =
        let all = sum_by-append spend_count (spends_of t) (makes_from 0 t.raw.outputs t height at) in
        let some = each-spends t.raw.inputs in
        let none = no-spend 0 t.raw.outputs t height at in
        omega (arith, all, some, none)

or-true : (b : Bool) → (b || true) ≡ true
or-true true = refl
or-true false = refl

block-inputs : (height : ℕ) (b : Block) → 0 < height → sum_by spend_count (events_of_block height b) ≡ inputs_of b
unfolding events_of_block
block-inputs height b above = by_list b.transactions
  where
    by_list : (transactions : List Transaction) → sum_by spend_count (events_from 0 transactions height) ≡ sum_by inputs_in (drop 1 transactions)
    by_list [] = refl
    by_list (t ∷ later) =
        let all = sum_by-append spend_count (events_of t height 0) (events_from 1 later height) in
        let own : sum_by spend_count (events_of t height 0) ≡ 0 =
        ap (λ (c : Bool). sum_by spend_count ((if c then [] else spends_of t) ++ makes_from 0 t.raw.outputs t height 0)) (or-true (height == 0))
        ∙ no-spend 0 t.raw.outputs t height 0 in
        let rest : sum_by spend_count (events_from 1 later height) ≡ sum_by inputs_in later = later-inputs height above 1 (omega arith) later in
        omega (arith, all, own, rest)

block-makes : (lock : List ℕ) (place : ℕ) (number : OutPoint × Row → ℕ) (value : CellOutput → ℕ) → IsNumberOf place number value → (height : ℕ) (b : Block)
    → sum_by (made_part lock place number) (events_of_block height b) ≡ sum_by (of_transaction lock value) b.transactions
unfolding events_of_block
block-makes lock place number value is height b = made-sum lock place number value is 0 b.transactions height

-- a sum of two functions that agree
sum-same : {X : Type 0} (f g : X → ℕ) (xs : List X) → ((x : X) → f x ≡ g x) → sum_by f xs ≡ sum_by g xs
sum-same f g [] same = refl
sum-same f g (x ∷ xs) same =
    let one = sum_by-cons f x xs in
    let other = sum_by-cons g x xs in
    let rest = sum-same f g xs same in
    let here = same x in
    omega (arith, one, other, rest, here)

-- ---- What a block changes

abbrev capacity_in : OutPoint × Row → ℕ
capacity_in = λ one. one.1.capacity

-- by sums of each kind: one for each, and what it holds
by-sums : (lock : List ℕ) (before after : OutPoint → Option Row) (gone come : (OutPoint × Row → ℕ) → ℕ) (less more : ℕ × ℕ)
    → ((list : List (OutPoint × Row)) → Lists (under_lock lock before) list → Comes lock after list gone come)
    → (less.0 ≡ gone one_each) × (less.1 ≡ gone capacity_in) → (more.0 ≡ come one_each) × (more.1 ≡ come capacity_in) → Changes lock before after less more
by-sums lock before after gone come less more moves goes comes one other lists others =
    let moved = moves one (of-rising (under_lock lock before) one lists) in
    let again = sums-once (under_lock lock after) moved.now other moved.lists (of-rising (under_lock lock after) other others) in
    let same : sum_by one_each moved.now ≡ length other = again one_each ∙ sym (counted other) in
    let sum : sum_by one_each moved.now + less.0 ≡ length one + more.0 =
    ap (λ (n : ℕ). sum_by one_each moved.now + n) goes.0 ∙ moved.sum one_each ∙ ap (λ (n : ℕ). n + come one_each) (sym (counted one))
    ∙ ap (λ (n : ℕ). length one + n) (sym comes.0) in
    let same_capacity : sum_by capacity_in moved.now ≡ capacity_of other = again capacity_in in
    let sum_capacity : sum_by capacity_in moved.now + less.1 ≡ capacity_of one + more.1 =
    ap (λ (n : ℕ). sum_by capacity_in moved.now + n) goes.1 ∙ moved.sum capacity_in ∙ ap (λ (n : ℕ). capacity_of one + n) (sym comes.1) in
    (ap (λ (n : ℕ). n + less.0) (sym same) ∙ sum, ap (λ (n : ℕ). n + less.1) (sym same_capacity) ∙ sum_capacity)

listed-sums : (lock : List ℕ) (list : List (OutPoint × Row))
    → ((sum_of (filter (is_of lock) list)).0 ≡ all_of lock list one_each) × ((sum_of (filter (is_of lock) list)).1 ≡ all_of lock list capacity_in)
listed-sums lock list = (counted (filter (is_of lock) list) ∙ filtered-sum (is_of lock) one_each list, filtered-sum (is_of lock) capacity_in list)

-- where it spends as many cells from before as it has inputs
pub changes-plain : (lock : List ℕ) (place height : ℕ) (b : Block) (before : OutPoint → Option Row) → 0 < height → AllFit (events_of_block height b) (are_live before)
    → length (spent_of (events_of_block height b) before) ≡ inputs_of b
    → Changes lock before (row_after place (events_of_block height b) before) (sum_of (filter (is_of lock) (spent_of (events_of_block height b) before))) (made_for lock b)
changes-plain lock place height b before above fit count =
    by-sums lock before (row_after place events before) (all_of lock (spent_of events before)) (λ number. sum_by (made_part lock place number) events)
    (sum_of (filter (is_of lock) (spent_of events before))) (made_for lock b)
    (λ list lists. walked lock place events before before list (λ o row is. is) fit (count ∙ sym (block-inputs height b above)) lists)
    (listed-sums lock (spent_of events before)) (
      sum-same (λ (t : Transaction). sum_by (counts_for lock) t.raw.outputs) (of_transaction lock one_each) b.transactions
          (λ t. sum-same (counts_for lock) (part (has_hash lock) one_each) t.raw.outputs (λ output. refl))
          ∙ sym (block-makes lock place one_each one_each (λ o cell. refl) height b),
      sum-same (λ (t : Transaction). sum_by (holds_for lock) t.raw.outputs) (of_transaction lock (λ output. output.capacity)) b.transactions
          (λ t. sum-same (holds_for lock) (part (has_hash lock) (λ output. output.capacity)) t.raw.outputs (λ output. refl))
          ∙ sym (block-makes lock place capacity_in (λ output. output.capacity) (λ o cell. refl) height b),
    )
  where
    events : List Event
    events = events_of_block height b

-- by the rows of what it leaves
pub changes-listed : (lock : List ℕ) (place : ℕ) (events : List Event) (before : OutPoint → Option Row) (left : List (OutPoint × Row)) → AllFit events (are_live before)
    → ListsRows (row_after place events (λ _. None)) left
    → Changes lock before (row_after place events before) (sum_of (filter (is_of lock) (spent_of events before))) (sum_of (filter (is_of lock) left))
changes-listed lock place events before left fit lists =
    by-sums lock before (row_after place events before) (all_of lock (spent_of events before)) (all_of lock left)
    (sum_of (filter (is_of lock) (spent_of events before))) (sum_of (filter (is_of lock) left))
    moves (listed-sums lock (spent_of events before)) (listed-sums lock left)
  where
    once : AreSpentOf events before (spent_of events before)
    once = spends-rows-once events before

    moves : (list : List (OutPoint × Row)) → Lists (under_lock lock before) list → Comes lock (row_after place events before) list (all_of lock (spent_of events before)) (all_of lock left)
    moves list of_before =
        let took = takes place events before left fit lists in
        let first = without-all-of lock (spent_of events before) before list (are-just (spent_of events before) before once.once (λ o row has. ((once.each o row).0 has).0)) of_before in
        let rest = with-all-of lock left (without_all (spent_of events before) before) first.now took.free first.lists in
        record {
          now = rest.now;
          lists = same-lists (under_lock lock (with_rows left (without_all (spent_of events before) before))) (under_lock lock (row_after place events before)) rest.now
              (λ o. ap (of_lock lock) (took.rows o)) rest.lists;
          sum = λ number.
              let now : sum_by number first.now + all_of lock (spent_of events before) number ≡ sum_by number list + 0 = first.sum number in
              let all : sum_by number rest.now + 0 ≡ sum_by number first.now + all_of lock left number = rest.sum number in
              omega (arith, now, all);
        }
