-- A cell is live where more makes than spends name it.
use Rattle.std.proofs.Common.{◌≡◌, ℕ, ◌+◌, ◌<◌, Bool, true, false, cond, List, [], ◌∷◌, ◌++◌, Option, Some, None, refl, sym, ap, ◌∙◌, subst, arith}
use Rattle.std.specs.Prelude.{◌↔◌, IsTrue, is_some}
use Rattle.std.specs.List.{count_by}
use Rattle.std.proofs.lemmas.Bool.{not-true}
use Rattle.std.proofs.lemmas.List.{append-nil, append_assoc}
use Rattle.std.proofs.lemmas.List.Sums.{sum_by_push}
use Rattle.chain_defs.specs.Schema.{OutPoint}
use Rattle.chain_defs.specs.Cell.{Cell}
use Rattle.chain_defs.specs.Events.{Event, Makes, Spends, names, last_naming, cell_after}
use Rattle.chain_defs.specs.CellLaws.{makes, spends, LivesByCounting}
use Rattle.chain_defs.specs.Fit.{are_live, none_live, live_after, fits, AllFit}
use Rattle.chain_defs.proofs.FitLemmas.{fits-same, fits-between, live-from-nothing}
use Rattle.chain_defs.proofs.EventLemmas.{names-same, cell_after-push}

abbrev live_count : Option Cell → ℕ
live_count None = 0
live_count (Some cell) = 1

free : (live : Option Cell) → is_some live ≡ false → live_count live ≡ 0
free None is = refl
free (Some cell) is = absurd (cc)

held : (live : Option Cell) → is_some live ≡ true → live_count live ≡ 1
held None is = absurd (cc)
held (Some cell) is = refl

-- as many makes as spends, and one more where the cell is live
record Balances (o : OutPoint) (events : List Event) : Type 0 where
  is : count_by (makes o) events ≡ count_by (spends o) events + live_count (cell_after events o)

counts-push : (test : Event → Bool) (events : List Event) (event : Event) (b : Bool) → test event ≡ b
    → count_by test (events ++ event ∷ []) ≡ count_by test events + cond b 1 0
counts-push test events event b is =
    sum_by_push (λ x. cond (test x) 1 0) events event ∙ ap (λ (c : Bool). count_by test events + cond c 1 0) is

after-push : (earlier : List Event) (event : Event) (o : OutPoint) (b : Bool) → names o event ≡ b → (left : Option Cell)
    → cell_after (earlier ++ event ∷ []) o ≡ cond (names o event) left (cell_after earlier o)
    → live_count (cell_after (earlier ++ event ∷ []) o) ≡ live_count (cond b left (cell_after earlier o))
after-push earlier event o b is left after = ap live_count (after ∙ ap (λ (c : Bool). cond c left (cell_after earlier o)) is)

-- one event more that fits
Balances-push : (o : OutPoint) (events : List Event) (event : Event) → IsTrue (fits (are_live (cell_after events)) event) → Balances o events
    → Balances o (events ++ event ∷ [])
Balances-push o events (Makes other cell) fit was = record { is = by_name (names o (Makes other cell)) refl }
  where
    spent : count_by (spends o) (events ++ Makes other cell ∷ []) ≡ count_by (spends o) events + 0
    spent = counts-push (spends o) events (Makes other cell) false refl

    by_name : (b : Bool) → names o (Makes other cell) ≡ b
        → count_by (makes o) (events ++ Makes other cell ∷ [])
        ≡ count_by (spends o) (events ++ Makes other cell ∷ []) + live_count (cell_after (events ++ Makes other cell ∷ []) o)
    by_name true named =
        let made : count_by (makes o) (events ++ Makes other cell ∷ []) ≡ count_by (makes o) events + 1 =
        counts-push (makes o) events (Makes other cell) true named in
        let after : live_count (cell_after (events ++ Makes other cell ∷ []) o) ≡ 1 =
        after-push events (Makes other cell) o true named (Some cell) (cell_after-push events (Makes other cell) o) in
        let before : live_count (cell_after events o) ≡ 0 = free (cell_after events o) (ap (λ (x : OutPoint). is_some (cell_after events x))
        (sym (names-same o (Makes other cell) named)) ∙ not-true (is_some (cell_after events other)) fit) in
        omega (arith, made, spent, after, before, was.is)
    by_name false named =
        let made : count_by (makes o) (events ++ Makes other cell ∷ []) ≡ count_by (makes o) events + 0 =
        counts-push (makes o) events (Makes other cell) false named in
        let after : live_count (cell_after (events ++ Makes other cell ∷ []) o) ≡ live_count (cell_after events o) =
        after-push events (Makes other cell) o false named (Some cell) (cell_after-push events (Makes other cell) o) in
        omega (arith, made, spent, after, was.is)
Balances-push o events (Spends other) fit was = record { is = by_name (names o (Spends other)) refl }
  where
    made : count_by (makes o) (events ++ Spends other ∷ []) ≡ count_by (makes o) events + 0
    made = counts-push (makes o) events (Spends other) false refl

    by_name : (b : Bool) → names o (Spends other) ≡ b
        → count_by (makes o) (events ++ Spends other ∷ [])
        ≡ count_by (spends o) (events ++ Spends other ∷ []) + live_count (cell_after (events ++ Spends other ∷ []) o)
    by_name true named =
        let spent : count_by (spends o) (events ++ Spends other ∷ []) ≡ count_by (spends o) events + 1 =
        counts-push (spends o) events (Spends other) true named in
        let after : live_count (cell_after (events ++ Spends other ∷ []) o) ≡ 0 =
        after-push events (Spends other) o true named None (cell_after-push events (Spends other) o) in
        let before : live_count (cell_after events o) ≡ 1 = held (cell_after events o) (ap (λ (x : OutPoint). is_some (cell_after events x))
        (sym (names-same o (Spends other) named)) ∙ fit) in
        omega (arith, made, spent, after, before, was.is)
    by_name false named =
        let spent : count_by (spends o) (events ++ Spends other ∷ []) ≡ count_by (spends o) events + 0 =
        counts-push (spends o) events (Spends other) false named in
        let after : live_count (cell_after (events ++ Spends other ∷ []) o) ≡ live_count (cell_after events o) =
        after-push events (Spends other) o false named None (cell_after-push events (Spends other) o) in
        omega (arith, made, spent, after, was.is)

balances-on : (o : OutPoint) (earlier later : List Event) → AllFit (earlier ++ later) none_live → Balances o earlier → Balances o (earlier ++ later)
balances-on o earlier [] fit was = subst (Balances o) (sym (append-nil earlier)) was
balances-on o earlier (event ∷ later) fit was =
    let same : (earlier ++ event ∷ []) ++ later ≡ earlier ++ event ∷ later = append_assoc earlier (event ∷ []) later in
    subst (Balances o) same
    (balances-on o (earlier ++ event ∷ []) later (subst (λ (all : List Event). AllFit all none_live) (sym same) fit)
    (Balances-push o earlier event (here fit) was))
  where
    here : AllFit (earlier ++ event ∷ later) none_live → IsTrue (fits (are_live (cell_after earlier)) event)
    here all =
        sym (fits-same (are_live (cell_after earlier)) (live_after earlier none_live) event (λ o. live-from-nothing earlier o))
        ∙ fits-between (earlier ++ event ∷ later) earlier event later none_live all refl

-- none before the first
Balances-nil : (o : OutPoint) → Balances o []
unfolding cell_after last_naming
Balances-nil o = record { is = refl }

by-count : (live : Option Cell) (made spent : ℕ) → made ≡ spent + live_count live → IsTrue (is_some live) ↔ (spent < made)
by-count None made spent is = (λ held. absurd (cc), λ less. absurd (omega (arith, is, less)))
by-count (Some cell) made spent is = (λ held. omega (arith, is), λ less. refl)

pub lives-by-counting : LivesByCounting
lives-by-counting events o fit =
    by-count (cell_after events o) (count_by (makes o) events) (count_by (spends o) events) (balances-on o [] events fit (Balances-nil o)).is
