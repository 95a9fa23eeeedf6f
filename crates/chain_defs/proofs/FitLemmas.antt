-- On events that fit what is live.
use Rattle.std.proofs.Common.{◌≡◌, ℕ, zero, suc, ◌-◌, ◌<◌, ◌≤◌, Bool, List, [], ◌∷◌, ◌++◌, length, take, Option, Some, None, ⊎_elim, refl, sym, ap, ◌∙◌, subst, arith}
use Rattle.std.specs.Prelude.{not, is_some, slice_get, IsTrue}
use Rattle.std.specs.Option.{option_map, option_or}
use Rattle.std.proofs.lemmas.Bool.{cases_lt}
use Rattle.std.proofs.lemmas.List.{take-append-le, take_at}
use Rattle.std.proofs.lemmas.Option.{same_Some, slice_get_within}
use Rattle.std.proofs.Math.Seq.{take-append_seam}
use Rattle.chain_defs.specs.Schema.{OutPoint, Block}
use Rattle.chain_defs.specs.Branch.{branch}
use Rattle.chain_defs.proofs.KeptLaws.{slice_get-before}
use Rattle.chain_defs.specs.Events.{Event, Makes, Spends, last_naming, cell_left, cell_after, live_cell}
use Rattle.chain_defs.specs.Row.{row_on, live_row}
use Rattle.chain_defs.specs.Fit.{are_live, none_live, live_by, live_after, fits, AllFit}
use Rattle.chain_defs.proofs.EventLemmas.{last_naming-append}

-- ---- What is live after events

pub live-same : (done : List Event) (one other : OutPoint → Bool) (o : OutPoint) → other o ≡ one o → live_after done other o ≡ live_after done one o
unfolding live_after
live-same done one other o same = ap (λ (before : Bool). live_by (last_naming o done) before) same

-- A value that is mapped is there where it was.
pub mapped-some : {A B : Type 0} (f : A → B) (found : Option A) → is_some (option_map f found) ≡ is_some found
mapped-some f None = refl
mapped-some f (Some x) = refl

-- by cells
pub live-cells : (front done : List Event) (o : OutPoint) → live_after done (are_live (cell_after front)) o ≡ is_some (cell_after (front ++ done) o)
unfolding live_after cell_after
live-cells front done o = by_last (last_naming o done) ∙ ap (λ (last : Option Event). is_some (cell_left last)) (sym (last_naming-append o front done))
  where
    by_last : (last : Option Event) → live_by last (is_some (cell_left (last_naming o front))) ≡ is_some (cell_left (option_or last (last_naming o front)))
    by_last None = refl
    by_last (Some (Makes other cell)) = refl
    by_last (Some (Spends other)) = refl

-- from nothing on
pub live-from-nothing : (done : List Event) (o : OutPoint) → live_after done none_live o ≡ is_some (cell_after done o)
unfolding live_after cell_after
live-from-nothing done o = by_last (last_naming o done)
  where
    by_last : (last : Option Event) → live_by last (none_live o) ≡ is_some (cell_left last)
    by_last None = refl
    by_last (Some (Makes other cell)) = refl
    by_last (Some (Spends other)) = refl

-- A branch has a row where it has a cell.
pub row-where-cell : (kept : List Block) (place : ℕ) (o : OutPoint) → is_some (live_row kept place o) ≡ is_some (live_cell (branch kept place) o)
unfolding live_row
row-where-cell kept place o = mapped-some (row_on kept place) (live_cell (branch kept place) o)

-- ---- Events that fit

pub fits-same : (one other : OutPoint → Bool) (event : Event) → ((o : OutPoint) → other o ≡ one o) → fits other event ≡ fits one event
fits-same one other (Makes o cell) same = ap not (same o)
fits-same one other (Spends o) same = same o

pub all-same : (all : List Event) (one other : OutPoint → Bool) → ((o : OutPoint) → other o ≡ one o) → AllFit all one → AllFit all other
all-same all one other same fit count event there =
    fits-same (live_after (take count all) one) (live_after (take count all) other) event (λ o. live-same (take count all) one other o (same o))
    ∙ fit count event there

-- by rows, or cells, that are the same
pub found-same : {V : Type 0} (all : List Event) (one other : OutPoint → Option V) → ((o : OutPoint) → other o ≡ one o) → AllFit all (are_live one)
    → AllFit all (are_live other)
found-same all one other same fit = all-same all (are_live one) (are_live other) (λ o. ap is_some (same o)) fit

slice_get-middle : (xs ys : List Event) (x : Event) → slice_get (xs ++ x ∷ ys) (length xs) ≡ Some x
slice_get-middle [] ys x = refl
slice_get-middle (first ∷ xs) ys x = slice_get-middle xs ys x

-- at any place
pub fits-between : (all earlier : List Event) (event : Event) (later : List Event) (live : OutPoint → Bool) → AllFit all live → all ≡ earlier ++ event ∷ later
    → IsTrue (fits (live_after earlier live) event)
fits-between all earlier event later live fit parts =
    subst (λ (front : List Event). IsTrue (fits (live_after front live) event))
    (ap (take (length earlier)) parts ∙ take_at earlier (event ∷ later) (length earlier) refl)
    (fit (length earlier) event (ap (λ (es : List Event). slice_get es (length earlier)) parts ∙ slice_get-middle earlier later event))

pub fit-none : (live : OutPoint → Bool) → AllFit [] live
fit-none live count event there = absurd (cc)

slice_get-behind : (xs ys : List Event) (i : ℕ) → length xs ≤ i → slice_get (xs ++ ys) i ≡ slice_get ys (i - length xs)
slice_get-behind [] ys i least = let same : i ≡ i - 0 = omega arith in ap (slice_get ys) same
slice_get-behind (x ∷ xs) ys zero least = absurd (omega (arith, least))
slice_get-behind (x ∷ xs) ys (suc i) least =
    let same : i - length xs ≡ suc i - length (x ∷ xs) = omega arith in
    slice_get-behind xs ys i (omega (arith, least)) ∙ ap (slice_get ys) same

-- with one more
pub fit-push : (done : List Event) (event : Event) (live : OutPoint → Bool) → AllFit done live → IsTrue (fits (live_after done live) event)
    → AllFit (done ++ event ∷ []) live
fit-push done event live fit fit_last count other there = ⊎_elim earlier last (cases_lt count (length done))
  where
    earlier : count < length done → IsTrue (fits (live_after (take count (done ++ event ∷ [])) live) other)
    earlier below =
        subst (λ (front : List Event). IsTrue (fits (live_after front live) other)) (sym (take-append-le count done (event ∷ []) (omega (arith, below))))
        (fit count other (sym (slice_get-before done (event ∷ []) count below) ∙ there))

    last : length done ≤ count → IsTrue (fits (live_after (take count (done ++ event ∷ [])) live) other)
    last least =
        let at_end = sym (slice_get-behind done (event ∷ []) count least) ∙ there in
        let within = slice_get_within (event ∷ []) (count - length done) other at_end in
        let same : count ≡ length done = omega (arith, within, least) in
        let first : count - length done ≡ 0 = omega (arith, same) in
        let one : event ≡ other = same_Some event other (ap (slice_get (event ∷ [])) (sym first) ∙ at_end) in
        let all : take count (done ++ event ∷ []) ≡ done = ap (λ (n : ℕ). take n (done ++ event ∷ [])) same ∙ take-append_seam done (event ∷ []) in
        subst (λ (front : List Event). IsTrue (fits (live_after front live) other)) (sym all)
        (subst (λ (e : Event). IsTrue (fits (live_after done live) e)) one fit_last)
