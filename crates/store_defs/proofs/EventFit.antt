-- Events that fit the cells that are live, one after the other.
use Rattle.std.proofs.Common.{◌≡◌, ℕ, zero, suc, List, [], ◌∷◌, ◌++◌, take, Some, refl, sym, ◌∙◌, subst}
use Rattle.std.specs.Prelude.{IsTrue, slice_get}
use Rattle.std.proofs.lemmas.List.{append-nil, append_assoc}
use Rattle.std.proofs.lemmas.Option.{same_Some}
use Rattle.chain_defs.specs.Events.{Event, last_naming, cell_after}
use Rattle.chain_defs.specs.Fit.{are_live, none_live, live_after, fits, AllFit}
use Rattle.chain_defs.proofs.FitLemmas.{live-cells, fits-same, all-same}

-- Each of some events fits the cells that are live after the earlier ones and those of them before it.
abbrev pub FitAfter : List Event → List Event → Type 0
FitAfter earlier [] = Unit {0}
FitAfter earlier (event ∷ later) = IsTrue (fits (are_live (cell_after earlier)) event) × FitAfter (earlier ++ event ∷ []) later

-- and others after those
pub FitAfter-append : (earlier one other : List Event) → FitAfter earlier one → FitAfter (earlier ++ one) other → FitAfter earlier (one ++ other)
FitAfter-append earlier [] other fit rest = subst (λ (front : List Event). FitAfter front other) (append-nil earlier) rest
FitAfter-append earlier (event ∷ one) other fit rest = (
  fit.0,
  FitAfter-append (earlier ++ event ∷ []) one other fit.1
      (subst (λ (front : List Event). FitAfter front other) (sym (append_assoc earlier (event ∷ []) one)) rest),
)

-- ---- As the definition has it

fit-from : (front earlier later : List Event) → FitAfter (front ++ earlier) later → (count : ℕ) (event : Event) → slice_get later count ≡ Some event
    → IsTrue (fits (live_after (earlier ++ take count later) (are_live (cell_after front))) event)
fit-from front earlier [] fit count event there = absurd (cc)
fit-from front earlier (first ∷ later) fit zero event there =
    subst (λ (done : List Event). IsTrue (fits (live_after done (are_live (cell_after front))) event)) (sym (append-nil earlier))
    (fits-same (are_live (cell_after (front ++ earlier))) (live_after earlier (are_live (cell_after front))) event (λ o. live-cells front earlier o)
    ∙ subst (λ (e : Event). IsTrue (fits (are_live (cell_after (front ++ earlier))) e)) (same_Some first event there) fit.0)
fit-from front earlier (first ∷ later) fit (suc count) event there =
    subst (λ (done : List Event). IsTrue (fits (live_after done (are_live (cell_after front))) event)) (append_assoc earlier (first ∷ []) (take count later))
    (fit-from front (earlier ++ first ∷ []) later
    (subst (λ (done : List Event). FitAfter done later) (append_assoc front earlier (first ∷ [])) fit.1) count event there)

pub all-fit : (front all : List Event) → FitAfter front all → AllFit all (are_live (cell_after front))
all-fit front all fit count event there =
    fit-from front [] all (subst (λ (done : List Event). FitAfter done all) (sym (append-nil front)) fit) count event there

pub all-fit-from-nothing : (all : List Event) → FitAfter [] all → AllFit all none_live
unfolding cell_after last_naming
all-fit-from-nothing all fit = all-same all (are_live (cell_after [])) none_live (λ o. refl) (all-fit [] all fit)
