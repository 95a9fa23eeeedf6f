-- What is on the way between two places, by the parent of the later one.
use Rattle.std.proofs.Common.{◌≡◌, ℕ, ◌<◌, ◌==◌, Bool, true, false, List, [], ◌∷◌, Option, Some, None, refl, sym, ap, ◌∙◌, subst}
use Rattle.std.specs.Prelude.{not, ◌||◌}
use Rattle.std.proofs.lemmas.List.Folds.{list_any-append}
use Rattle.std.proofs.lemmas.Bool.{eqb-true, eq-eqb}
use Rattle.chain_defs.specs.Schema.{Block}
use Rattle.chain_defs.specs.Kept.{parent_place}
use Rattle.chain_defs.specs.Branch.{branch_places}
use Rattle.cell_state.specs.Moves.{is_on_branch, IsOnTheWay}
use Rattle.cell_state.proofs.DistanceLemmas.{has, places-step, places-first, not-later}

by-parent : (kept : List Block) (end parent place : ℕ) → parent_place kept end ≡ Some parent
    → is_on_branch kept end place ≡ (is_on_branch kept parent place || ((end == place) || false))
by-parent kept end parent place is =
    ap (λ (places : List ℕ). has places place) (places-step kept end parent is)
    ∙ list_any-append (λ (other : ℕ). other == place) (branch_places kept parent) (end ∷ [])

pub own : (kept : List Block) (end : ℕ) → is_on_branch kept end end ≡ true
own kept end = by_found (parent_place kept end) refl
  where
    itself : ((end == end) || false) ≡ true
    itself = ap (λ (b : Bool). b || false) (eq-eqb end end refl)

    last : (b : Bool) → (b || ((end == end) || false)) ≡ true
    last true = refl
    last false = itself

    by_found : (found : Option ℕ) → parent_place kept end ≡ found → is_on_branch kept end end ≡ true
    by_found None is = ap (λ (places : List ℕ). has places end) (places-first kept end is) ∙ itself
    by_found (Some parent) is = by-parent kept end parent end is ∙ last (is_on_branch kept parent end)

-- What is on the branch of a parent is on its child's.
pub on-branch-of-child : (kept : List Block) (end parent place : ℕ) → parent_place kept end ≡ Some parent → is_on_branch kept parent place ≡ true
    → is_on_branch kept end place ≡ true
on-branch-of-child kept end parent place is on = by-parent kept end parent place is ∙ ap (λ (b : Bool). b || ((end == place) || false)) on

-- The way back is the way.
turned : (kept : List Block) (from to place : ℕ) → IsOnTheWay kept from to place → IsOnTheWay kept to from place
turned kept from to place way = by_both (is_on_branch kept from place) (is_on_branch kept to place) way
  where
    by_both : (one other : Bool) → one ≡ not other → other ≡ not one
    by_both true true e = e
    by_both true false e = refl
    by_both false true e = refl
    by_both false false e = e

pub high-on-way : (kept : List Block) (low high : ℕ) → low < high → IsOnTheWay kept low high high
high-on-way kept low high less = not-later kept low high less ∙ sym (ap not (own kept high))

pub low-on-way : (kept : List Block) (low high : ℕ) → high < low → IsOnTheWay kept low high low
low-on-way kept low high less = turned kept high low low (high-on-way kept high low less)

pub way-by-high : (kept : List Block) (low high parent place : ℕ) → low < high → parent_place kept high ≡ Some parent
    → IsOnTheWay kept low parent place → IsOnTheWay kept low high place
way-by-high kept low high parent place less is way = by_own (high == place) refl
  where
    before : (b : Bool) → (b || (false || false)) ≡ b
    before true = refl
    before false = refl

    by_own : (b : Bool) → (high == place) ≡ b → IsOnTheWay kept low high place
    by_own true same = subst (λ (p : ℕ). IsOnTheWay kept low high p) (eqb-true high place same) (high-on-way kept low high less)
    by_own false differ =
        let of_parent : is_on_branch kept high place ≡ is_on_branch kept parent place =
        by-parent kept high parent place is ∙ ap (λ (b : Bool). is_on_branch kept parent place || (b || false)) differ ∙ before (is_on_branch kept parent place) in
        way ∙ ap not (sym of_parent)

pub way-by-low : (kept : List Block) (low high parent place : ℕ) → high < low → parent_place kept low ≡ Some parent
    → IsOnTheWay kept parent high place → IsOnTheWay kept low high place
way-by-low kept low high parent place less is way =
    turned kept high low place (way-by-high kept high low parent place less is (turned kept parent high place way))
