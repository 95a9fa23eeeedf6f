-- The last places of a branch, from its end down.
use Rattle.std.proofs.Common.{◌≡◌, ℕ, suc, ◌+◌, ◌-◌, ◌<◌, ◌≤◌, List, [], ◌∷◌, ◌++◌, length, drop, get_or, Option, Some, None, refl, sym, ap, ◌∙◌, subst, inl, inr, ◌⊎◌, arith}
use Rattle.std.specs.Prelude.{slice_get}
use Rattle.std.proofs.lemmas.List.{length_push}
use Rattle.std.proofs.lemmas.Bool.{cases_lt}
use Rattle.std.proofs.lemmas.Option.{slice_get-get_or, slice_get_within, same_Some}
use Rattle.chain_defs.specs.Schema.{Block}
use Rattle.chain_defs.specs.Kept.{parent_place, IsKept}
use Rattle.chain_defs.specs.Branch.{branch_places}
use Rattle.chain_defs.proofs.KeptLaws.{slice_get-below, slice_get-push, slice_get-pushed}
use Rattle.chain_defs.proofs.BranchLaws.{parent_place-below}
use Rattle.cell_state.proofs.PlaceLemmas.{branch-first, branch-linked}
use Rattle.cell_state.specs.Moves.{IsPathUp}
use Rattle.cell_state.proofs.DistanceLemmas.{places-step, places-first}

-- a branch ends with its place
record Ends (places : List ℕ) (place : ℕ) : Type 0 where
  some : 0 < length places
  last : slice_get places (length places - 1) ≡ Some place

ends-pushed : (front : List ℕ) (place : ℕ) → Ends (front ++ place ∷ []) place
ends-pushed front place =
    let long : length (front ++ place ∷ []) ≡ length front + 1 = length_push front place in
    let at : length (front ++ place ∷ []) - 1 ≡ length front = omega (arith, long) in
    record { some = omega (arith, long); last = ap (slice_get (front ++ place ∷ [])) at ∙ slice_get-push front place }

ends : (kept : List Block) (place : ℕ) → Ends (branch_places kept place) place
ends kept place = by_parent (parent_place kept place) refl
  where
    by_parent : (found : Option ℕ) → parent_place kept place ≡ found → Ends (branch_places kept place) place
    by_parent None is = subst (λ (places : List ℕ). Ends places place) (sym (places-first kept place is)) (ends-pushed [] place)
    by_parent (Some parent) is =
        subst (λ (places : List ℕ). Ends places place) (sym (places-step kept place parent is)) (ends-pushed (branch_places kept parent) place)

pub path-end : (kept : List Block) (end : ℕ) → slice_get (branch_places kept end) (length (branch_places kept end) - 1) ≡ Some end
path-end kept end = (ends kept end).last

pub path-none : (kept : List Block) (end : ℕ) (places : List ℕ) → places ≡ [] → IsPathUp kept end places end
path-none kept end places none = subst (λ (l : List ℕ). IsPathUp kept end l end) (sym none) (record {
  some = (ends kept end).some;
  each = λ i place there. absurd (never i place there);
  below =
      let all : length (branch_places kept end) - 1 - 0 ≡ length (branch_places kept end) - 1 = omega arith in
      ap (slice_get (branch_places kept end)) all ∙ (ends kept end).last;
})
  where
    never : (i place : ℕ) → slice_get (drop 1 (0 ∷ [])) i ≡ Some place → ⊥
    never i place there = cc

-- The parent of a place on a branch stands below it there.
parent-below : (kept : List Block) (end height place parent : ℕ) → slice_get (branch_places kept end) (suc height) ≡ Some place
    → parent_place kept place ≡ Some parent → slice_get (branch_places kept end) height ≡ Some parent
parent-below kept end height place parent there is =
    let within = slice_get_within (branch_places kept end) (suc height) place there in
    let low = slice_get-below (branch_places kept end) height (omega (arith, within)) in
    let next : suc height ≡ height + 1 = omega arith in
    let linked = branch-linked kept end height low.0 place low.1 (sym (ap (slice_get (branch_places kept end)) next) ∙ there) in
    low.1 ∙ sym linked ∙ is

-- the first place of a branch is that of the genesis
first-alone : (kept : List Block) (end place parent : ℕ) → IsKept kept → end < length kept → slice_get (branch_places kept end) 0 ≡ Some place
    → parent_place kept place ≡ Some parent → ⊥
first-alone kept end place parent is_kept within there is =
    let zeroth : 0 ≡ place = same_Some 0 place (sym (branch-first kept end is_kept within) ∙ there) in
    none_below (ap (parent_place kept) zeroth ∙ is)
  where
    none_below : parent_place kept 0 ≡ Some parent → ⊥
    none_below found = let less : parent < 0 = parent_place-below kept 0 parent found in omega (arith, less)

pub path-more : (kept : List Block) (end : ℕ) (places more : List ℕ) (next parent : ℕ) → IsKept kept → end < length kept → IsPathUp kept end places next
    → more ≡ places ++ next ∷ [] → parent_place kept next ≡ Some parent → IsPathUp kept end more parent
path-more kept end places more next parent is_kept within path grown is =
    subst (λ (l : List ℕ). IsPathUp kept end l parent) (sym grown) (record {
      some = omega (arith, long, above);
      each = λ i place there. by_end i place (slice_get-pushed places next i place there);
      below = ap (slice_get (branch_places kept end)) down ∙ parent-below kept end height next parent (ap (slice_get (branch_places kept end)) (sym up) ∙ path.below) is;
    })
  where
    long : length (places ++ next ∷ []) ≡ length places + 1
    long = length_push places next

    above : length places + 1 < length (branch_places kept end)
    above = by_room (cases_lt (length places + 1) (length (branch_places kept end)))
      where
        by_room : (length places + 1 < length (branch_places kept end)) ⊎ (length (branch_places kept end) ≤ length places + 1)
            → length places + 1 < length (branch_places kept end)
        by_room (inl room) = room
        by_room (inr none) =
            let some = path.some in
            let last : length (branch_places kept end) - 1 - length places ≡ 0 = omega (arith, none, some) in
            absurd (first-alone kept end next parent is_kept within (ap (slice_get (branch_places kept end)) (sym last) ∙ path.below) is)

    height : ℕ
    height = length (branch_places kept end) - 1 - (length places + 1)

    up : length (branch_places kept end) - 1 - length places ≡ suc height
    up = omega (arith, above)

    down : length (branch_places kept end) - 1 - length (places ++ next ∷ []) ≡ height
    down = omega (arith, long)

    by_end : (i place : ℕ) → ((i < length places) × (slice_get places i ≡ Some place)) ⊎ ((i ≡ length places) × (next ≡ place))
        → slice_get (branch_places kept end) (length (branch_places kept end) - 1 - i) ≡ Some place
    by_end i place (inl before) = path.each i place before.1
    by_end i place (inr last) =
        ap (λ (n : ℕ). slice_get (branch_places kept end) (length (branch_places kept end) - 1 - n)) last.0 ∙ path.below ∙ ap (λ (p : ℕ). Some p) last.1

-- ---- Going up it

-- the height of the branch after so many of the places, from the last up
abbrev pub height_after : List Block → ℕ → List ℕ → ℕ → ℕ
height_after kept end places i = length (branch_places kept end) - 1 - length places + i

-- a place as it is read, counted from the last up
pub read-at : (places : List ℕ) (i place : ℕ) → i < length places → place ≡ get_or places (length places - i - 1) place
    → slice_get places (length places - i - 1) ≡ Some place
read-at places i place below is =
    slice_get-get_or places (length places - i - 1) place (omega (arith, below)) ∙ sym (ap (λ (p : ℕ). Some p) is)

pub on-path : (kept : List Block) (end : ℕ) (places : List ℕ) (next i place : ℕ) → IsPathUp kept end places next → i < length places
    → slice_get places (length places - i - 1) ≡ Some place → slice_get (branch_places kept end) (height_after kept end places i + 1) ≡ Some place
on-path kept end places next i place path below there =
    let some = path.some in
    let at : height_after kept end places i + 1 ≡ length (branch_places kept end) - 1 - (length places - i - 1) = omega (arith, some, below) in
    ap (slice_get (branch_places kept end)) at ∙ path.each (length places - i - 1) place there

pub path-start : (kept : List Block) (end : ℕ) (places : List ℕ) (next place : ℕ) → IsPathUp kept end places next
    → slice_get (branch_places kept end) (height_after kept end places 0) ≡ Some place → next ≡ place
path-start kept end places next place path there =
    let at : length (branch_places kept end) - 1 - length places ≡ height_after kept end places 0 = omega arith in
    same_Some next place (sym path.below ∙ ap (slice_get (branch_places kept end)) at ∙ there)

pub path-top : (kept : List Block) (end : ℕ) (places : List ℕ) (next : ℕ) → IsPathUp kept end places next
    → slice_get (branch_places kept end) (height_after kept end places (length places)) ≡ Some end
path-top kept end places next path =
    let some = path.some in
    let at : height_after kept end places (length places) ≡ length (branch_places kept end) - 1 = omega (arith, some) in
    ap (slice_get (branch_places kept end)) at ∙ path-end kept end
