-- The places of a branch: it begins with the genesis, and each place after another is that of a child.
use Rattle.std.proofs.Common.{◌≡◌, ℕ, zero, suc, ◌+◌, ◌<◌, List, [], ◌∷◌, ◌++◌, length, take, Option, Some, None, refl, sym, ap, ◌∙◌, inl, inr, ◌⊎◌, arith}
use Rattle.std.specs.Prelude.{slice_get}
use Rattle.std.specs.Option.{option_and_then}
use Rattle.std.proofs.lemmas.List.{length_push}
use Rattle.std.proofs.lemmas.Option.{slice_get_within, same_Some}
use Rattle.chain_defs.specs.Schema.{Block}
use Rattle.chain_defs.specs.Kept.{place_of, parent_place, StandsOn, IsKept}
use Rattle.chain_defs.specs.Branch.{places_within, branch_places}
use Rattle.chain_defs.proofs.KeptLaws.{slice_get-below, slice_get-before, slice_get-push, slice_get-pushed}
use Rattle.chain_defs.proofs.BranchLaws.{places_on, parent_place-below}

-- ---- The first

first-within : (most : ℕ) (kept : List Block) (place : ℕ) → IsKept kept → place < most → place < length kept
    → slice_get (places_within most kept place) 0 ≡ Some 0
first-within zero kept place is_kept few below = absurd (omega (arith, few))
first-within (suc most) kept zero is_kept few below =
    let here = slice_get-below kept 0 below in
    let alone : parent_place kept 0 ≡ None = ap (option_and_then (λ (b : Block). place_of [] b.header.parent_hash)) here.1 in
    ap (λ (found : Option ℕ). slice_get (places_on most kept 0 found) 0) alone
first-within (suc most) kept (suc place) is_kept few below =
    let here = slice_get-below kept (suc place) below in
    let stands : StandsOn (take (suc place) kept) here.0 = is_kept.stands (suc place) here.0 (omega arith) here.1 in
    let is : parent_place kept (suc place) ≡ Some stands.place =
    ap (option_and_then (λ (b : Block). place_of (take (suc place) kept) b.header.parent_hash)) here.1 ∙ stands.named in
    let earlier : stands.place < suc place = parent_place-below kept (suc place) stands.place is in
    let rest : slice_get (places_within most kept stands.place) 0 ≡ Some 0 =
    first-within most kept stands.place is_kept (omega (arith, earlier, few)) (omega (arith, earlier, below)) in
    ap (λ (found : Option ℕ). slice_get (places_on most kept (suc place) found) 0) is
    ∙ slice_get-before (places_within most kept stands.place) (suc place ∷ []) 0 (slice_get_within (places_within most kept stands.place) 0 0 rest)
    ∙ rest

pub branch-first : (kept : List Block) (place : ℕ) → IsKept kept → place < length kept → slice_get (branch_places kept place) 0 ≡ Some 0
unfolding branch_places
branch-first kept place is_kept below = first-within (suc place) kept place is_kept (omega arith) below

-- ---- One after another

last-within : (most : ℕ) (kept : List Block) (place n : ℕ) → place < most → suc n ≡ length (places_within most kept place)
    → slice_get (places_within most kept place) n ≡ Some place
last-within zero kept place n few long = absurd (omega (arith, few))
last-within (suc most) kept place n few long = by_parent (parent_place kept place) long
  where
    ends : (front : List ℕ) → suc n ≡ length (front ++ place ∷ []) → slice_get (front ++ place ∷ []) n ≡ Some place
    ends front is =
        let more : length (front ++ place ∷ []) ≡ length front + 1 = length_push front place in
        let at : n ≡ length front = omega (arith, more, is) in
        ap (slice_get (front ++ place ∷ [])) at ∙ slice_get-push front place

    by_parent : (found : Option ℕ) → suc n ≡ length (places_on most kept place found) → slice_get (places_on most kept place found) n ≡ Some place
    by_parent None is = ends [] is
    by_parent (Some parent) is = ends (places_within most kept parent) is

linked-within : (most : ℕ) (kept : List Block) (place height parent child : ℕ) → place < most
    → slice_get (places_within most kept place) height ≡ Some parent → slice_get (places_within most kept place) (suc height) ≡ Some child
    → parent_place kept child ≡ Some parent
linked-within zero kept place height parent child few low high = absurd (omega (arith, few))
linked-within (suc most) kept place height parent child few low high = by_parent (parent_place kept place) refl (linked-within most kept) low high
  where
    by_parent : (found : Option ℕ) → parent_place kept place ≡ found
        → ((p h one other : ℕ) → p < most → slice_get (places_within most kept p) h ≡ Some one → slice_get (places_within most kept p) (suc h) ≡ Some other
        → parent_place kept other ≡ Some one)
        → slice_get (places_on most kept place found) height ≡ Some parent → slice_get (places_on most kept place found) (suc height) ≡ Some child
        → parent_place kept child ≡ Some parent
    by_parent None is rest under above = absurd (cc)
    by_parent (Some p) is rest under above = by_end (slice_get-pushed (places_within most kept p) place (suc height) child above)
      where
        few_of : p < most
        few_of = let earlier = parent_place-below kept place p is in omega (arith, earlier, few)

        by_end : ((suc height < length (places_within most kept p)) × (slice_get (places_within most kept p) (suc height) ≡ Some child))
            ⊎ ((suc height ≡ length (places_within most kept p)) × (place ≡ child)) → parent_place kept child ≡ Some parent
        by_end (inl before) =
            rest p height parent child few_of
            (sym (slice_get-before (places_within most kept p) (place ∷ []) height (let below = before.0 in omega (arith, below))) ∙ under) before.1
        by_end (inr end) =
            let below : height < length (places_within most kept p) = let long = end.0 in omega (arith, long) in
            let same : p ≡ parent = same_Some p parent (sym (last-within most kept p height few_of end.0)
            ∙ sym (slice_get-before (places_within most kept p) (place ∷ []) height below) ∙ under) in
            ap (parent_place kept) (sym end.1) ∙ is ∙ ap Some same

pub branch-linked : (kept : List Block) (place height parent child : ℕ) → slice_get (branch_places kept place) height ≡ Some parent
    → slice_get (branch_places kept place) (height + 1) ≡ Some child → parent_place kept child ≡ Some parent
unfolding branch_places
branch-linked kept place height parent child low high =
    let next : suc height ≡ height + 1 = omega arith in
    linked-within (suc place) kept place height parent child (omega arith) low (ap (slice_get (places_within (suc place) kept place)) next ∙ high)
