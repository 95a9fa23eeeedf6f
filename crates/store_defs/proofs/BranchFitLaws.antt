-- Along each branch of a chain that has joined the events of each block fit what is live before it: so they did over the blocks before it, and what
-- is live there is the same.
use Rattle.std.proofs.Common.{◌≡◌, ℕ, zero, suc, ◌+◌, ◌-◌, ◌<◌, List, [], ◌∷◌, ◌++◌, length, take, drop, Option, Some, None, refl, sym, ap, ◌∙◌, subst, inl, inr, ◌⊎◌, arith}
use Rattle.std.specs.Prelude.{slice_get}
use Rattle.std.specs.Option.{option_and_then}
use Rattle.std.proofs.lemmas.List.{length_push, length-take-le, take-append-drop}
use Rattle.std.proofs.lemmas.Option.{slice_get_within, same_Some}
use Rattle.chain_defs.specs.Schema.{Block}
use Rattle.chain_defs.specs.Kept.{place_of, parent_place}
use Rattle.chain_defs.specs.Branch.{places_within, branch_places, branch}
use Rattle.chain_defs.proofs.KeptLaws.{slice_get-before, slice_get-push, slice_get-pushed}
use Rattle.chain_defs.proofs.BranchLaws.{places_on, places_within-enough, parent_place-below}
use Rattle.chain_defs.specs.Events.{events_of_block, live_cell}
use Rattle.chain_defs.proofs.JoinLemmas.{length-branch}
use Rattle.chain_defs.specs.Fit.{are_live, AllFit}
use Rattle.verdict_defs.specs.Laws.{MayJoin}
use Rattle.verdict_defs.proofs.VerdictLaws.{branch-more}
use Rattle.store_defs.specs.JoinedLaws.{WhatJoinsFits, BranchesFit}

-- ---- Along a branch

-- the last place of a branch is its own
places-last : (most : ℕ) (kept : List Block) (place : ℕ)
    → slice_get (places_within (suc most) kept place) (length (places_within (suc most) kept place) - 1) ≡ Some place
places-last most kept place = by_parent (parent_place kept place)
  where
    by_parent : (found : Option ℕ) → slice_get (places_on most kept place found) (length (places_on most kept place found) - 1) ≡ Some place
    by_parent None = refl
    by_parent (Some parent) =
        let more : length (places_within most kept parent ++ place ∷ []) ≡ length (places_within most kept parent) + 1 =
        length_push (places_within most kept parent) place in
        let at : length (places_within most kept parent ++ place ∷ []) - 1 ≡ length (places_within most kept parent) = omega (arith, more) in
        ap (slice_get (places_within most kept parent ++ place ∷ [])) at ∙ slice_get-push (places_within most kept parent) place

-- a place on a branch after another has it as its parent, whose branch ends there
record IsLink (kept : List Block) (height parent place : ℕ) : Type 0 where
  on : parent_place kept place ≡ Some parent
  long : length (branch_places kept parent) ≡ height + 1

links-within : (most : ℕ) (kept : List Block) (end height parent place : ℕ) → end < most → slice_get (places_within most kept end) height ≡ Some parent
    → slice_get (places_within most kept end) (height + 1) ≡ Some place → IsLink kept height parent place
unfolding branch_places
links-within zero kept end height parent place few here next = absurd (omega (arith, few))
links-within (suc most) kept end height parent place few here next =
    by_parent (parent_place kept end) refl here next (λ up low. links-within most kept up height parent place low)
  where
    at_end : (up : ℕ) → parent_place kept end ≡ Some up → up < most → height + 1 ≡ length (places_within most kept up) → end ≡ place
        → slice_get (places_within most kept up) height ≡ Some parent → IsLink kept height parent place
    at_end up is low end_at same here = record {
      on = ap (parent_place kept) (sym same) ∙ is ∙ ap Some one;
      long = ap (λ (p : ℕ). length (places_within (suc p) kept p)) (sym one) ∙ long;
    }
      where
        enough : places_within most kept up ≡ places_within (suc up) kept up
        enough = places_within-enough most (suc up) kept up low (omega arith)

        long : length (places_within (suc up) kept up) ≡ height + 1
        long = ap length (sym enough) ∙ sym end_at

        one : up ≡ parent
        one =
            let at : length (places_within (suc up) kept up) - 1 ≡ height = omega (arith, long) in
            same_Some up parent (sym (places-last up kept up) ∙ ap (slice_get (places_within (suc up) kept up)) at
            ∙ ap (λ (places : List ℕ). slice_get places height) (sym enough) ∙ here)

    by_parent : (found : Option ℕ) → parent_place kept end ≡ found → slice_get (places_on most kept end found) height ≡ Some parent
        → slice_get (places_on most kept end found) (height + 1) ≡ Some place
        → ((up : ℕ) → up < most → slice_get (places_within most kept up) height ≡ Some parent
        → slice_get (places_within most kept up) (height + 1) ≡ Some place → IsLink kept height parent place)
        → IsLink kept height parent place
    by_parent None is here next rest = let one = slice_get_within (end ∷ []) (height + 1) place next in absurd (omega (arith, one))
    by_parent (Some up) is here next rest =
        by_end (slice_get-pushed (places_within most kept up) end (height + 1) place next)
      where
        front : height < length (places_within most kept up) → slice_get (places_within most kept up) height ≡ Some parent
        front within = sym (slice_get-before (places_within most kept up) (end ∷ []) height within) ∙ here

        by_end : ((height + 1 < length (places_within most kept up)) × (slice_get (places_within most kept up) (height + 1) ≡ Some place))
            ⊎ ((height + 1 ≡ length (places_within most kept up)) × (end ≡ place)) → IsLink kept height parent place
        by_end (inl before) = rest up (omega (arith, parent_place-below kept end up is, few)) (front (omega (arith, before.0))) before.1
        by_end (inr last) = at_end up is (omega (arith, parent_place-below kept end up is, few)) last.0 last.1 (front (omega (arith, last.0)))

link-of : (kept : List Block) (end height parent place : ℕ) → slice_get (branch_places kept end) height ≡ Some parent
    → slice_get (branch_places kept end) (height + 1) ≡ Some place → IsLink kept height parent place
unfolding branch_places
link-of kept end height parent place here next = links-within (suc end) kept end height parent place (omega arith) here next

-- ---- Over the blocks before

pub branches-fit : WhatJoinsFits → BranchesFit
branches-fit fits chain end joined below height parent place b here next there =
    subst (λ (on : List Block). AllFit (events_of_block (height + 1) b) (are_live (live_cell on))) (sym branch_same)
    (subst (λ (p : ℕ). AllFit (events_of_block (height + 1) b) (are_live (live_cell (branch before p)))) same
    (subst (λ (h : ℕ). AllFit (events_of_block h b) (are_live (live_cell (branch before may.parent)))) height_is
    (fits (record { spec = chain.spec; blocks = before }) b may)))
  where
    before : List Block
    before = take place chain.blocks

    within : place < length chain.blocks
    within = slice_get_within chain.blocks place b there

    long : length before ≡ place
    long = length-take-le place chain.blocks (omega (arith, within))

    parts : before ++ drop place chain.blocks ≡ chain.blocks
    parts = take-append-drop place chain.blocks

    link : IsLink chain.blocks height parent place
    link = link-of chain.blocks end height parent place here next

    low : parent < place
    low = parent_place-below chain.blocks place parent link.on

    above : 0 < place
    above = omega (arith, low)

    under : parent < length before
    under = omega (arith, low, long)

    may : MayJoin chain.spec before b
    may = joined.each place b above there

    same : may.parent ≡ parent
    same =
        same_Some may.parent parent (sym may.on_kept
        ∙ sym (ap (option_and_then (λ (x : Block). place_of before x.header.parent_hash)) there) ∙ link.on)

    branch_same : branch chain.blocks parent ≡ branch before parent
    branch_same = ap (λ (blocks : List Block). branch blocks parent) (sym parts) ∙ branch-more before (drop place chain.blocks) parent under

    height_is : length (branch before may.parent) ≡ height + 1
    height_is =
        ap (λ (p : ℕ). length (branch before p)) same ∙ ap length (sym branch_same)
        ∙ length-branch chain.blocks parent (omega (arith, low, within)) ∙ link.long
