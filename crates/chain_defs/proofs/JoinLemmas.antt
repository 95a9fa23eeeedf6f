-- One block more at the end of the kept ones: the places of its branch, and the events of one block more on a branch.
use Rattle.std.proofs.Common.{◌≡◌, ℕ, zero, suc, ◌+◌, ◌<◌, List, [], ◌∷◌, ◌++◌, length, Option, Some, None, refl, sym, ap, ◌∙◌, arith}
use Rattle.std.specs.List.{cons_option, filter_map}
use Rattle.std.proofs.lemmas.List.{append-nil, append_assoc, length-append}
use Rattle.std.proofs.lemmas.List.Elements.{filter_map-append}
use Rattle.chain_defs.specs.Schema.{Block}
use Rattle.chain_defs.specs.Kept.{block_at, place_of, parent_place}
use Rattle.chain_defs.specs.Branch.{places_within, branch_places, branch}
use Rattle.chain_defs.proofs.KeptLaws.{slice_get-below, place_of-below}
use Rattle.chain_defs.proofs.BranchLaws.{places_on, places_within-enough, parent_place-below, parent_place-push, parent_place-last}
use Rattle.chain_defs.specs.Events.{Event, events_of_block, events_of_blocks, events}

-- ---- Places

places_within-push : (most : ℕ) (kept : List Block) (block : Block) (place : ℕ) → place < length kept
    → places_within most (kept ++ block ∷ []) place ≡ places_within most kept place
places_within-push zero kept block place below = refl
places_within-push (suc most) kept block place below =
    ap (places_on most (kept ++ block ∷ []) place) (parent_place-push kept block place below)
    ∙ by_parent (parent_place kept place) refl (places_within-push most kept block)
  where
    by_parent : (found : Option ℕ) → parent_place kept place ≡ found
        → ((parent : ℕ) → parent < length kept → places_within most (kept ++ block ∷ []) parent ≡ places_within most kept parent)
        → places_on most (kept ++ block ∷ []) place found ≡ places_on most kept place found
    by_parent None is rest = refl
    by_parent (Some parent) is rest =
        let earlier : parent < place = parent_place-below kept place parent is in
        ap (λ (front : List ℕ). front ++ place ∷ []) (rest parent (omega (arith, earlier, below)))

-- One more block at the end changes no branch.
pub branch_places-push : (kept : List Block) (block : Block) (place : ℕ) → place < length kept
    → branch_places (kept ++ block ∷ []) place ≡ branch_places kept place
unfolding branch_places
branch_places-push kept block place below = places_within-push (suc place) kept block place below

-- The branch of that block is the branch of its parent and the block.
pub branch_places-join : (kept : List Block) (block : Block) (parent : ℕ) → place_of kept block.header.parent_hash ≡ Some parent
    → branch_places (kept ++ block ∷ []) (length kept) ≡ branch_places kept parent ++ length kept ∷ []
unfolding branch_places
branch_places-join kept block parent found =
    let below : parent < length kept = place_of-below kept block.header.parent_hash parent found in
    ap (places_on (length kept) (kept ++ block ∷ []) (length kept)) (parent_place-last kept block ∙ found)
    ∙ ap (λ (front : List ℕ). front ++ length kept ∷ [])
    (places_within-push (length kept) kept block parent below ∙ places_within-enough (length kept) (suc parent) kept parent below (omega arith))

-- A branch has a block for each of its places.
length-within : (most : ℕ) (kept : List Block) (place : ℕ) → place < length kept
    → length (filter_map (block_at kept) (places_within most kept place)) ≡ length (places_within most kept place)
length-within zero kept place below = refl
length-within (suc most) kept place below = by_parent (parent_place kept place) refl (length-within most kept)
  where
    one : length (filter_map (block_at kept) (place ∷ [])) ≡ 1
    one = ap (λ (found : Option Block). length (cons_option found [])) (slice_get-below kept place below).1

    by_parent : (found : Option ℕ) → parent_place kept place ≡ found
        → ((parent : ℕ) → parent < length kept
        → length (filter_map (block_at kept) (places_within most kept parent)) ≡ length (places_within most kept parent))
        → length (filter_map (block_at kept) (places_on most kept place found)) ≡ length (places_on most kept place found)
    by_parent None is rest = one
    by_parent (Some parent) is rest =
        let earlier : parent < place = parent_place-below kept place parent is in
        ap length (filter_map-append (block_at kept) (places_within most kept parent) (place ∷ []))
        ∙ length-append (filter_map (block_at kept) (places_within most kept parent)) (filter_map (block_at kept) (place ∷ []))
        ∙ ap (λ (count : ℕ). count + length (filter_map (block_at kept) (place ∷ []))) (rest parent (omega (arith, earlier, below)))
        ∙ ap (λ (count : ℕ). length (places_within most kept parent) + count) one
        ∙ sym (length-append (places_within most kept parent) (place ∷ []))

pub length-branch : (kept : List Block) (place : ℕ) → place < length kept → length (branch kept place) ≡ length (branch_places kept place)
unfolding branch_places
length-branch kept place below = length-within (suc place) kept place below

-- ---- Events

events_of_blocks-push : (height : ℕ) (blocks : List Block) (b : Block)
    → events_of_blocks height (blocks ++ b ∷ []) ≡ events_of_blocks height blocks ++ events_of_block (height + length blocks) b
events_of_blocks-push height [] b =
    let at : height ≡ height + 0 = omega arith in append-nil (events_of_block height b) ∙ ap (λ (h : ℕ). events_of_block h b) at
events_of_blocks-push height (first ∷ later) b =
    let at : (height + 1) + length later ≡ height + length (first ∷ later) = omega arith in
    ap (λ (behind : List Event). events_of_block height first ++ behind) (events_of_blocks-push (height + 1) later b)
    ∙ sym (append_assoc (events_of_block height first) (events_of_blocks (height + 1) later) (events_of_block ((height + 1) + length later) b))
    ∙ ap (λ (h : ℕ). (events_of_block height first ++ events_of_blocks (height + 1) later) ++ events_of_block h b) at

-- A branch with one block more does what it did, and then what the block does.
pub events-push : (blocks : List Block) (b : Block) → events (blocks ++ b ∷ []) ≡ events blocks ++ events_of_block (length blocks) b
unfolding events
events-push blocks b = let at : 0 + length blocks ≡ length blocks = omega arith in
    events_of_blocks-push 0 blocks b ∙ ap (λ (h : ℕ). events_of_blocks 0 blocks ++ events_of_block h b) at
