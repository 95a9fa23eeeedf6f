-- The block at a height of a branch is the kept one at the place of that height.
use Rattle.std.proofs.Common.{◌≡◌, ℕ, zero, suc, ◌<◌, Bool, List, [], ◌∷◌, length, Option, Some, None, refl, sym, ap, ◌∙◌, arith}
use Rattle.std.specs.Prelude.{slice_get}
use Rattle.std.specs.Option.{option_and_then}
use Rattle.std.specs.List.{All, cons_option, filter_map}
use Rattle.std.proofs.lemmas.List.Elements.{All-nil, All-cons, All-head, All-tail, All-append}
use Rattle.chain_defs.specs.Schema.{Block}
use Rattle.chain_defs.specs.Kept.{block_at, parent_place}
use Rattle.chain_defs.specs.Branch.{places_within, branch_places, branch}
use Rattle.chain_defs.proofs.KeptLaws.{slice_get-below}
use Rattle.chain_defs.proofs.BranchLaws.{places_on, parent_place-below}
use Rattle.chain_tree.specs.declared.entry.Entry.{Entry}
use Rattle.chain_tree.specs.Blocks.{IndexesBlocks}
use Rattle.chain_tree.proofs.BlockLemmas.{len-same}
use Rattle.rule_defs.specs.Window.{proposes, proposes_at}

within-all : (most : ℕ) (kept : List Block) (place : ℕ) → place < length kept → All (λ p. p < length kept) (places_within most kept place)
within-all zero kept place below = All-nil (λ p. p < length kept)
within-all (suc most) kept place below = by_parent (parent_place kept place) refl (within-all most kept)
  where
    last : All (λ p. p < length kept) (place ∷ [])
    last = All-cons (λ p. p < length kept) place [] below (All-nil (λ p. p < length kept))

    by_parent : (found : Option ℕ) → parent_place kept place ≡ found
        → ((parent : ℕ) → parent < length kept → All (λ p. p < length kept) (places_within most kept parent))
        → All (λ p. p < length kept) (places_on most kept place found)
    by_parent None is rest = last
    by_parent (Some parent) is rest =
        let earlier : parent < place = parent_place-below kept place parent is in
        All-append (λ p. p < length kept) (places_within most kept parent) (place ∷ []) (rest parent (omega (arith, earlier, below))) last

-- the blocks at places that are all kept are those of the places, each in its place
blocks-of-places : (kept : List Block) (places : List ℕ) (height : ℕ) → All (λ p. p < length kept) places
    → block_at (filter_map (block_at kept) places) height ≡ option_and_then (block_at kept) (slice_get places height)
blocks-of-places kept [] height within = refl
blocks-of-places kept (p ∷ ps) height within =
    let here = slice_get-below kept p (All-head (λ n. n < length kept) p ps within) in
    ap (λ (found : Option Block). block_at (cons_option found (filter_map (block_at kept) ps)) height) here.1
    ∙ by_height here.0 here.1 (λ n. blocks-of-places kept ps n (All-tail (λ n. n < length kept) p ps within)) height
  where
    by_height : (b : Block) → block_at kept p ≡ Some b
        → ((n : ℕ) → block_at (filter_map (block_at kept) ps) n ≡ option_and_then (block_at kept) (slice_get ps n)) → (n : ℕ)
        → block_at (b ∷ filter_map (block_at kept) ps) n ≡ option_and_then (block_at kept) (slice_get (p ∷ ps) n)
    by_height b is rest zero = sym is
    by_height b is rest (suc n) = rest n

branch-block : (kept : List Block) (parent height : ℕ) → parent < length kept
    → block_at (branch kept parent) height ≡ option_and_then (block_at kept) (slice_get (branch_places kept parent) height)
unfolding branch_places
branch-block kept parent height below = blocks-of-places kept (places_within (suc parent) kept parent) height (within-all (suc parent) kept parent below)

-- what the block at the place of a height proposes, the branch proposes at that height
pub proposes-at-place : (kept : List Block) (entries : List Entry) (id : List ℕ) (parent height place : ℕ) (answer : Bool) → IndexesBlocks kept entries
    → parent < length entries → slice_get (branch_places kept parent) height ≡ Some place → answer ≡ proposes id (block_at kept place)
    → proposes_at (branch kept parent) id height ≡ answer
unfolding proposes_at
proposes-at-place kept entries id parent height place answer indexes within at is =
    let same = len-same kept entries indexes in
    ap (proposes id) (branch-block kept parent height (omega (arith, same, within)) ∙ ap (option_and_then (block_at kept)) at) ∙ sym is
