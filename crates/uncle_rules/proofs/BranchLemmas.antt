-- Which places are on the branch of a parent in a tree that indexes kept blocks.
use Rattle.std.proofs.Common.{◌≡◌, ℕ, zero, suc, ◌+◌, ◌-◌, ◌<◌, ◌≤◌, Bool, true, false, eqb, List, [], ◌∷◌, length, Option, Some, None, refl, sym, ap, ◌∙◌, subst, inl, inr, ◌⊎◌, arith}
use Rattle.std.specs.Prelude.{slice_get, IfSome}
use Rattle.std.specs.Option.{option_and_then}
use Rattle.std.specs.List.{All, cons_option, filter_map}
use Rattle.std.proofs.lemmas.Bool.{eqb-true, eqb-false, eq-eqb, or_cases, false_from_ne_true}
use Rattle.std.proofs.lemmas.List.Elements.{All-nil, All-cons, All-head, All-tail, All-append}
use Rattle.std.proofs.lemmas.Option.{slice_get_within, same_Some}
use Rattle.std.proofs.lemmas.Map.Keys.{any_passes_from_place}
use Rattle.chain_defs.specs.Schema.{Block}
use Rattle.chain_defs.specs.Kept.{block_at, parent_place}
use Rattle.chain_defs.specs.Branch.{places_within, branch_places, branch, IsBranch}
use Rattle.chain_defs.proofs.KeptLaws.{slice_get-below}
use Rattle.chain_defs.proofs.BranchLaws.{places_on, parent_place-below, IsBranch-branch}
use Rattle.chain_tree.specs.declared.entry.Entry.{Entry}
use Rattle.chain_tree.specs.Entries.{entry_at}
use Rattle.chain_tree.specs.Blocks.{IndexesBlocks}
use Rattle.chain_tree.proofs.BlockLemmas.{DescribedAt, described, len-same}
use Rattle.uncle_rules.specs.Known.{is_on}

-- ---- How long it is

-- It has one block a number, from 0 to that of the parent.
branch-long : (kept : List Block) (entries : List Entry) (parent : ℕ) (entry : Entry) → IndexesBlocks kept entries
    → entry_at entries parent ≡ Some entry → entry.number + 1 ≡ length (branch kept parent)
branch-long kept entries parent entry indexes there =
    let within : parent < length kept = slice_get_within kept parent here.block here.there in
    let genesis = slice_get-below kept 0 (omega (arith, within)) in
    let first : genesis.0.header.number ≡ 0 = subst (λ (o : Option Block). IfSome o (λ b. b.header.number ≡ 0)) genesis.1 indexes.genesis in
    let is : IsBranch kept parent (branch kept parent) = IsBranch-branch kept parent indexes.is_kept within in
    let last : block_at (branch kept parent) (length (branch kept parent) - 1) ≡ Some here.block = is.last ∙ here.there in
    let some : length (branch kept parent) - 1 < length (branch kept parent) =
    slice_get_within (branch kept parent) (length (branch kept parent) - 1) here.block last in
    let number : here.block.header.number ≡ genesis.0.header.number + (length (branch kept parent) - 1) =
    is.numbered (length (branch kept parent) - 1) genesis.0 here.block genesis.1 last in
    omega (arith, some, number, first, here.is.number)
  where
    here : DescribedAt kept parent entry
    here = described kept entries parent entry indexes.each there

-- ---- Which place each height has

within-all : (most : ℕ) (kept : List Block) (place : ℕ) → place < length kept → All (λ p. p < length kept) (places_within most kept place)
within-all zero kept place below = All-nil (λ p. p < length kept)
within-all (suc most) kept place below = by_parent (parent_place kept place) refl (within-all most kept)
  where
    last : All (λ p. p < length kept) (place ∷ [])
    last = All-cons (λ p. p < length kept) place [] below (All-nil (λ p. p < length kept))

    by_parent : (found : Option ℕ) → parent_place kept place ≡ found
        → ((parent : ℕ) → parent < length kept → All (λ p. p < length kept) (places_within most kept parent))
        → All (λ p. p < length kept) (places_on most kept place found)
    by_parent None is rest = last
    by_parent (Some parent) is rest =
        let earlier : parent < place = parent_place-below kept place parent is in
        All-append (λ p. p < length kept) (places_within most kept parent) (place ∷ []) (rest parent (omega (arith, earlier, below))) last

-- the blocks at places that are all kept are those of the places, each in its place
blocks-of-places : (kept : List Block) (places : List ℕ) (height : ℕ) → All (λ p. p < length kept) places
    → block_at (filter_map (block_at kept) places) height ≡ option_and_then (block_at kept) (slice_get places height)
blocks-of-places kept [] height within = refl
blocks-of-places kept (p ∷ ps) height within =
    let here = slice_get-below kept p (All-head (λ n. n < length kept) p ps within) in
    ap (λ (found : Option Block). block_at (cons_option found (filter_map (block_at kept) ps)) height) here.1
    ∙ by_height here.0 here.1 (λ n. blocks-of-places kept ps n (All-tail (λ n. n < length kept) p ps within)) height
  where
    by_height : (b : Block) → block_at kept p ≡ Some b
        → ((n : ℕ) → block_at (filter_map (block_at kept) ps) n ≡ option_and_then (block_at kept) (slice_get ps n)) → (n : ℕ)
        → block_at (b ∷ filter_map (block_at kept) ps) n ≡ option_and_then (block_at kept) (slice_get (p ∷ ps) n)
    by_height b is rest zero = sym is
    by_height b is rest (suc n) = rest n

branch-block : (kept : List Block) (parent height : ℕ) → parent < length kept
    → block_at (branch kept parent) height ≡ option_and_then (block_at kept) (slice_get (branch_places kept parent) height)
unfolding branch_places
branch-block kept parent height below = blocks-of-places kept (places_within (suc parent) kept parent) height (within-all (suc parent) kept parent below)

-- The block at a place of a branch has the number of its height.
number-on-branch : (kept : List Block) (entries : List Entry) (parent height place : ℕ) (entry : Entry) → IndexesBlocks kept entries
    → parent < length kept → slice_get (branch_places kept parent) height ≡ Some place → entry_at entries place ≡ Some entry → entry.number ≡ height
number-on-branch kept entries parent height place entry indexes below on_branch there =
    let genesis = slice_get-below kept 0 (omega (arith, below)) in
    let first : genesis.0.header.number ≡ 0 = subst (λ (o : Option Block). IfSome o (λ b. b.header.number ≡ 0)) genesis.1 indexes.genesis in
    let at : block_at (branch kept parent) height ≡ Some here.block =
    branch-block kept parent height below ∙ ap (option_and_then (block_at kept)) on_branch ∙ here.there in
    let is : IsBranch kept parent (branch kept parent) = IsBranch-branch kept parent indexes.is_kept below in
    let number : here.block.header.number ≡ genesis.0.header.number + height = is.numbered height genesis.0 here.block genesis.1 at in
    omega (arith, number, first, here.is.number)
  where
    here : DescribedAt kept place entry
    here = described kept entries place entry indexes.each there

-- ---- Whether a place is on it

on-at : (places : List ℕ) (place : ℕ) → is_on places place ≡ true → (height : ℕ) × (slice_get places height ≡ Some place)
on-at [] place on = absurd (cc)
on-at (p ∷ ps) place on = by_test (or_cases (eqb p place) (is_on ps place) on) (on-at ps place)
  where
    by_test : (eqb p place ≡ true) ⊎ (is_on ps place ≡ true) → (is_on ps place ≡ true → (height : ℕ) × (slice_get ps height ≡ Some place))
        → (height : ℕ) × (slice_get (p ∷ ps) height ≡ Some place)
    by_test (inl same) rest = (0, ap Some (eqb-true p place same))
    by_test (inr behind) rest = (suc (rest behind).0, (rest behind).1)

all-at : (bound : ℕ) (places : List ℕ) (height place : ℕ) → All (λ p. p < bound) places → slice_get places height ≡ Some place → place < bound
all-at bound [] height place all there = absurd (cc)
all-at bound (p ∷ ps) zero place all there =
    subst (λ (n : ℕ). n < bound) (same_Some p place there) (All-head (λ n. n < bound) p ps all)
all-at bound (p ∷ ps) (suc height) place all there = all-at bound ps height place (All-tail (λ n. n < bound) p ps all) there

-- no place after the entries is
pub not-kept : (kept : List Block) (entries : List Entry) (parent place : ℕ) → IndexesBlocks kept entries → parent < length entries → length entries ≤ place
    → false ≡ is_on (branch_places kept parent) place
unfolding branch_places
not-kept kept entries parent place indexes within past = sym (false_from_ne_true (is_on (places_within (suc parent) kept parent) place) behind)
  where
    same : length entries ≡ length kept
    same = len-same kept entries indexes

    behind : is_on (places_within (suc parent) kept parent) place ≡ true → ⊥
    behind on =
        let at = on-at (places_within (suc parent) kept parent) place on in
        let below : place < length kept = all-at (length kept) (places_within (suc parent) kept parent) at.0 place
        (within-all (suc parent) kept parent (omega (arith, same, within))) at.1 in
        omega (arith, same, below, past)

-- one that is stands at its number
on-number : (kept : List Block) (entries : List Entry) (parent place : ℕ) (entry : Entry) → IndexesBlocks kept entries → parent < length entries
    → entry_at entries place ≡ Some entry → is_on (branch_places kept parent) place ≡ true → slice_get (branch_places kept parent) entry.number ≡ Some place
on-number kept entries parent place entry indexes within there on =
    let same : length entries ≡ length kept = len-same kept entries indexes in
    let at = on-at (branch_places kept parent) place on in
    let number : entry.number ≡ at.0 = number-on-branch kept entries parent at.0 place entry indexes (omega (arith, same, within)) at.1 there in
    ap (slice_get (branch_places kept parent)) number ∙ at.1

-- none above the parent's number is
pub not-below : (kept : List Block) (entries : List Entry) (parent place : ℕ) (top entry : Entry) → IndexesBlocks kept entries
    → entry_at entries parent ≡ Some top → entry_at entries place ≡ Some entry → top.number < entry.number
    → false ≡ is_on (branch_places kept parent) place
not-below kept entries parent place top entry indexes top_there there above = sym (false_from_ne_true (is_on (branch_places kept parent) place) behind)
  where
    behind : is_on (branch_places kept parent) place ≡ true → ⊥
    behind on =
        let within : parent < length entries = slice_get_within entries parent top top_there in
        let same : length entries ≡ length kept = len-same kept entries indexes in
        let here : DescribedAt kept place entry = described kept entries place entry indexes.each there in
        let at = on-number kept entries parent place entry indexes within there on in
        let block : block_at (branch kept parent) entry.number ≡ Some here.block =
        branch-block kept parent entry.number (omega (arith, same, within)) ∙ ap (option_and_then (block_at kept)) at ∙ here.there in
        let below : entry.number < length (branch kept parent) = slice_get_within (branch kept parent) entry.number here.block block in
        let long : top.number + 1 ≡ length (branch kept parent) = branch-long kept entries parent top indexes top_there in
        omega (arith, below, long, above)

-- else it is the place at its number
pub is-ancestor : (kept : List Block) (entries : List Entry) (parent place ancestor : ℕ) (entry : Entry) → IndexesBlocks kept entries → parent < length entries
    → entry_at entries place ≡ Some entry → slice_get (branch_places kept parent) entry.number ≡ Some ancestor
    → eqb ancestor place ≡ is_on (branch_places kept parent) place
is-ancestor kept entries parent place ancestor entry indexes within there at = by_test (eqb ancestor place) refl
  where
    by_test : (is : Bool) → eqb ancestor place ≡ is → is ≡ is_on (branch_places kept parent) place
    by_test true is =
        sym (any_passes_from_place (λ (other : ℕ). eqb other place) (branch_places kept parent) entry.number place
        (at ∙ ap Some (eqb-true ancestor place is)) (eq-eqb place place refl))
    by_test false is =
        sym (false_from_ne_true (is_on (branch_places kept parent) place) (λ on. eqb-false ancestor place is
        (same_Some ancestor place (sym at ∙ on-number kept entries parent place entry indexes within there on))))
