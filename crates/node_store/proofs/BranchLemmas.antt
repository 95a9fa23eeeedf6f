-- The branch of a parent in a tree that indexes kept blocks: how long it is, and which place each height has; and the rows of one of canonical blocks fit their bytes.
use Rattle.std.proofs.Common.{◌≡◌, ℕ, zero, suc, ◌<◌, ◌^◌, List, [], ◌∷◌, length, get_or, Option, Some, None, refl, sym, ap, ◌∙◌, subst, arith, ◌+◌, ◌-◌}
use Rattle.std.specs.Prelude.{slice_get, slice_index, option_map, IfSome}
use Rattle.std.specs.Option.{option_and_then}
use Rattle.std.specs.List.{All, cons_option, filter_map}
use Rattle.std.proofs.lemmas.List.Elements.{All-nil, All-cons, All-head, All-tail, All-append}
use Rattle.std.proofs.lemmas.Option.{slice_get_within, get_or_from_slice_get, same_Some}
use Rattle.chain_defs.specs.Schema.{OutPoint, Block}
use Rattle.chain_defs.specs.Kept.{block_at, parent_place, kept_limit}
use Rattle.chain_defs.specs.Branch.{places_within, branch_places, branch, IsBranch}
use Rattle.chain_defs.proofs.KeptLaws.{slice_get-below}
use Rattle.chain_defs.proofs.BranchLaws.{places_on, parent_place-below, IsBranch-branch}
use Rattle.chain_defs.specs.Cell.{Cell}
use Rattle.chain_defs.specs.Events.{live_cell}
use Rattle.chain_defs.specs.Row.{Row, row_of, row_on, live_row}
use Rattle.chain_defs.proofs.OutputLaws.{cells-are-outputs}
use Rattle.chain_defs.specs.Fits.{FitsRow}
use Rattle.chain_defs.specs.FitLaws.{AreCanonical}
use Rattle.chain_defs.proofs.ShapeLemmas.{rows-of-outputs-fit}
use Rattle.chain_tree.specs.declared.entry.Entry.{Entry}
use Rattle.chain_tree.specs.Entries.{entry_at}
use Rattle.chain_tree.specs.Blocks.{IndexesBlocks}
use Rattle.chain_tree.proofs.BlockLemmas.{DescribedAt, described}

-- ---- How long it is

-- It has one block a number, from 0 to that of the parent.
pub branch-long : (kept : List Block) (entries : List Entry) (parent : ℕ) (entry : Entry) → IndexesBlocks kept entries
    → entry_at entries parent ≡ Some entry → entry.number + 1 ≡ length (branch kept parent)
branch-long kept entries parent entry indexes there =
    let within : parent < length kept = slice_get_within kept parent here.block here.there in
    let genesis = slice_get-below kept 0 (omega (arith, within)) in
    let first : genesis.0.header.number ≡ 0 = subst (λ (o : Option Block). IfSome o (λ b. b.header.number ≡ 0)) genesis.1 indexes.genesis in
    let is : IsBranch kept parent (branch kept parent) = IsBranch-branch kept parent indexes.is_kept within in
    let last : block_at (branch kept parent) (length (branch kept parent) - 1) ≡ Some here.block = is.last ∙ here.there in
    let some : length (branch kept parent) - 1 < length (branch kept parent) =
    slice_get_within (branch kept parent) (length (branch kept parent) - 1) here.block last in
    let number : here.block.header.number ≡ genesis.0.header.number + (length (branch kept parent) - 1) =
    is.numbered (length (branch kept parent) - 1) genesis.0 here.block genesis.1 last in
    omega (arith, some, number, first, here.is.number)
  where
    here : DescribedAt kept parent entry
    here = described kept entries parent entry indexes.each there

-- ---- Which place each height has

within-all : (most : ℕ) (kept : List Block) (place : ℕ) → place < length kept → All (λ p. p < length kept) (places_within most kept place)
within-all zero kept place below = All-nil (λ p. p < length kept)
within-all (suc most) kept place below = by_parent (parent_place kept place) refl (within-all most kept)
  where
    last : All (λ p. p < length kept) (place ∷ [])
    last = All-cons (λ p. p < length kept) place [] below (All-nil (λ p. p < length kept))

    by_parent : (found : Option ℕ) → parent_place kept place ≡ found
        → ((parent : ℕ) → parent < length kept → All (λ p. p < length kept) (places_within most kept parent))
        → All (λ p. p < length kept) (places_on most kept place found)
    by_parent None is rest = last
    by_parent (Some parent) is rest =
        let earlier : parent < place = parent_place-below kept place parent is in
        All-append (λ p. p < length kept) (places_within most kept parent) (place ∷ []) (rest parent (omega (arith, earlier, below))) last

-- the blocks at places that are all kept are those of the places, each in its place
blocks-of-places : (kept : List Block) (places : List ℕ) (height : ℕ) → All (λ p. p < length kept) places
    → block_at (filter_map (block_at kept) places) height ≡ option_and_then (block_at kept) (slice_get places height)
blocks-of-places kept [] height within = refl
blocks-of-places kept (p ∷ ps) height within =
    let here = slice_get-below kept p (All-head (λ n. n < length kept) p ps within) in
    ap (λ (found : Option Block). block_at (cons_option found (filter_map (block_at kept) ps)) height) here.1
    ∙ by_height here.0 here.1 (λ n. blocks-of-places kept ps n (All-tail (λ n. n < length kept) p ps within)) height
  where
    by_height : (b : Block) → block_at kept p ≡ Some b
        → ((n : ℕ) → block_at (filter_map (block_at kept) ps) n ≡ option_and_then (block_at kept) (slice_get ps n)) → (n : ℕ)
        → block_at (b ∷ filter_map (block_at kept) ps) n ≡ option_and_then (block_at kept) (slice_get (p ∷ ps) n)
    by_height b is rest zero = sym is
    by_height b is rest (suc n) = rest n

pub branch-block : (kept : List Block) (parent height : ℕ) → parent < length kept
    → block_at (branch kept parent) height ≡ option_and_then (block_at kept) (slice_get (branch_places kept parent) height)
unfolding branch_places
branch-block kept parent height below = blocks-of-places kept (places_within (suc parent) kept parent) height (within-all (suc parent) kept parent below)

-- The place of a height on the branch: that of its block.
pub record PlaceOfHeight (kept : List Block) (parent height : ℕ) (block : Block) : Type 0 where
  pub place : slice_get (branch_places kept parent) height ≡ Some (slice_index (branch_places kept parent) height)
  pub there : block_at kept (slice_index (branch_places kept parent) height) ≡ Some block

pub place-of-height : (kept : List Block) (parent height : ℕ) (block : Block) → parent < length kept → block_at (branch kept parent) height ≡ Some block
    → PlaceOfHeight kept parent height block
place-of-height kept parent height block below there =
    by_place (slice_get (branch_places kept parent) height) refl (sym (branch-block kept parent height below) ∙ there)
  where
    by_place : (found : Option ℕ) → slice_get (branch_places kept parent) height ≡ found → option_and_then (block_at kept) found ≡ Some block
        → PlaceOfHeight kept parent height block
    by_place None is at = absurd (cc)
    by_place (Some place) is at =
        let same : get_or (branch_places kept parent) height 0 ≡ place = get_or_from_slice_get (branch_places kept parent) height place 0 is in
        record { place = is ∙ ap Some (sym same); there = ap (block_at kept) same ∙ at }

-- The block at a place of a branch has the number of its height.
pub number-on-branch : (kept : List Block) (entries : List Entry) (parent height place : ℕ) (entry : Entry) → IndexesBlocks kept entries
    → parent < length kept → slice_get (branch_places kept parent) height ≡ Some place → entry_at entries place ≡ Some entry → entry.number ≡ height
number-on-branch kept entries parent height place entry indexes below on_branch there =
    let genesis = slice_get-below kept 0 (omega (arith, below)) in
    let first : genesis.0.header.number ≡ 0 = subst (λ (o : Option Block). IfSome o (λ b. b.header.number ≡ 0)) genesis.1 indexes.genesis in
    let at : block_at (branch kept parent) height ≡ Some here.block =
    branch-block kept parent height below ∙ ap (option_and_then (block_at kept)) on_branch ∙ here.there in
    let is : IsBranch kept parent (branch kept parent) = IsBranch-branch kept parent indexes.is_kept below in
    let number : here.block.header.number ≡ genesis.0.header.number + height = is.numbered height genesis.0 here.block genesis.1 at in
    omega (arith, number, first, here.is.number)
  where
    here : DescribedAt kept place entry
    here = described kept entries place entry indexes.each there

-- so the block of a height stands at its place
pub at-height : (kept : List Block) (parent height : ℕ) (b : Block) → parent < length kept → block_at (branch kept parent) height ≡ Some b
    → block_at kept (slice_index (branch_places kept parent) height) ≡ Some b
at-height kept parent height b below there = (place-of-height kept parent height b below there).there

-- ---- Its rows

few-places : (place count : ℕ) → place < count → count < kept_limit → place < 2 ^ 32
unfolding kept_limit
few-places place count below few = omega (arith, below, few)

pub row-fits : (kept : List Block) (parent : ℕ) (o : OutPoint) (row : Row) → AreCanonical kept → length kept < kept_limit → parent < length kept
    → live_row kept parent o ≡ Some row → FitsRow (o, row)
unfolding live_row
row-fits kept parent o row canonical few below is = by_cell (live_cell (branch kept parent) o) refl is
  where
    by_cell : (live : Option Cell) → live_cell (branch kept parent) o ≡ live → option_map (row_on kept parent) live ≡ Some row → FitsRow (o, row)
    by_cell None here at = absurd (cc)
    by_cell (Some cell) here at =
        let made = cells-are-outputs (branch kept parent) o cell here in
        let place : ℕ = slice_index (branch_places kept parent) cell.height in
        let there : block_at kept place ≡ Some made.0 = at-height kept parent cell.height made.0 below made.1 in
        let low : place < 2 ^ 32 = few-places place (length kept) (slice_get_within kept place made.0 there) few in
        subst (λ (r : Row). FitsRow (o, r)) (same_Some (row_of place cell) row at)
        (rows-of-outputs-fit made.0 place o cell (canonical place made.0 there) low made.2)
