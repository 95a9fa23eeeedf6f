-- Hashes on the branch of a parent, and in the tree.
use Rattle.std.proofs.Common.{◌≡◌, ℕ, ◌<◌, ◌≤◌, List, [], ◌∷◌, ◌++◌, length, Option, Some, None, refl, sym, ap, ◌∙◌, Bool, true, false, inl, inr, ◌⊎◌, ◌||◌, arith}
use Rattle.std.specs.Prelude.{slice_get, slice_index, if◌then◌else◌}
use Rattle.std.specs.Option.{option_map, option_and_then}
use Rattle.std.specs.List.{AllZip}
use Rattle.std.proofs.lemmas.Bool.{cases_order}
use Rattle.std.proofs.lemmas.Option.{same_Some}
use Rattle.chain_defs.specs.Schema.{Block}
use Rattle.chain_defs.specs.Epochs.{is_span_over}
use Rattle.chain_defs.specs.Kept.{block_hash, block_at, place_of, IsKept}
use Rattle.chain_defs.specs.Branch.{branch, branch_places}
use Rattle.chain_defs.proofs.KeptLaws.{place_of-there, place_of-below, place_of-none, hashes-differ}
use Rattle.chain_tree.specs.declared.entry.Entry.{Entry}
use Rattle.chain_tree.specs.Entries.{entry_at}
use Rattle.chain_tree.specs.Blocks.{IndexesBlocks}
use Rattle.chain_tree.proofs.BlockLemmas.{len-same}
use Rattle.rule_defs.specs.Site.{Site, height_at}
use Rattle.rule_defs.specs.Resolving.{may_be_named, named_ancestor}
use Rattle.tx_rules.proofs.BranchLemmas.{branch-block, PlaceOfHeight, place-of-height, number-on-branch}

-- A kept block is found by its hash.
found-kept : (kept : List Block) (place : ℕ) (block : Block) (hash : List ℕ) → IsKept kept → block_at kept place ≡ Some block → block_hash block ≡ hash
    → place_of kept hash ≡ Some place
found-kept kept place block hash is_kept there is = by_place (place_of kept hash) refl
  where
    by_order : (i : ℕ) (other : Block) → block_at kept i ≡ Some other → block_hash other ≡ hash → (i ≡ place) ⊎ ((i < place) ⊎ (place < i)) → Some i ≡ Some place
    by_order i other at same (inl here) = ap Some here
    by_order i other at same (inr (inl before)) = absurd (hashes-differ kept i place other block is_kept before at there (same ∙ sym is))
    by_order i other at same (inr (inr behind)) = absurd (hashes-differ kept place i block other is_kept behind there at (is ∙ sym same))

    by_place : (found : Option ℕ) → place_of kept hash ≡ found → found ≡ Some place
    by_place None at = absurd (place_of-none kept hash place block at there is)
    by_place (Some i) at =
        let other = place_of-there kept hash i at in
        by_order i other.0 other.1 other.2 (cases_order i place)

-- A hash that is found on the branch is that of the kept block there.
pub record OnBranch (kept : List Block) (parent height : ℕ) (hash : List ℕ) : Type 0 where
  pub place : ℕ
  pub on : slice_get (branch_places kept parent) height ≡ Some place
  pub found : place_of kept hash ≡ Some place
  pub below : height < length (branch kept parent)

on-branch : (kept : List Block) (parent height : ℕ) (hash : List ℕ) → IsKept kept → parent < length kept → place_of (branch kept parent) hash ≡ Some height
    → OnBranch kept parent height hash
on-branch kept parent height hash is_kept within at =
    let block = place_of-there (branch kept parent) hash height at in
    let place : PlaceOfHeight kept parent height block.0 = place-of-height kept parent height block.0 within block.1 in
    record {
      place = slice_index (branch_places kept parent) height;
      on = place.place;
      found = found-kept kept (slice_index (branch_places kept parent) height) block.0 hash is_kept place.there block.2;
      below = place_of-below (branch kept parent) hash height at;
    }

-- It is not found where each such block leads to a contradiction.
none-on-branch : (kept : List Block) (parent : ℕ) (hash : List ℕ) → IsKept kept → parent < length kept
    → ((height : ℕ) → OnBranch kept parent height hash → ⊥) → place_of (branch kept parent) hash ≡ None
none-on-branch kept parent hash is_kept within denied = by_height (place_of (branch kept parent) hash) refl
  where
    by_height : (found : Option ℕ) → place_of (branch kept parent) hash ≡ found → found ≡ None
    by_height None at = refl
    by_height (Some height) at = absurd (denied height (on-branch kept parent height hash is_kept within at))

pub parent-within : (kept : List Block) (entries : List Entry) (parent : ℕ) → IndexesBlocks kept entries → parent < length entries → parent < length kept
parent-within kept entries parent indexes within = let same = len-same kept entries indexes in omega (arith, same, within)

-- what no kept block has no ancestor has
pub not-kept : (kept : List Block) (entries : List Entry) (parent : ℕ) (hash : List ℕ) → IndexesBlocks kept entries → parent < length entries
    → place_of kept hash ≡ None → place_of (branch kept parent) hash ≡ None
not-kept kept entries parent hash indexes within none =
    none-on-branch kept parent hash indexes.is_kept (parent-within kept entries parent indexes within)
    (λ height on. let both : None ≡ Some on.place = sym none ∙ on.found in absurd (cc))

-- the height of a kept block that is on the branch is its number
on-number : (kept : List Block) (entries : List Entry) (parent height place : ℕ) (entry : Entry) (hash : List ℕ) → IndexesBlocks kept entries → parent < length kept
    → place_of kept hash ≡ Some place → entry_at entries place ≡ Some entry → OnBranch kept parent height hash
    → (entry.number ≡ height) × (slice_get (branch_places kept parent) entry.number ≡ Some place)
on-number kept entries parent height place entry hash indexes within found there on =
    let same : on.place ≡ place = same_Some on.place place (sym on.found ∙ found) in
    let at : slice_get (branch_places kept parent) height ≡ Some place = on.on ∙ ap Some same in
    let number : entry.number ≡ height = number-on-branch kept entries parent height place entry indexes within at there in
    (number, ap (slice_get (branch_places kept parent)) number ∙ at)

-- a kept block whose number is not below the height of the next one is no ancestor
pub too-high : (kept : List Block) (entries : List Entry) (parent place next : ℕ) (entry : Entry) (hash : List ℕ) → IndexesBlocks kept entries → parent < length entries
    → place_of kept hash ≡ Some place → entry_at entries place ≡ Some entry → next ≡ length (branch kept parent) → next ≤ entry.number
    → place_of (branch kept parent) hash ≡ None
too-high kept entries parent place next entry hash indexes within found there long above =
    let inside : parent < length kept = parent-within kept entries parent indexes within in
    none-on-branch kept parent hash indexes.is_kept inside
    (λ height on.
    let number = on-number kept entries parent height place entry hash indexes inside found there on in
    let below : height < length (branch kept parent) = on.below in
    omega (arith, number.0, below, long, above))

-- nor is one that is not the block of its number on the branch
pub not-there : (kept : List Block) (entries : List Entry) (parent place other : ℕ) (entry : Entry) (hash : List ℕ) → IndexesBlocks kept entries
    → parent < length entries → place_of kept hash ≡ Some place → entry_at entries place ≡ Some entry
    → slice_get (branch_places kept parent) entry.number ≡ Some other → (other ≡ place → ⊥) → place_of (branch kept parent) hash ≡ None
not-there kept entries parent place other entry hash indexes within found there on_branch differ =
    let inside : parent < length kept = parent-within kept entries parent indexes within in
    none-on-branch kept parent hash indexes.is_kept inside
    (λ height on.
    let number = on-number kept entries parent height place entry hash indexes inside found there on in
    differ (same_Some other place (sym on_branch ∙ number.1)))

-- One that is is found at its number.
pub is-there : (kept : List Block) (entries : List Entry) (parent place : ℕ) (entry : Entry) (hash : List ℕ) → IndexesBlocks kept entries
    → parent < length entries → place_of kept hash ≡ Some place → entry_at entries place ≡ Some entry
    → slice_get (branch_places kept parent) entry.number ≡ Some place → place_of (branch kept parent) hash ≡ Some entry.number
is-there kept entries parent place entry hash indexes within found there on_branch =
    by_height (place_of (branch kept parent) hash) refl
  where
    inside : parent < length kept
    inside = parent-within kept entries parent indexes within

    by_height : (on : Option ℕ) → place_of (branch kept parent) hash ≡ on → on ≡ Some entry.number
    by_height None none =
        let block = place_of-there kept hash place found in
        let at : block_at (branch kept parent) entry.number ≡ Some block.0 =
        branch-block kept parent entry.number inside ∙ ap (option_and_then (block_at kept)) on_branch ∙ block.1 in
        absurd (place_of-none (branch kept parent) hash entry.number block.0 none at block.2)
    by_height (Some height) at =
        let on : OnBranch kept parent height hash = on-branch kept parent height hash indexes.is_kept inside at in
        ap Some (sym (on-number kept entries parent height place entry hash indexes inside found there on).0)

-- one more hash with its place
pub zip-push : {X Y : Type 0} (R : X → Y → Type 0) (xs : List X) (ys : List Y) (x : X) (y : Y) → AllZip R xs ys → R x y → AllZip R (xs ++ x ∷ []) (ys ++ y ∷ [])
zip-push R [] [] x y each last = (last, tt)
zip-push R [] (z ∷ zs) x y each last = absurd each
zip-push R (z ∷ zs) [] x y each last = absurd each
zip-push R (z ∷ zs) (w ∷ ws) x y each last = (each.0, zip-push R zs ws x y each.1 last)

-- ---- Whether a header may be named

pub named-none : (site : Site) (hash : List ℕ) (place : ℕ → ℕ) → place_of site.branch hash ≡ None → None ≡ option_map place (named_ancestor site hash)
named-none site hash place none =
    sym (ap (λ (found : Option ℕ). option_map place (option_and_then (λ height. if may_be_named site height then Some height else None) found)) none)

pub named-by : (site : Site) (hash : List ℕ) (place : ℕ → ℕ) (height : ℕ) (may : Bool) → place_of site.branch hash ≡ Some height
    → may_be_named site height ≡ may → option_map place (if may then Some height else None) ≡ option_map place (named_ancestor site hash)
named-by site hash place height may found is =
    ap (λ (b : Bool). option_map place (if b then Some height else None)) (sym is)
    ∙ sym (ap (λ (at : Option ℕ). option_map place (option_and_then (λ height. if may_be_named site height then Some height else None) at)) found)

-- under the second edition any
pub may-second : (site : Site) (height : ℕ) (second : Bool) → second ≡ site.second → second ≡ true → second ≡ may_be_named site height
may-second site height second is true_is =
    true_is ∙ ap (λ (b : Bool). b || is_span_over site.spec.maturity site.spec.epoch_length height (height_at site)) (sym true_is ∙ is)

-- under the first by the span
pub may-first : (site : Site) (height : ℕ) (second over : Bool) → second ≡ site.second → second ≡ false
    → over ≡ is_span_over site.spec.maturity site.spec.epoch_length height (height_at site) → over ≡ may_be_named site height
may-first site height second over is false_is span =
    span ∙ ap (λ (b : Bool). b || is_span_over site.spec.maturity site.spec.epoch_length height (height_at site)) (sym false_is ∙ is)
