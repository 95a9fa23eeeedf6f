-- Entries that index kept blocks: finding, the tip, and branches are those of the blocks.
use Rattle.std.proofs.Common.{◌≡◌, ℕ, zero, suc, ◌+◌, ◌<◌, ◌≤◌, cond, List, [], ◌∷◌, ◌++◌, length, take, Option, Some, None, refl, sym, ap, ◌∙◌, subst, inl, inr, ◌⊎◌, arith}
use Rattle.std.specs.Prelude.{option_map, slice_get, IsSomeAnd, IfSome}
use Rattle.std.specs.Option.{option_and_then}
use Rattle.std.specs.List.{AllZip}
use Rattle.std.specs.Str.{bytes_eq}
use Rattle.std.proofs.lemmas.List.{length_push}
use Rattle.std.proofs.lemmas.Option.{slice_get_within, same_Some}
use Rattle.chain_defs.specs.Schema.{Block}
use Rattle.chain_defs.specs.Kept.{block_hash, block_at, place_of, parent_place, StandsOn, IsKept}
use Rattle.chain_defs.specs.Branch.{places_within, branch_places}
use Rattle.chain_defs.specs.Tip.{tip_place}
use Rattle.chain_defs.proofs.KeptLaws.{slice_get-take, slice_get-before, slice_get-push, slice_get-pushed, IsKept-push}
use Rattle.chain_defs.proofs.BranchLaws.{places_on, parent_place-below, parent_place-push, parent_place-last}
use Rattle.chain_defs.proofs.TipLaws.{tips-are-tips}
use Rattle.chain_tree.specs.declared.entry.Entry.{Entry}
use Rattle.chain_tree.specs.Entries.{entry_at, place_of_hash, parent_of, place_up, IsAncestor, FollowsParent, IsTipEntry}
use Rattle.chain_tree.specs.Blocks.{Describes, IndexesBlocks}
use Rattle.chain_tree.proofs.EntryLemmas.{first_step, some_and}

-- ---- Places

-- the block that an entry describes
pub record DescribedAt (kept : List Block) (place : ℕ) (entry : Entry) : Type 0 where
  pub block : Block
  pub there : block_at kept place ≡ Some block
  pub is : Describes block entry

pub described : (kept : List Block) (entries : List Entry) (place : ℕ) (entry : Entry) → AllZip Describes kept entries → entry_at entries place ≡ Some entry
    → DescribedAt kept place entry
described [] [] place entry each there = absurd (cc)
described [] (e ∷ es) place entry each there = absurd each
described (b ∷ bs) [] place entry each there = absurd each
described (b ∷ bs) (e ∷ es) zero entry each there = record {
  block = b;
  there = refl;
  is = subst (Describes b) (same_Some e entry there) each.0;
}
described (b ∷ bs) (e ∷ es) (suc place) entry each there =
    let rest = described bs es place entry each.1 there in
    record { block = rest.block; there = rest.there; is = rest.is }

-- the entry that describes a block
describing : (kept : List Block) (entries : List Entry) (place : ℕ) (block : Block) → AllZip Describes kept entries → block_at kept place ≡ Some block
    → (entry : Entry) × (entry_at entries place ≡ Some entry) × Describes block entry
describing [] [] place block each there = absurd (cc)
describing [] (e ∷ es) place block each there = absurd each
describing (b ∷ bs) [] place block each there = absurd each
describing (b ∷ bs) (e ∷ es) zero block each there = (e, refl, subst (λ (x : Block). Describes x e) (same_Some b block there) each.0)
describing (b ∷ bs) (e ∷ es) (suc place) block each there = describing bs es place block each.1 there

lengths-same : (kept : List Block) (entries : List Entry) → AllZip Describes kept entries → length kept ≡ length entries
lengths-same [] [] each = refl
lengths-same [] (e ∷ es) each = absurd each
lengths-same (b ∷ bs) [] each = absurd each
lengths-same (b ∷ bs) (e ∷ es) each = ap suc (lengths-same bs es each.1)

describes-push : (kept : List Block) (entries : List Entry) (block : Block) (entry : Entry) → AllZip Describes kept entries → Describes block entry
    → AllZip Describes (kept ++ block ∷ []) (entries ++ entry ∷ [])
describes-push [] [] block entry each last = (last, tt)
describes-push [] (e ∷ es) block entry each last = absurd each
describes-push (b ∷ bs) [] block entry each last = absurd each
describes-push (b ∷ bs) (e ∷ es) block entry each last = (each.0, describes-push bs es block entry each.1 last)

pub len-same : (kept : List Block) (entries : List Entry) → IndexesBlocks kept entries → length entries ≡ length kept
len-same kept entries indexes = sym (lengths-same kept entries indexes.each)

pub entry-same : (kept : List Block) (entries : List Entry) (place : ℕ) (entry : Entry) → IndexesBlocks kept entries → entry_at entries place ≡ Some entry
    → IsSomeAnd (block_at kept place) (λ block. Describes block entry)
entry-same kept entries place entry indexes there =
    let here = described kept entries place entry indexes.each there in
    subst (λ (found : Option Block). IsSomeAnd found (λ block. Describes block entry)) (sym here.there) here.is

-- ---- Finding

finds-same : (kept : List Block) (entries : List Entry) (hash : List ℕ) → AllZip Describes kept entries → place_of_hash entries hash ≡ place_of kept hash
finds-same [] [] hash each = refl
finds-same [] (e ∷ es) hash each = absurd each
finds-same (b ∷ bs) [] hash each = absurd each
finds-same (b ∷ bs) (e ∷ es) hash each =
    ap (λ (own : List ℕ). cond (bytes_eq own hash) (Some 0) (option_map suc (place_of_hash es hash))) each.0.hash
    ∙ ap (λ (found : Option ℕ). cond (bytes_eq (block_hash b) hash) (Some 0) (option_map suc found)) (finds-same bs es hash each.1)

pub find-same : (kept : List Block) (entries : List Entry) (hash : List ℕ) → IndexesBlocks kept entries → place_of_hash entries hash ≡ place_of kept hash
find-same kept entries hash indexes = finds-same kept entries hash indexes.each

-- ---- The tip

if_some : (found : Option Block) (P : Block → Type 0) → ((block : Block) → found ≡ Some block → P block) → IfSome found P
if_some None P each = tt
if_some (Some block) P each = each block refl

pub tip-same : (kept : List Block) (entries : List Entry) (place : ℕ) → IndexesBlocks kept entries → IsTipEntry entries place → tip_place kept ≡ Some place
tip-same kept entries place indexes top = (tips-are-tips kept place).1 (record {
  top = here.block;
  there = here.there;
  greatest = λ other. if_some (block_at kept other) (λ block. block.header.number ≤ here.block.header.number) (λ block there. at_most other block there);
  earliest = λ other before. if_some (block_at kept other) (λ block. block.header.number < here.block.header.number) (λ block there. below other block before there);
})
  where
    here : DescribedAt kept place top.top
    here = described kept entries place top.top indexes.each top.there

    at_most : (other : ℕ) (block : Block) → block_at kept other ≡ Some block → block.header.number ≤ here.block.header.number
    at_most other block there =
        let entry = describing kept entries other block indexes.each there in
        let most : entry.0.number ≤ top.top.number = top.greatest other entry.0 entry.1 in
        omega (arith, most, entry.2.number, here.is.number)

    below : (other : ℕ) (block : Block) → other < place → block_at kept other ≡ Some block → block.header.number < here.block.header.number
    below other block before there =
        let entry = describing kept entries other block indexes.each there in
        let less : entry.0.number < top.top.number = top.earliest other entry.0 before entry.1 in
        omega (arith, less, entry.2.number, here.is.number)

-- ---- Branches

-- what a parent is, of a kept block
record HasParent (kept : List Block) (place : ℕ) (block : Block) : Type 0 where
  parent : ℕ
  is : parent_place kept place ≡ Some parent
  below : parent < place
  earlier : Block
  there : block_at kept parent ≡ Some earlier
  next : block.header.number ≡ earlier.header.number + 1

has-parent : (kept : List Block) (place : ℕ) (block : Block) → IsKept kept → 0 < place → block_at kept place ≡ Some block → HasParent kept place block
has-parent kept place block is_kept above there =
    let stands : StandsOn (take place kept) block = is_kept.stands place block above there in
    let is : parent_place kept place ≡ Some stands.place =
    ap (option_and_then (λ (b : Block). place_of (take place kept) b.header.parent_hash)) there ∙ stands.named in
    let below : stands.place < place = parent_place-below kept place stands.place is in
    record {
      parent = stands.place;
      is = is;
      below = below;
      earlier = stands.parent;
      there = sym (slice_get-take place kept stands.place below) ∙ stands.there;
      next = stands.next;
    }

-- the places of a branch, by the place of the parent
within-step : (most : ℕ) (kept : List Block) (place : ℕ) (found : Option ℕ) → parent_place kept place ≡ found
    → places_within (suc most) kept place ≡ places_on most kept place found
within-step most kept place found is = ap (places_on most kept place) is

-- A branch has one place a number.
within-length : (most : ℕ) (kept : List Block) (place : ℕ) (block : Block) → IsKept kept → IfSome (block_at kept 0) (λ b. b.header.number ≡ 0)
    → place < most → block_at kept place ≡ Some block → length (places_within most kept place) ≡ block.header.number + 1
within-length zero kept place block is_kept genesis few there = absurd (omega (arith, few))
within-length (suc most) kept zero block is_kept genesis few there =
    let alone : parent_place kept 0 ≡ None = ap (option_and_then (λ (b : Block). place_of [] b.header.parent_hash)) there in
    let first : block.header.number ≡ 0 = subst (λ (o : Option Block). IfSome o (λ b. b.header.number ≡ 0)) there genesis in
    let one : length (places_within (suc most) kept 0) ≡ 1 = ap length (within-step most kept 0 None alone) in
    omega (arith, one, first)
within-length (suc most) kept (suc place) block is_kept genesis few there =
    let parent = has-parent kept (suc place) block is_kept (omega arith) there in
    let rest : length (places_within most kept parent.parent) ≡ parent.earlier.header.number + 1 =
    within-length most kept parent.parent parent.earlier is_kept genesis (omega (arith, parent.below, few)) parent.there in
    let step : length (places_within (suc most) kept (suc place)) ≡ length (places_within most kept parent.parent ++ suc place ∷ []) =
    ap length (within-step most kept (suc place) (Some parent.parent) parent.is) in
    let more : length (places_within most kept parent.parent ++ suc place ∷ []) ≡ length (places_within most kept parent.parent) + 1 =
    length_push (places_within most kept parent.parent) (suc place) in
    omega (arith, rest, step, more, parent.next)

-- It ends with its place.
within-last : (most : ℕ) (kept : List Block) (place n : ℕ) → length (places_within (suc most) kept place) ≡ n + 1
    → slice_get (places_within (suc most) kept place) n ≡ Some place
within-last most kept place n long = by_parent (parent_place kept place) refl
  where
    ends : (front : List ℕ) → places_within (suc most) kept place ≡ front ++ place ∷ [] → slice_get (places_within (suc most) kept place) n ≡ Some place
    ends front is =
        let more : length (front ++ place ∷ []) ≡ length front + 1 = length_push front place in
        let same : length (places_within (suc most) kept place) ≡ length (front ++ place ∷ []) = ap length is in
        let at : n ≡ length front = omega (arith, more, same, long) in
        ap (λ (places : List ℕ). slice_get places n) is ∙ ap (slice_get (front ++ place ∷ [])) at ∙ slice_get-push front place

    by_parent : (found : Option ℕ) → parent_place kept place ≡ found → slice_get (places_within (suc most) kept place) n ≡ Some place
    by_parent None is = ends [] (within-step most kept place None is)
    by_parent (Some parent) is = ends (places_within most kept parent) (within-step most kept place (Some parent) is)

-- An entry with a parent is not the genesis, and that is the place of its block's parent.
parent-same : (kept : List Block) (entries : List Entry) (place parent : ℕ) → IndexesBlocks kept entries → parent_of entries place ≡ Some parent
    → parent_place kept place ≡ Some parent
parent-same kept entries zero parent indexes is = absurd (cc)
parent-same kept entries (suc place) parent indexes is = by_entry (entry_at entries (suc place)) refl is
  where
    by_entry : (found : Option Entry) → entry_at entries (suc place) ≡ found → option_map (λ (e : Entry). e.parent) found ≡ Some parent
        → parent_place kept (suc place) ≡ Some parent
    by_entry None there is = absurd (cc)
    by_entry (Some entry) there is = indexes.parents (suc place) entry (omega arith) there ∙ is

-- A place up the path stands at its number on the branch.
steps-same : (steps most : ℕ) (kept : List Block) (entries : List Entry) (place other : ℕ) (entry : Entry) → IndexesBlocks kept entries → place < most
    → entry_at entries other ≡ Some entry → place_up entries steps place ≡ Some other
    → slice_get (places_within most kept place) entry.number ≡ Some other
steps-same steps zero kept entries place other entry indexes few there up = absurd (omega (arith, few))
steps-same zero (suc most) kept entries place other entry indexes few there up =
    let same : place ≡ other = same_Some place other up in
    let here = described kept entries place entry indexes.each (ap (entry_at entries) same ∙ there) in
    let long : length (places_within (suc most) kept place) ≡ here.block.header.number + 1 =
    within-length (suc most) kept place here.block indexes.is_kept indexes.genesis few here.there in
    within-last most kept place entry.number (omega (arith, long, here.is.number)) ∙ ap Some same
steps-same (suc steps) (suc most) kept entries place other entry indexes few there up =
    let first = first_step entries steps (parent_of entries place) other up in
    let is : parent_place kept place ≡ Some first.0 = parent-same kept entries place first.0 indexes first.1 in
    let below : first.0 < place = parent_place-below kept place first.0 is in
    let rest : slice_get (places_within most kept first.0) entry.number ≡ Some other =
    steps-same steps most kept entries first.0 other entry indexes (omega (arith, below, few)) there first.2 in
    let within : entry.number < length (places_within most kept first.0) = slice_get_within (places_within most kept first.0) entry.number other rest in
    ap (λ (places : List ℕ). slice_get places entry.number) (within-step most kept place (Some first.0) is)
    ∙ slice_get-before (places_within most kept first.0) (place ∷ []) entry.number within ∙ rest

pub ancestor-same : (kept : List Block) (entries : List Entry) (place other number : ℕ) → IndexesBlocks kept entries → IsAncestor entries place other
    → IsSomeAnd (entry_at entries other) (λ entry. entry.number ≡ number) → slice_get (branch_places kept place) number ≡ Some other
unfolding branch_places
ancestor-same kept entries place other number indexes up there =
    let entry = some_and (entry_at entries other) (λ e. e.number ≡ number) there in
    ap (slice_get (places_within (suc place) kept place)) (sym entry.2)
    ∙ steps-same up.0 (suc place) kept entries place other entry.0 indexes (omega arith) entry.1 up.1

-- ---- One more

pub IndexesBlocks-push : (kept : List Block) (entries : List Entry) (block : Block) (entry : Entry) → IndexesBlocks kept entries → Describes block entry
    → place_of kept block.header.parent_hash ≡ Some entry.parent → FollowsParent entries entry → place_of_hash entries entry.hash ≡ None
    → IndexesBlocks (kept ++ block ∷ []) (entries ++ entry ∷ [])
IndexesBlocks-push kept entries block entry indexes is named follows new = record {
  is_kept = IsKept-push kept block indexes.is_kept
      (record {
        place = entry.parent;
        parent = earlier.block;
        named = named;
        there = earlier.there;
        next = omega (arith, parent.2, is.number, earlier.is.number);
      })
      (sym (finds-same kept entries (block_hash block) indexes.each) ∙ ap (place_of_hash entries) (sym is.hash) ∙ new);
  genesis = subst (λ (found : Option Block). IfSome found (λ b. b.header.number ≡ 0)) (sym (slice_get-before kept (block ∷ []) 0 some)) indexes.genesis;
  each = describes-push kept entries block entry indexes.each is;
  parents = λ place other above there. parents_at place other above (slice_get-pushed entries entry place other there);
}
  where
    parent : (e : Entry) × (entry_at entries entry.parent ≡ Some e) × (entry.number ≡ e.number + 1)
    parent = some_and (entry_at entries entry.parent) (λ p. entry.number ≡ p.number + 1) follows

    earlier : DescribedAt kept entry.parent parent.0
    earlier = described kept entries entry.parent parent.0 indexes.each parent.1

    some : 0 < length kept
    some = let within : entry.parent < length kept = slice_get_within kept entry.parent earlier.block earlier.there in omega (arith, within)

    long : length kept ≡ length entries
    long = lengths-same kept entries indexes.each

    parents_at : (place : ℕ) (other : Entry) → 0 < place
        → ((place < length entries) × (entry_at entries place ≡ Some other)) ⊎ ((place ≡ length entries) × (entry ≡ other))
        → parent_place (kept ++ block ∷ []) place ≡ Some other.parent
    parents_at place other above (inl before) =
        parent_place-push kept block place (omega (arith, before.0, long)) ∙ indexes.parents place other above before.1
    parents_at place other above (inr last) =
        let at : place ≡ length kept = omega (arith, last.0, long) in
        ap (parent_place (kept ++ block ∷ [])) at ∙ parent_place-last kept block ∙ named ∙ ap (λ (e : Entry). Some e.parent) last.1
