-- Branches: how they go on from a parent, and what they are of kept blocks.
use Rattle.std.proofs.Common.{◌≡◌, ℕ, zero, suc, ◌+◌, ◌-◌, ◌<◌, List, [], ◌∷◌, ◌++◌, length, take, Option, Some, None, refl, sym, ap, ◌∙◌, subst, inl, inr, ◌⊎◌, ⊎_elim, arith}
use Rattle.std.specs.Prelude.{slice_get}
use Rattle.std.specs.Option.{option_and_then}
use Rattle.std.specs.List.{cons_option, filter_map}
use Rattle.std.proofs.lemmas.List.{length_push, length-take-le, take-append-le, take_at}
use Rattle.std.proofs.lemmas.List.Elements.{filter_map-append}
use Rattle.std.proofs.lemmas.Bool.{cases_lt, cases_order}
use Rattle.std.proofs.lemmas.Option.{slice_get_within, slice_get_past, same_Some}
use Rattle.chain_defs.specs.Schema.{Block}
use Rattle.chain_defs.specs.Kept.{block_hash, block_at, place_of, parent_place, StandsOn, IsKept}
use Rattle.chain_defs.specs.Branch.{places_within, branch_places, branch, IsBranch, BranchesAreBranches}
use Rattle.chain_defs.proofs.KeptLaws.{slice_get-below, slice_get-take, slice_get-before, slice_get-push, slice_get-pushed, place_of-below, place_of-there, hashes-differ}

-- A parent is an earlier block.
pub parent_place-below : (kept : List Block) (place parent : ℕ) → parent_place kept place ≡ Some parent → parent < place
parent_place-below kept place parent found = by_block (block_at kept place) refl found
  where
    by_block : (here : Option Block) → block_at kept place ≡ here
        → option_and_then (λ block. place_of (take place kept) block.header.parent_hash) here ≡ Some parent → parent < place
    by_block None is found = absurd (cc)
    by_block (Some block) is found =
        let below : parent < length (take place kept) = place_of-below (take place kept) block.header.parent_hash parent found in
        let within : place < length kept = slice_get_within kept place block is in
        let long : length (take place kept) ≡ place = length-take-le place kept (omega (arith, within)) in
        omega (arith, below, long)

-- the places of a parent and the place itself
abbrev pub places_on : ℕ → List Block → ℕ → Option ℕ → List ℕ
places_on most kept place None = place ∷ []
places_on most kept place (Some parent) = places_within most kept parent ++ place ∷ []

-- Enough steps give all the places.
pub places_within-enough : (most more : ℕ) (kept : List Block) (place : ℕ) → place < most → place < more
    → places_within most kept place ≡ places_within more kept place
places_within-enough zero more kept place few enough = absurd (omega arith)
places_within-enough (suc most) zero kept place few enough = absurd (omega arith)
places_within-enough (suc most) (suc more) kept place few enough =
    by_parent (parent_place kept place) refl (places_within-enough most more kept)
  where
    by_parent : (found : Option ℕ) → parent_place kept place ≡ found
        → ((parent : ℕ) → parent < most → parent < more → places_within most kept parent ≡ places_within more kept parent)
        → places_on most kept place found ≡ places_on more kept place found
    by_parent None is rest = refl
    by_parent (Some parent) is rest =
        let below : parent < place = parent_place-below kept place parent is in
        ap (λ (places : List ℕ). places ++ place ∷ []) (rest parent (omega (arith, below, few)) (omega (arith, below, enough)))

-- the branch of a parent, or nothing before a genesis
abbrev pub branch_before : List Block → Option ℕ → List Block
branch_before kept None = []
branch_before kept (Some parent) = branch kept parent

-- A branch is that of its parent and its block.
pub branch-step : (kept : List Block) (place : ℕ) (block : Block) → block_at kept place ≡ Some block
    → branch kept place ≡ branch_before kept (parent_place kept place) ++ block ∷ []
unfolding branch_places
branch-step kept place block there = by_parent (parent_place kept place) refl
  where
    last : filter_map (block_at kept) (place ∷ []) ≡ block ∷ []
    last = ap (λ (found : Option Block). cons_option found []) there

    by_parent : (found : Option ℕ) → parent_place kept place ≡ found
        → filter_map (block_at kept) (places_on place kept place found)
        ≡ branch_before kept found ++ block ∷ []
    by_parent None is = last
    by_parent (Some parent) is =
        let below : parent < place = parent_place-below kept place parent is in
        let enough : places_within place kept parent ≡ places_within (suc parent) kept parent =
        places_within-enough place (suc parent) kept parent below (omega arith) in
        filter_map-append (block_at kept) (places_within place kept parent) (place ∷ [])
        ∙ ap (λ (places : List ℕ). filter_map (block_at kept) places ++ filter_map (block_at kept) (place ∷ [])) enough
        ∙ ap (λ (blocks : List Block). filter_map (block_at kept) (places_within (suc parent) kept parent) ++ blocks) last

-- It ends with its block.
pub branch-last : (kept : List Block) (place : ℕ) → place < length kept
    → block_at (branch kept place) (length (branch kept place) - 1) ≡ block_at kept place
branch-last kept place below =
    let here = slice_get-below kept place below in
    let before : List Block = branch_before kept (parent_place kept place) in
    let step : branch kept place ≡ before ++ here.0 ∷ [] = branch-step kept place here.0 here.1 in
    ends before (branch kept place) here.0 step ∙ sym here.1
  where
    ends : (before blocks : List Block) (block : Block) → blocks ≡ before ++ block ∷ [] → block_at blocks (length blocks - 1) ≡ Some block
    ends before blocks block is =
        let long : length blocks - 1 ≡ length before = let more : length (before ++ block ∷ []) ≡ length before + 1 = length_push before block in
        let same : length blocks ≡ length (before ++ block ∷ []) = ap length is in omega (arith, more, same) in
        ap (block_at blocks) long ∙ ap (λ (bs : List Block). block_at bs (length before)) is ∙ slice_get-push before block

-- One more block at the end changes no branch.
pub parent_place-push : (kept : List Block) (block : Block) (place : ℕ) → place < length kept
    → parent_place (kept ++ block ∷ []) place ≡ parent_place kept place
parent_place-push kept block place below =
    ap (λ (front : List Block). option_and_then (λ (b : Block). place_of front b.header.parent_hash) (block_at (kept ++ block ∷ []) place))
    (take-append-le place kept (block ∷ []) (omega (arith, below)))
    ∙ ap (option_and_then (λ (b : Block). place_of (take place kept) b.header.parent_hash)) (slice_get-before kept (block ∷ []) place below)

places_within-push : (most : ℕ) (kept : List Block) (block : Block) (place : ℕ) → place < length kept
    → filter_map (block_at (kept ++ block ∷ [])) (places_within most (kept ++ block ∷ []) place) ≡ filter_map (block_at kept) (places_within most kept place)
places_within-push zero kept block place below = refl
places_within-push (suc most) kept block place below =
    ap (λ (found : Option ℕ). filter_map (block_at (kept ++ block ∷ [])) (places_on most (kept ++ block ∷ []) place found)) (parent_place-push kept block place below)
    ∙ by_parent (parent_place kept place) refl (places_within-push most kept block)
  where
    last : filter_map (block_at (kept ++ block ∷ [])) (place ∷ []) ≡ filter_map (block_at kept) (place ∷ [])
    last = ap (λ (found : Option Block). cons_option found []) (slice_get-before kept (block ∷ []) place below)

    by_parent : (found : Option ℕ) → parent_place kept place ≡ found
        → ((parent : ℕ) → parent < length kept
        → filter_map (block_at (kept ++ block ∷ [])) (places_within most (kept ++ block ∷ []) parent) ≡ filter_map (block_at kept) (places_within most kept parent))
        → filter_map (block_at (kept ++ block ∷ [])) (places_on most (kept ++ block ∷ []) place found) ≡ filter_map (block_at kept) (places_on most kept place found)
    by_parent None is rest = last
    by_parent (Some parent) is rest =
        let earlier : parent < place = parent_place-below kept place parent is in
        filter_map-append (block_at (kept ++ block ∷ [])) (places_within most (kept ++ block ∷ []) parent) (place ∷ [])
        ∙ ap (λ (front : List Block). front ++ filter_map (block_at (kept ++ block ∷ [])) (place ∷ [])) (rest parent (omega (arith, earlier, below)))
        ∙ ap (λ (back : List Block). filter_map (block_at kept) (places_within most kept parent) ++ back) last
        ∙ sym (filter_map-append (block_at kept) (places_within most kept parent) (place ∷ []))

pub branch-push : (kept : List Block) (block : Block) (place : ℕ) → place < length kept → branch (kept ++ block ∷ []) place ≡ branch kept place
unfolding branch_places
branch-push kept block place below = places_within-push (suc place) kept block place below

-- The branch of that block is the branch of its parent and the block.
pub parent_place-last : (kept : List Block) (block : Block) → parent_place (kept ++ block ∷ []) (length kept) ≡ place_of kept block.header.parent_hash
parent_place-last kept block =
    ap (option_and_then (λ (b : Block). place_of (take (length kept) (kept ++ block ∷ [])) b.header.parent_hash)) (slice_get-push kept block)
    ∙ ap (λ (front : List Block). place_of front block.header.parent_hash) (take_at kept (block ∷ []) (length kept) refl)

pub branch-join : (kept : List Block) (block : Block) (parent : ℕ) → place_of kept block.header.parent_hash ≡ Some parent
    → branch (kept ++ block ∷ []) (length kept) ≡ branch kept parent ++ block ∷ []
branch-join kept block parent found =
    branch-step (kept ++ block ∷ []) (length kept) block (slice_get-push kept block)
    ∙ ap (λ (on : Option ℕ). branch_before (kept ++ block ∷ []) on ++ block ∷ []) (parent_place-last kept block ∙ found)
    ∙ ap (λ (blocks : List Block). blocks ++ block ∷ []) (branch-push kept block parent (place_of-below kept block.header.parent_hash parent found))

-- A genesis alone is a branch.
IsBranch-one : (kept : List Block) (place : ℕ) (block : Block) → block_at kept 0 ≡ Some block → block_at kept place ≡ Some block
    → IsBranch kept place (block ∷ [])
IsBranch-one kept place block genesis there = record {
  among = members;
  first = sym genesis;
  last = sym there;
  linked = λ height parent next here above. absurd (alone (height + 1) next (omega arith) above);
  numbered = numbers;
}
  where
    alone : (height : ℕ) (other : Block) → 0 < height → block_at (block ∷ []) height ≡ Some other → ⊥
    alone zero other above here = omega arith
    alone (suc height) other above here = cc

    members : (height : ℕ) (other : Block) → block_at (block ∷ []) height ≡ Some other → (i : ℕ) × (block_at kept i ≡ Some other)
    members zero other here = (0, genesis ∙ here)
    members (suc height) other here = absurd (cc)

    numbers : (height : ℕ) (first other : Block) → block_at kept 0 ≡ Some first → block_at (block ∷ []) height ≡ Some other
        → other.header.number ≡ first.header.number + height
    numbers zero first other zeroth here =
        let same : first ≡ other = grind arith in
        let number : first.header.number ≡ other.header.number = ap (λ (b : Block). b.header.number) same in omega (arith, number)
    numbers (suc height) first other zeroth here = absurd (cc)

-- A branch with one more block on its last one is a branch.
IsBranch-push : (kept : List Block) (parent_at place : ℕ) (blocks : List Block) (parent block : Block) → IsBranch kept parent_at blocks
    → block_at kept parent_at ≡ Some parent → block_at kept place ≡ Some block → block.header.parent_hash ≡ block_hash parent
    → block.header.number ≡ parent.header.number + 1 → IsBranch kept place (blocks ++ block ∷ [])
IsBranch-push kept parent_at place blocks parent block is parent_there there named next = record {
  among = λ height other here. members height other (slice_get-pushed blocks block height other here);
  first = slice_get-before blocks (block ∷ []) 0 some ∙ is.first;
  last = ap (block_at (blocks ++ block ∷ [])) long ∙ slice_get-push blocks block ∙ sym there;
  linked = λ height earlier later here above. links height earlier later here (slice_get-pushed blocks block (height + 1) later above);
  numbered = λ height genesis other zeroth here. numbers height genesis other zeroth (slice_get-pushed blocks block height other here);
}
  where
    top : block_at blocks (length blocks - 1) ≡ Some parent
    top = is.last ∙ parent_there

    some : 0 < length blocks
    some = let within : length blocks - 1 < length blocks = slice_get_within blocks (length blocks - 1) parent top in omega (arith, within)

    long : length (blocks ++ block ∷ []) - 1 ≡ length blocks
    long = let more : length (blocks ++ block ∷ []) ≡ length blocks + 1 = length_push blocks block in omega (arith, more)

    members : (height : ℕ) (other : Block) → ((height < length blocks) × (block_at blocks height ≡ Some other)) ⊎ ((height ≡ length blocks) × (block ≡ other))
        → (i : ℕ) × (block_at kept i ≡ Some other)
    members height other (inl before) = is.among height other before.1
    members height other (inr end) = (place, there ∙ ap Some end.1)

    links : (height : ℕ) (earlier later : Block) → block_at (blocks ++ block ∷ []) height ≡ Some earlier
        → ((height + 1 < length blocks) × (block_at blocks (height + 1) ≡ Some later)) ⊎ ((height + 1 ≡ length blocks) × (block ≡ later))
        → later.header.parent_hash ≡ block_hash earlier
    links height earlier later here (inl before) =
        is.linked height earlier later (sym (slice_get-before blocks (block ∷ []) height (omega (arith, before.0))) ∙ here) before.1
    links height earlier later here (inr end) =
        let at : length blocks - 1 ≡ height = omega (arith, end.0) in
        let under : block_at blocks height ≡ Some earlier = sym (slice_get-before blocks (block ∷ []) height (omega (arith, end.0))) ∙ here in
        let found : block_at blocks height ≡ Some parent = ap (block_at blocks) (sym at) ∙ top in
        let same : parent ≡ earlier = grind arith in
        ap (λ (b : Block). b.header.parent_hash) (sym end.1) ∙ named ∙ ap block_hash same

    numbers : (height : ℕ) (genesis other : Block) → block_at kept 0 ≡ Some genesis
        → ((height < length blocks) × (block_at blocks height ≡ Some other)) ⊎ ((height ≡ length blocks) × (block ≡ other))
        → other.header.number ≡ genesis.header.number + height
    numbers height genesis other zeroth (inl before) = is.numbered height genesis other zeroth before.1
    numbers height genesis other zeroth (inr end) =
        let below : parent.header.number ≡ genesis.header.number + (length blocks - 1) = is.numbered (length blocks - 1) genesis parent zeroth top in
        let same : block.header.number ≡ other.header.number = ap (λ (b : Block). b.header.number) end.1 in
        omega (arith, below, same, next, end.0, some)

branches-from : (most : ℕ) (kept : List Block) (place : ℕ) → IsKept kept → place < most → place < length kept → IsBranch kept place (branch kept place)
branches-from zero kept place is_kept few below = absurd (omega arith)
branches-from (suc most) kept zero is_kept few below =
    let here = slice_get-below kept 0 below in
    let alone : parent_place kept 0 ≡ None = ap (option_and_then (λ (b : Block). place_of [] b.header.parent_hash)) here.1 in
    subst (IsBranch kept 0) (sym (branch-step kept 0 here.0 here.1 ∙ ap (λ (found : Option ℕ). branch_before kept found ++ here.0 ∷ []) alone))
    (IsBranch-one kept 0 here.0 here.1 here.1)
branches-from (suc most) kept (suc place) is_kept few below =
    on (slice_get-below kept (suc place) below) (λ parent. branches-from most kept parent is_kept)
  where
    on : (block : Block) × (block_at kept (suc place) ≡ Some block)
        → ((parent : ℕ) → parent < most → parent < length kept → IsBranch kept parent (branch kept parent))
        → IsBranch kept (suc place) (branch kept (suc place))
    on here rest =
        let stands : StandsOn (take (suc place) kept) here.0 = is_kept.stands (suc place) here.0 (omega arith) here.1 in
        let parent_is : parent_place kept (suc place) ≡ Some stands.place =
        ap (option_and_then (λ (b : Block). place_of (take (suc place) kept) b.header.parent_hash)) here.1 ∙ stands.named in
        let earlier : stands.place < suc place = parent_place-below kept (suc place) stands.place parent_is in
        let found = place_of-there (take (suc place) kept) here.0.header.parent_hash stands.place stands.named in
        let same : found.0 ≡ stands.parent = let first : block_at (take (suc place) kept) stands.place ≡ Some found.0 = found.1 in
        let second : block_at (take (suc place) kept) stands.place ≡ Some stands.parent = stands.there in grind arith in
        let parent_there : block_at kept stands.place ≡ Some stands.parent = sym (slice_get-take (suc place) kept stands.place earlier) ∙ stands.there in
        let step : branch kept (suc place) ≡ branch kept stands.place ++ here.0 ∷ [] =
        branch-step kept (suc place) here.0 here.1 ∙ ap (λ (parent : Option ℕ). branch_before kept parent ++ here.0 ∷ []) parent_is in
        subst (IsBranch kept (suc place)) (sym step) (IsBranch-push kept stands.place (suc place) (branch kept stands.place) stands.parent here.0
        (rest stands.place (omega (arith, earlier, few)) (omega (arith, earlier, below))) parent_there here.1
        (sym found.2 ∙ ap block_hash same) stands.next)

pub IsBranch-branch : (kept : List Block) (place : ℕ) → IsKept kept → place < length kept → IsBranch kept place (branch kept place)
IsBranch-branch kept place is_kept below = branches-from (suc place) kept place is_kept (omega arith) below

-- Of kept blocks those with one hash are one.
same-block : (kept : List Block) (one other : Block) → IsKept kept → (i : ℕ) × (block_at kept i ≡ Some one) → (j : ℕ) × (block_at kept j ≡ Some other)
    → block_hash one ≡ block_hash other → one ≡ other
same-block kept one other is_kept i j same = by_order (cases_order i.0 j.0)
  where
    by_order : (i.0 ≡ j.0) ⊎ ((i.0 < j.0) ⊎ (j.0 < i.0)) → one ≡ other
    by_order (inl at) = same_Some one other (sym i.1 ∙ ap (block_at kept) at ∙ j.1)
    by_order (inr (inl below)) = absurd (hashes-differ kept i.0 j.0 one other is_kept below i.1 j.1 same)
    by_order (inr (inr above)) = absurd (hashes-differ kept j.0 i.0 other one is_kept above j.1 i.1 (sym same))

-- two lists with one element at each place
same-elements : {X : Type 0} (xs ys : List X) → ((i : ℕ) → slice_get xs i ≡ slice_get ys i) → xs ≡ ys
same-elements [] [] each = refl
same-elements [] (y ∷ ys) each = let first : None ≡ Some y = each 0 in absurd (cc)
same-elements (x ∷ xs) [] each = let first : Some x ≡ None = each 0 in absurd (cc)
same-elements {X = X} (x ∷ xs) (y ∷ ys) each =
    ap (λ (z : X). z ∷ xs) (same_Some x y (each 0)) ∙ ap (λ (zs : List X). y ∷ zs) (same-elements xs ys (λ i. each (suc i)))

-- a branch has a last block, whose number gives its length
record HasLength (kept : List Block) (place : ℕ) (genesis block : Block) (blocks : List Block) : Type 0 where
  some : 0 < length blocks
  top : block_at blocks (length blocks - 1) ≡ Some block
  number : block.header.number ≡ genesis.header.number + (length blocks - 1)

branch-length : (kept : List Block) (place : ℕ) (genesis block : Block) (blocks : List Block) → IsBranch kept place blocks → block_at kept 0 ≡ Some genesis
    → block_at kept place ≡ Some block → HasLength kept place genesis block blocks
branch-length kept place genesis block blocks is zeroth there =
    let top : block_at blocks (length blocks - 1) ≡ Some block = is.last ∙ there in
    let within : length blocks - 1 < length blocks = slice_get_within blocks (length blocks - 1) block top in
    record { some = omega (arith, within); top = top; number = is.numbered (length blocks - 1) genesis block zeroth top }

-- Two branches of a place are one: from the last block down, each names the one below.
one-branch : (kept : List Block) (place : ℕ) (xs ys : List Block) → IsKept kept → place < length kept → IsBranch kept place xs → IsBranch kept place ys
    → xs ≡ ys
one-branch kept place xs ys is_kept below x y =
    on (slice_get-below kept 0 (omega (arith, below))) (slice_get-below kept place below)
  where
    on : (genesis : Block) × (block_at kept 0 ≡ Some genesis) → (block : Block) × (block_at kept place ≡ Some block) → xs ≡ ys
    on genesis block = same-elements xs ys each
      where
        long : HasLength kept place genesis.0 block.0 xs
        long = branch-length kept place genesis.0 block.0 xs x genesis.1 block.1

        as_long : HasLength kept place genesis.0 block.0 ys
        as_long = branch-length kept place genesis.0 block.0 ys y genesis.1 block.1

        lengths : length xs ≡ length ys
        lengths = omega (arith, long.some, long.number, as_long.some, as_long.number)

        down : (depth height : ℕ) → height + depth + 1 ≡ length xs → block_at xs height ≡ block_at ys height
        down zero height is =
            let here : length xs - 1 ≡ height = omega (arith, is) in
            let there : length ys - 1 ≡ height = omega (arith, is, lengths) in
            ap (block_at xs) (sym here) ∙ long.top ∙ sym (ap (block_at ys) (sym there) ∙ as_long.top)
        down (suc depth) height is =
            let low = slice_get-below xs height (omega (arith, is)) in
            let other = slice_get-below ys height (omega (arith, is, lengths)) in
            let above = slice_get-below xs (height + 1) (omega (arith, is)) in
            let beside : block_at ys (height + 1) ≡ Some above.0 = sym (down depth (height + 1) (omega (arith, is))) ∙ above.1 in
            let hash : block_hash low.0 ≡ block_hash other.0 = sym (x.linked height low.0 above.0 low.1 above.1) ∙ y.linked height other.0 above.0 other.1 beside in
            low.1 ∙ ap Some (same-block kept low.0 other.0 is_kept (x.among height low.0 low.1) (y.among height other.0 other.1) hash) ∙ sym other.1

        each : (i : ℕ) → block_at xs i ≡ block_at ys i
        each i =
            ⊎_elim (λ within. down (length xs - (i + 1)) i (omega (arith, within)))
            (λ past. slice_get_past xs i past ∙ sym (slice_get_past ys i (omega (arith, past, lengths)))) (cases_lt i (length xs))

-- Of kept blocks a list is the branch of a place exactly where it is one.
pub branches-are-branches : BranchesAreBranches
branches-are-branches kept place blocks is_kept below = (
  λ same. subst (IsBranch kept place) (sym same) (IsBranch-branch kept place is_kept below),
  λ is. one-branch kept place blocks (branch kept place) is_kept below is (IsBranch-branch kept place is_kept below),
)
