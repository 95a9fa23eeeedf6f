-- An item that did not join over its prefix does not join over more.
use Rattle.std.proofs.Common.{◌≡◌, ℕ, zero, suc, ◌+◌, ◌-◌, ◌<◌, ◌≤◌, Bool, true, false, cond, List, [], ◌∷◌, ◌++◌, length, take, drop, max, Option, Some, None, refl, sym, ap, ◌∙◌, subst, inl, inr, ◌⊎◌, arith}
use Rattle.std.specs.Option.{option_or}
use Rattle.std.specs.List.{filter}
use Rattle.std.specs.Str.{bytes_eq}
use Rattle.std.proofs.lemmas.Bool.{false_from_ne_true}
use Rattle.std.proofs.lemmas.List.{append-nil, append_assoc, length_push, length-append}
use Rattle.std.proofs.lemmas.Slice.Eq.{bytes_eq-Decides}
use Rattle.chain_defs.specs.Shape.{decoded}
use Rattle.chain_defs.specs.Schema.{Block, block}
use Rattle.chain_defs.specs.Kept.{block_hash, place_of, kept_limit, blocks_of_item, block_list}
use Rattle.chain_defs.specs.Branch.{branch}
use Rattle.chain_defs.proofs.KeptLaws.{place_of-below, place_of-push}
use Rattle.verdict_defs.specs.Rules.{first_broken}
use Rattle.chain_defs.specs.Specification.{Specification}
use Rattle.verdict_defs.specs.Verdict.{verdict, joins, kept_after}
use Rattle.verdict_defs.specs.Chain.{Chain, chain_after, verdict_over, verdicts_over, chain_over}
use Rattle.verdict_defs.specs.Laws.{CanJoin}
use Rattle.verdict_defs.proofs.VerdictLaws.{kept_after-joins, kept_after-stays, keeps-what-joins, joins-exactly, kept-stays, branch-more}
use Rattle.report_defs.specs.SoakLaws.{NoneHasHash, NamesNoLater, PrefixesReplay, JoinedAreCounted}

-- ---- Places

-- a place that is found is so with more blocks after
place_of-more : (kept more : List Block) (hash : List ℕ) (place : ℕ) → place_of kept hash ≡ Some place → place_of (kept ++ more) hash ≡ Some place
place_of-more kept [] hash place is = ap (λ (blocks : List Block). place_of blocks hash) (append-nil kept) ∙ is
place_of-more kept (b ∷ more) hash place is =
    ap (λ (blocks : List Block). place_of blocks hash) (sym (append_assoc kept (b ∷ []) more))
    ∙ place_of-more (kept ++ b ∷ []) more hash place
    (place_of-push kept b hash ∙ ap (λ (found : Option ℕ). option_or found (cond (bytes_eq (block_hash b) hash) (Some (length kept)) None)) is)

-- one that is not found with more blocks after is not found without them
place_of-fewer : (kept more : List Block) (hash : List ℕ) → place_of (kept ++ more) hash ≡ None → place_of kept hash ≡ None
place_of-fewer kept more hash none = by_found (place_of kept hash) refl
  where
    by_found : (found : Option ℕ) → place_of kept hash ≡ found → place_of kept hash ≡ None
    by_found None is = is
    by_found (Some place) is = let there = place_of-more kept more hash place is in absurd (cc)

or_none : (found : Option ℕ) → option_or found None ≡ found
or_none None = refl
or_none (Some place) = refl

-- what is found is as before with a block after that has another hash
place_of-other : (kept : List Block) (b : Block) (hash : List ℕ) → (block_hash b ≡ hash → ⊥) → place_of (kept ++ b ∷ []) hash ≡ place_of kept hash
place_of-other kept b hash other =
    let test : bytes_eq (block_hash b) hash ≡ false = false_from_ne_true (bytes_eq (block_hash b) hash) (λ same. other ((bytes_eq-Decides (block_hash b) hash).0 same)) in
    place_of-push kept b hash ∙ ap (λ (t : Bool). option_or (place_of kept hash) (cond t (Some (length kept)) None)) test ∙ or_none (place_of kept hash)

-- the block itself is found
place_of-own : (kept : List Block) (b : Block) → place_of kept (block_hash b) ≡ None → place_of (kept ++ b ∷ []) (block_hash b) ≡ Some (length kept)
place_of-own kept b none =
    let test : bytes_eq (block_hash b) (block_hash b) ≡ true = (bytes_eq-Decides (block_hash b) (block_hash b)).1 refl in
    place_of-push kept b (block_hash b) ∙ ap (λ (found : Option ℕ). option_or found (cond (bytes_eq (block_hash b) (block_hash b)) (Some (length kept)) None)) none
    ∙ ap (λ (t : Bool). cond t (Some (length kept)) None) test

-- ---- Items without a hash

item_without : (spec : Specification) (kept : List Block) (item hash : List ℕ) → ((b : Block) → decoded block item ≡ Some b → block_hash b ≡ hash → ⊥)
    → place_of (kept_after spec kept item) hash ≡ place_of kept hash
item_without spec kept item hash other = by_joins (joins (verdict spec kept item)) refl
  where
    by_block : (found : Option Block) → decoded block item ≡ found → place_of (kept ++ block_list found) hash ≡ place_of kept hash
    by_block None is = ap (λ (blocks : List Block). place_of blocks hash) (append-nil kept)
    by_block (Some b) is = place_of-other kept b hash (other b is)

    by_joins : (b : Bool) → joins (verdict spec kept item) ≡ b → place_of (kept_after spec kept item) hash ≡ place_of kept hash
    by_joins false left = ap (λ (blocks : List Block). place_of blocks hash) (kept_after-stays spec kept item left)
    by_joins true joined =
        ap (λ (blocks : List Block). place_of blocks hash) (kept_after-joins spec kept item joined) ∙ by_block (decoded block item) refl

items_without : (chain : Chain) (items : List (List ℕ)) (hash : List ℕ) → NoneHasHash hash items
    → place_of (chain_over chain items).blocks hash ≡ place_of chain.blocks hash
items_without chain [] hash none = refl
items_without chain (item ∷ items) hash none =
    items_without (chain_after chain item) items hash none.1 ∙ item_without chain.spec chain.blocks item hash none.0

-- ---- An item again

same_spec : (chain : Chain) (items : List (List ℕ)) → (chain_over chain items).spec ≡ chain.spec
same_spec chain [] = refl
same_spec chain (item ∷ items) = same_spec (chain_after chain item) items

-- An item cannot join again, over itself and what came after it: it would have joined at first.
cannot_join : (chain : Chain) (item : List ℕ) (between : List (List ℕ))
    → ((b : Block) → decoded block item ≡ Some b → NoneHasHash b.header.parent_hash (item ∷ between))
    → CanJoin chain.spec (chain_over chain (item ∷ between)).blocks item → ⊥
cannot_join chain item between none can =
    let after : List Block = (chain_over chain (item ∷ between)).blocks in
    let hash : List ℕ = block_hash can.block in
    let prefix = (kept-stays chain (item ∷ between)).1 in
    let new : place_of chain.blocks hash ≡ None =
    place_of-fewer chain.blocks prefix.0 hash (ap (λ (blocks : List Block). place_of blocks hash) (sym prefix.1) ∙ can.may.new) in
    let on : place_of chain.blocks can.block.header.parent_hash ≡ Some can.may.parent =
    sym (items_without chain (item ∷ between) can.block.header.parent_hash (none can.block can.canonical)) ∙ can.may.on_kept in
    let below = place_of-below chain.blocks can.block.header.parent_hash can.may.parent on in
    let same_branch : branch after can.may.parent ≡ branch chain.blocks can.may.parent =
    ap (λ (blocks : List Block). branch blocks can.may.parent) prefix.1 ∙ branch-more chain.blocks prefix.0 can.may.parent below in
    let unbroken : first_broken chain.spec (branch chain.blocks can.may.parent) can.block ≡ None =
    ap (λ (blocks : List Block). first_broken chain.spec blocks can.block) (sym same_branch) ∙ can.may.unbroken in
    let longer : length after ≡ length chain.blocks + length prefix.0 = ap length prefix.1 ∙ length-append chain.blocks prefix.0 in
    let at_first : CanJoin chain.spec chain.blocks item = record {
      block = can.block;
      canonical = can.canonical;
      may = record { new = new; parent = can.may.parent; on_kept = on; unbroken = unbroken; room = omega (arith, longer, can.may.room) };
    } in
    let joined : kept_after chain.spec chain.blocks item ≡ chain.blocks ++ can.block ∷ [] = ((keeps-what-joins chain.spec chain.blocks item).0 at_first).1 in
    let kept : place_of (chain_after chain item).blocks hash ≡ Some (length chain.blocks) =
    ap (λ (blocks : List Block). place_of blocks hash) joined ∙ place_of-own chain.blocks can.block new in
    let later = (kept-stays (chain_after chain item) between).1 in
    let still : place_of after hash ≡ Some (length chain.blocks) =
    ap (λ (blocks : List Block). place_of blocks hash) later.1 ∙ place_of-more (chain_after chain item).blocks later.0 hash (length chain.blocks) kept in
    let never : None ≡ Some (length chain.blocks) = sym can.may.new ∙ still in
    cc

-- so it leaves the chain
stays : (chain : Chain) (item : List ℕ) (between : List (List ℕ)) → ((b : Block) → decoded block item ≡ Some b → NoneHasHash b.header.parent_hash (item ∷ between))
    → chain_after (chain_over chain (item ∷ between)) item ≡ chain_over chain (item ∷ between)
stays chain item between none =
    let after : Chain = chain_over chain (item ∷ between) in
    ap (λ (blocks : List Block). record { spec = after.spec; blocks = blocks })
    ((keeps-what-joins after.spec after.blocks item).1
    (λ can. cannot_join chain item between none (subst (λ (spec : Specification). CanJoin spec after.blocks item) (same_spec chain (item ∷ between)) can)))

-- and so do several.
again : (chain : Chain) (items : List (List ℕ)) (k : ℕ) → NamesNoLater items → chain_over (chain_over chain items) (take k items) ≡ chain_over chain items
again chain [] zero names = refl
again chain [] (suc k) names = refl
again chain (item ∷ later) zero names = refl
again chain (item ∷ later) (suc k) names =
    ap (λ (c : Chain). chain_over c (take k later)) (stays chain item later names.0) ∙ again (chain_after chain item) later k names.1

-- ---- Prefixes

none_before : (hash : List ℕ) (items : List (List ℕ)) (n : ℕ) → NoneHasHash hash items → NoneHasHash hash (take n items)
none_before hash [] zero none = none
none_before hash [] (suc n) none = none
none_before hash (item ∷ later) zero none = tt
none_before hash (item ∷ later) (suc n) none = (none.0, none_before hash later n none.1)

names_before : (items : List (List ℕ)) (n : ℕ) → NamesNoLater items → NamesNoLater (take n items)
names_before [] zero names = names
names_before [] (suc n) names = names
names_before (item ∷ later) zero names = tt
names_before (item ∷ later) (suc n) names =
    (λ b is. let none = names.0 b is in (none.0, none_before b.header.parent_hash later n none.1), names_before later n names.1)

take_take : (items : List (List ℕ)) (j k : ℕ) → k ≤ j → take k (take j items) ≡ take k items
take_take items j zero below = refl
take_take items zero (suc k) below = absurd (omega (arith, below))
take_take [] (suc j) (suc k) below = refl
take_take (item ∷ items) (suc j) (suc k) below = ap (λ (l : List (List ℕ)). item ∷ l) (take_take items j k (omega (arith, below)))

abbrev no_items : List (List ℕ)
no_items = []

take_nil : (n : ℕ) → take n no_items ≡ no_items
take_nil zero = refl
take_nil (suc n) = refl

take_rest : (items : List (List ℕ)) (j more : ℕ) → take (j + more) items ≡ take j items ++ take more (drop j items)
take_rest items zero more = let same : 0 + more ≡ more = omega arith in ap (λ (n : ℕ). take n items) same
take_rest [] (suc j) more = take_nil (suc j + more) ∙ sym (take_nil more)
take_rest (item ∷ items) (suc j) more =
    let same : suc j + more ≡ suc (j + more) = omega arith in
    ap (λ (n : ℕ). take n (item ∷ items)) same ∙ ap (λ (l : List (List ℕ)). item ∷ l) (take_rest items j more)

over_both : (chain : Chain) (front back : List (List ℕ)) → chain_over chain (front ++ back) ≡ chain_over (chain_over chain front) back
over_both chain [] back = refl
over_both chain (item ∷ front) back = over_both (chain_after chain item) front back

which : (j k : ℕ) → (k ≤ j) ⊎ ((more : ℕ) × (k ≡ j + more))
which j zero = inl (omega arith)
which zero (suc k) = inr (suc k, omega arith)
which (suc j) (suc k) = by (which j k)
  where
    by : (k ≤ j) ⊎ ((more : ℕ) × (k ≡ j + more)) → (suc k ≤ suc j) ⊎ ((more : ℕ) × (suc k ≡ suc j + more))
    by (inl below) = inl (omega (arith, below))
    by (inr (more, is)) = inr (more, omega (arith, is))

whole : (items : List (List ℕ)) → take (length items) items ≡ items
whole [] = refl
whole (item ∷ items) = ap (λ (l : List (List ℕ)). item ∷ l) (whole items)

again_whole : (chain : Chain) (items : List (List ℕ)) → NamesNoLater items → chain_over (chain_over chain items) items ≡ chain_over chain items
again_whole chain items names =
    ap (λ (l : List (List ℕ)). chain_over (chain_over chain items) l) (sym (whole items)) ∙ again chain items (length items) names

greater : (j k : ℕ) → k ≤ j → max j k ≡ j
greater j k below = omega (arith, below)

later_is_greater : (j more : ℕ) → max j (j + more) ≡ j + more
later_is_greater j more = omega arith

pub prefixes-replay : PrefixesReplay
prefixes-replay chain items j k names = by (which j k)
  where
    over_longer : (more : ℕ) → chain_over (chain_over chain (take j items)) (take (j + more) items) ≡ chain_over chain (take (j + more) items)
    over_longer more =
        ap (chain_over (chain_over chain (take j items))) (take_rest items j more)
        ∙ over_both (chain_over chain (take j items)) (take j items) (take more (drop j items))
        ∙ ap (λ (c : Chain). chain_over c (take more (drop j items))) (again_whole chain (take j items) (names_before items j names))
        ∙ sym (over_both chain (take j items) (take more (drop j items)))
        ∙ ap (chain_over chain) (sym (take_rest items j more))

    by : (k ≤ j) ⊎ ((more : ℕ) × (k ≡ j + more)) → chain_over (chain_over chain (take j items)) (take k items) ≡ chain_over chain (take (max j k) items)
    by (inl below) =
        ap (chain_over (chain_over chain (take j items))) (sym (take_take items j k below))
        ∙ again chain (take j items) k (names_before items j names)
        ∙ ap (λ (n : ℕ). chain_over chain (take n items)) (sym (greater j k below))
    by (inr (more, is)) =
        ap (λ (n : ℕ). chain_over (chain_over chain (take j items)) (take n items)) is
        ∙ over_longer more
        ∙ ap (λ (n : ℕ). chain_over chain (take n items)) (sym (ap (max j) is ∙ later_is_greater j more))

-- ---- How many join

one_more : (spec : Specification) (kept : List Block) (item : List ℕ)
    → length (kept_after spec kept item) ≡ length kept + cond (joins (verdict spec kept item)) 1 0
one_more spec kept item = by_joins (joins (verdict spec kept item)) refl
  where
    by_joins : (b : Bool) → joins (verdict spec kept item) ≡ b → length (kept_after spec kept item) ≡ length kept + cond b 1 0
    by_joins false left = omega (arith, ap length (kept_after-stays spec kept item left))
    by_joins true joined =
        let can : CanJoin spec kept item = (joins-exactly spec kept item).0 joined in
        omega (arith, ap length ((keeps-what-joins spec kept item).0 can).1, length_push kept can.block)

filter_one : {V : Type 0} (p : V → Bool) (v : V) (vs : List V) → length (filter p (v ∷ vs)) ≡ cond (p v) 1 0 + length (filter p vs)
filter_one p v vs = by_test (p v) refl
  where
    by_test : (b : Bool) → p v ≡ b → length (filter p (v ∷ vs)) ≡ cond b 1 0 + length (filter p vs)
    by_test true is = let same : 1 + length (filter p vs) ≡ suc (length (filter p vs)) = omega arith in rw is (sym same)
    by_test false is = let same : 0 + length (filter p vs) ≡ length (filter p vs) = omega arith in rw is (sym same)

pub joined-are-counted : JoinedAreCounted
joined-are-counted chain [] = omega arith
joined-are-counted chain (item ∷ items) =
    omega (
      arith,
      joined-are-counted (chain_after chain item) items,
      one_more chain.spec chain.blocks item,
      filter_one joins (verdict_over chain item) (verdicts_over (chain_after chain item) items),
    )
