-- A new store of a generated chain, its items one after the other, and its tip.
use Rattle.std.proofs.Common.{◌≡◌, ℕ, ◌+◌, ◌≤◌, ◌<◌, Bool, true, false, List, [], ◌∷◌, ◌++◌, length, map, take, get_or, Vec, Global, Option, Some, None, refl, sym, ap, ◌∙◌, subst, arith}
use Rattle.std.specs.Prelude.{IfSome, IsSome, cond, ◌==◌}
use Rattle.std.specs.List.{filter}
use Rattle.std.specs.Option.{option_and_then}
use Rattle.std.proofs.lemmas.List.{take_more, map-append}
use Rattle.std.proofs.lemmas.Bool.Decides.{nat_tests}
use Rattle.outside.specs.Image.{Image}
use Rattle.chain_defs.specs.Schema.{OutPoint, Block}
use Rattle.chain_defs.specs.Branch.{branch}
use Rattle.chain_defs.specs.Kept.{block_at}
use Rattle.chain_defs.specs.Tip.{tip, tip_place, best_branch}
use Rattle.chain_defs.specs.Events.{events}
use Rattle.chain_defs.specs.Row.{Row, live_row, row_on, ListsRows}
use Rattle.chain_defs.proofs.FoldLemmas.{keep-push, verdicts-push}
use Rattle.verdict_defs.specs.declared.verdict.Verdict.{Verdict}
use Rattle.verdict_defs.specs.Verdict.{joins}
use Rattle.verdict_defs.specs.Chain.{Chain, verdict_over, chain_after, verdicts_over, chain_over, chain_of_genesis}
use Rattle.disk_defs.specs.Log.{LogContent, log_of}
use Rattle.store_defs.specs.Store.{Keeps, store_of, store_of_log, StandsFor, IsSound}
use Rattle.node_store.specs.Node.{NodeValue, IsNew, IsSoundWhereTold, StandsOnDisk, IsOnlyImage}
use Rattle.node_store.specs.Snapshot.{OthersReadBut}
use Rattle.chain_defs.specs.Shape.{encoded}
use Rattle.chain_defs.specs.Schema as schema
use Rattle.gen_defs.specs.Start as start
use Rattle.chain_defs.specs.LiveCells.{live_cells}
use Rattle.report_defs.specs.Simulation.{height_of, counts_over, generated_items, generated_counts}
use Rattle.made_chain.proofs.LiveCells.{as-many-as-rows}

-- ---- A new store

empty_log : log_of [] ≡ None
unfolding log_of
empty_log = refl

no_log_of : (bytes : List ℕ) (log : LogContent) → length bytes ≡ 0 → log_of bytes ≡ Some log → ⊥
no_log_of [] log none is = let never : None ≡ Some log = sym empty_log ∙ is in cc
no_log_of (b ∷ bs) log none is = omega (arith, none)

store_of_stands : (chain : Chain) (image : Image) → StandsFor chain image → store_of image ≡ Keeps chain
unfolding store_of
store_of_stands chain image stands =
    let some : length image.log ≡ 0 → ⊥ = λ none. no_log_of image.log stands.log none stands.is_log in
    let test : (length image.log == 0) ≡ false = grind (arith, nat_tests) in
    rw test (ap store_of_log stands.is_log ∙ ap Keeps stands.keeps)

same_chain : (a b : Chain) → Keeps a ≡ Keeps b → a ≡ b
same_chain a b e = cc

-- what was judged is what was handed in
pub is-new : (spec genesis judged_spec judged_genesis : List ℕ) (reads : Option Image) (images : Image → Type 0)
    → (judged_spec ≡ spec) × (judged_genesis ≡ genesis) → IsNew judged_spec judged_genesis reads images → IsNew spec genesis reads images
is-new spec genesis judged_spec judged_genesis reads images both new =
    subst (λ (s : List ℕ). IsNew s genesis reads images) both.0 (subst (λ (b : List ℕ). IsNew judged_spec b reads images) both.1 new)

-- what is opened of a new store is the chain of its genesis
pub opened-chain : (spec genesis : List ℕ) (reads : Option Image) (images : Image → Type 0) (chain : Chain) → IsNew spec genesis reads images
    → IfSome reads (λ now. store_of now ≡ Keeps chain) → chain ≡ chain_of_genesis spec genesis
opened-chain spec genesis reads images chain new kept =
    let there = subst (λ (r : Option Image). IfSome r (λ now. store_of now ≡ Keeps chain)) new.told kept in
    same_chain chain (chain_of_genesis spec genesis) (sym there ∙ store_of_stands _ _ new.stands)

-- what is opened of a disk that keeps a chain
pub opened-kept : (chain opened : Chain) (reads : Option Image) (images : Image → Type 0) → IsOnlyImage chain reads images
    → IfSome reads (λ now. store_of now ≡ Keeps opened) → opened ≡ chain
opened-kept chain opened reads images only kept =
    let there = subst (λ (r : Option Image). IfSome r (λ now. store_of now ≡ Keeps opened)) only.told kept in
    same_chain opened chain (sym there ∙ store_of_stands _ _ only.stands)

-- and each image is sound
pub new-is-sound : (spec genesis : List ℕ) (reads : Option Image) (images : Image → Type 0) → IsNew spec genesis reads images
    → (image : Image) → images image → IsSound image
new-is-sound spec genesis reads images new image left =
    (chain_of_genesis spec genesis, subst (λ (i : Image). StandsFor (chain_of_genesis spec genesis) i) (sym (new.one image left)) new.stands)

pub of-told : (reads : Option Image) (Q : Type 0) (now : Image) → reads ≡ Some now → IfSome reads (λ image. Q) → Q
of-told reads Q now told is = subst (λ (r : Option Image). IfSome r (λ image. Q)) told is

-- the node is sound there
pub sound_on : (node : NodeValue) (reads : Option Image) (images : Image → Type 0) → StandsOnDisk node reads images → IsSoundWhereTold node reads
sound_on node reads images on = record { sound = on.sound; told = subst (λ (r : Option Image). IsSome r) (sym on.image.told) refl }

-- bytes that were known are known still
pub tells_still : (due : Option ℕ) (old new : Option Image) → OthersReadBut due old new → IsSome old → IsSome new
tells_still due None new others told = absurd (cc)
tells_still None (Some now) new (log, is) told = subst (λ (r : Option Image). IsSome r) (sym is) refl
tells_still (Some number) (Some now) new (log, bytes, is) told = subst (λ (r : Option Image). IsSome r) (sym is) refl

-- ---- Items one after the other

abbrev pub bytes_of : List (Vec ℕ Global) → List (List ℕ)
bytes_of items = map (λ (bytes : Vec ℕ Global). bytes.items) items

pub one-more : (items : List (Vec ℕ Global)) (i : ℕ) (found : Vec ℕ Global) (item : List ℕ) → i < length items → found ≡ get_or items i found → item ≡ found.items
    → bytes_of (take (i + 1) items) ≡ bytes_of (take i items) ++ item ∷ []
one-more items i found item within there is =
    ap bytes_of (take_more items i found within) ∙ map-append (λ (bytes : Vec ℕ Global). bytes.items) (take i items) (get_or items i found ∷ [])
    ∙ ap (λ (bytes : List ℕ). bytes_of (take i items) ++ bytes ∷ []) (ap (λ (bytes : Vec ℕ Global). bytes.items) (sym there) ∙ sym is)

-- the count of those that join, with one more
abbrev pub count_joined : List Verdict → ℕ
count_joined judged = length (filter joins judged)

abbrev pub one_if : Bool → ℕ
one_if joined = cond joined 1 0

pub one_at_most : (joined : Bool) → one_if joined ≤ 1
one_at_most true = omega arith
one_at_most false = omega arith

joined-cons : (joined : Bool) (verdict : Verdict) (rest : List Verdict) → length (cond joined (verdict ∷ rest) rest) ≡ one_if joined + length rest
joined-cons true verdict rest = omega arith
joined-cons false verdict rest = omega arith

joined-push : (judged : List Verdict) (verdict : Verdict) → count_joined (judged ++ verdict ∷ []) ≡ count_joined judged + one_if (joins verdict)
joined-push [] verdict = let one = joined-cons (joins verdict) verdict [] in omega (arith, one)
joined-push (first ∷ judged) verdict =
    let one = joined-cons (joins first) first (filter joins (judged ++ verdict ∷ [])) in
    let before = joined-cons (joins first) first (filter joins judged) in
    let behind = joined-push judged verdict in
    omega (arith, one, before, behind)

pub chain-push : (chain now : Chain) (items : List (List ℕ)) (item : List ℕ) → now ≡ chain_over chain items → chain_after now item ≡ chain_over chain (items ++ item ∷ [])
chain-push chain now items item is = ap (λ (k : Chain). chain_after k item) is ∙ sym (keep-push chain_after chain items item)

pub count-push : (chain now : Chain) (items : List (List ℕ)) (item : List ℕ) (verdict : Verdict) (joined more : ℕ) → now ≡ chain_over chain items
    → joined ≡ count_joined (verdicts_over chain items) → verdict ≡ verdict_over now item → more ≡ one_if (joins verdict)
    → joined + more ≡ count_joined (verdicts_over chain (items ++ item ∷ []))
count-push chain now items item verdict joined more is counted judged added =
    let last : verdict ≡ verdict_over (chain_over chain items) item = judged ∙ ap (λ (k : Chain). verdict_over k item) is in
    let all = ap count_joined (verdicts-push chain_after verdict_over chain items item) in
    let pushed = joined-push (verdicts_over chain items) (verdict_over (chain_over chain items) item) in
    let by = ap (λ (v : Verdict). one_if (joins v)) last in
    omega (arith, counted, added, all, pushed, by)

-- ---- The tip

abbrev branch_at : List Block → Option ℕ → List Block
branch_at kept None = []
branch_at kept (Some place) = branch kept place

tip-place : (kept : List Block) (block : Block) → tip kept ≡ Some block → (place : ℕ) × (tip_place kept ≡ Some place)
tip-place kept block is = by_place (tip_place kept) refl
  where
    by_place : (found : Option ℕ) → tip_place kept ≡ found → (place : ℕ) × (tip_place kept ≡ Some place)
    by_place None none =
        let never : None ≡ Some block = ap (λ (found : Option ℕ). option_and_then (block_at kept) found) (sym none) ∙ is in cc
    by_place (Some place) at = (place, at)

-- the live cells of the tip are as many as the rows that are listed
pub cells-are : (kept : List Block) (block : Block) (rows : OutPoint → Option Row) (list : List (OutPoint × Row)) → tip kept ≡ Some block
    → ((place : ℕ) → tip_place kept ≡ Some place → (o : OutPoint) → rows o ≡ live_row kept place o) → ListsRows rows list
    → length list ≡ length (live_cells (events (best_branch kept)))
unfolding live_row
cells-are kept block rows list is are lists =
    let at = tip-place kept block is in
    let same : best_branch kept ≡ branch kept at.0 = ap (branch_at kept) at.1 in
    as-many-as-rows (events (branch kept at.0)) (row_on kept at.0) rows list (are at.0 at.1) lists
    ∙ ap (λ (b : List Block). length (live_cells (events b))) (sym same)

pub height-is : (kept : List Block) (block : Block) (number : ℕ) → tip kept ≡ Some block → number ≡ block.header.number → number ≡ height_of (tip kept)
height-is kept block number is at = at ∙ sym (ap height_of is)

-- ---- A generated chain

pub counts-are : (spec genesis : List ℕ) (items : List (List ℕ)) (seed count : ℕ) → spec ≡ start.specification_bytes start.specification
    → genesis ≡ encoded schema.block start.genesis → items ≡ generated_items seed count → counts_over (chain_of_genesis spec genesis) items ≡ generated_counts seed count
unfolding generated_counts
counts-are spec genesis items seed count spec_is genesis_is items_are =
    ap (λ (s : List ℕ). counts_over (chain_of_genesis s genesis) items) spec_is
    ∙ ap (λ (b : List ℕ). counts_over (chain_of_genesis (start.specification_bytes start.specification) b) items) genesis_is
    ∙ ap (counts_over (chain_of_genesis (start.specification_bytes start.specification) (encoded schema.block start.genesis))) items_are
