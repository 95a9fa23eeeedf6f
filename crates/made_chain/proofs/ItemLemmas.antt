-- A store that was opened, and its items one after the other.
use Rattle.std.proofs.Common.{◌≡◌, ◌⊎◌, inl, inr, ℕ, ◌+◌, ◌<◌, ◌≤◌, List, [], ◌∷◌, ◌++◌, Vec, Global, length, take, drop, get_or, refl, ap, sym, ◌∙◌, subst, arith}
use Rattle.std.specs.Prelude.{Option, Some, None, Result, Err, IfSome, IsSome, is_some}
use Rattle.std.proofs.lemmas.List.{take_more, drop_more, get_or-map, length-map, take_all}
use Rattle.outside.specs.Image.{Image}
use Rattle.outside.specs.Disk.{LeavesOnly, OthersRead}
use Rattle.outside.specs.declared.disk.Area.TheVariants.{Log}
use Rattle.outside.proofs.Moments.{now_too}
use Rattle.chain_defs.proofs.FoldLemmas.{keep-push}
use Rattle.verdict_defs.specs.Chain.{Chain, chain_after, chain_over}
use Rattle.store_defs.specs.Store.{Keeps, store_of, StandsFor, IsSound}
use Rattle.store_defs.proofs.SnapshotLemmas.{stands_for_what_it_keeps}
use Rattle.node_store.specs.Node.{NodeValue, IsOwnDisk, StandsOnDisk, IsOwnDiskWhereTold, IsSoundWhereTold, IsOnlyImage}
use Rattle.node_store.specs.Steps.{moves_for, steps_over}
use Rattle.made_chain.specs.declared.outcome.End.{End}
use Rattle.made_chain.specs.declared.outcome.End.TheVariants.{Whole}
use Rattle.made_chain.specs.Sessions.{items_in, KeepsPrefix, IsEndOf}

-- ---- A disk that tells

pub told_still : (old new : Option Image) → OthersRead Log old new → IsSome old → IsSome new
told_still None new others told = absurd (cc)
told_still (Some now) new (bytes, is) told = subst (λ (r : Option Image). IsSome r) (sym is) refl

-- ---- A store that is opened

module _ (chain : Chain) (reads : Option Image) (images : Image → Type 0) (only : IsOnlyImage chain reads images) where
  pub only_told : IsSome reads
  only_told = ap is_some only.told

  pub only_stands : (image : Image) → images image → StandsFor chain image
  only_stands image left = subst (λ (i : Image). StandsFor chain i) (sym (only.one image left)) only.stands

  pub only_sound : (image : Image) → images image → IsSound image
  only_sound image left = (chain, only_stands image left)

  pub only_keeps : store_of only.now ≡ Keeps chain
  only_keeps = ((stands_for_what_it_keeps chain only.now).0 only.stands).1

  -- the node's chain is the one that the disk stands for
  pub only_opened : (opened : Chain) → IfSome reads (λ now. store_of now ≡ Keeps opened) → opened ≡ chain
  only_opened opened kept = same opened chain (sym there ∙ only_keeps)
    where
      there : store_of only.now ≡ Keeps opened
      there = subst (λ (r : Option Image). IfSome r (λ now. store_of now ≡ Keeps opened)) only.told kept

      same : (a b : Chain) → Keeps a ≡ Keeps b → a ≡ b
      same a b e = cc

  pub only_if_told : (Q : Type 0) → IfSome reads (λ image. Q) → Q
  only_if_told Q known = subst (λ (r : Option Image). IfSome r (λ image. Q)) only.told known

-- ---- A node on a disk

module _ (node : NodeValue) (reads : Option Image) (images : Image → Type 0) (on : StandsOnDisk node reads images) where
  pub on_own : IsOwnDiskWhereTold node reads images
  on_own = subst (λ (r : Option Image). IfSome r (λ _. IsOwnDisk node reads images)) (sym on.image.told) on.of

  pub on_sound : IsSoundWhereTold node reads
  on_sound = record { sound = on.sound; told = ap is_some on.image.told }

-- ---- Items one after the other

pub one_in : (items : List (Vec ℕ Global)) (i : ℕ) (found : Vec ℕ Global) (item : List ℕ) → i < length items → found ≡ get_or items i found → item ≡ found.items
    → get_or (items_in items) i item ≡ item
one_in items i found item within is same =
    get_or-map (λ (bytes : Vec ℕ Global). bytes.items) items i found item within ∙ ap (λ (bytes : Vec ℕ Global). bytes.items) (sym is) ∙ sym same

pub as_many : (items : List (Vec ℕ Global)) → length (items_in items) ≡ length items
as_many items = length-map items (λ (bytes : Vec ℕ Global). bytes.items)

module _ (items : List (List ℕ)) (i : ℕ) (item : List ℕ) (within : i < length items) (at : get_or items i item ≡ item) where
  pub one_more : take (i + 1) items ≡ take i items ++ item ∷ []
  one_more = take_more items i item within ∙ ap (λ (x : List ℕ). take i items ++ x ∷ []) at

  one_fewer : drop i items ≡ item ∷ drop (i + 1) items
  one_fewer = drop_more items i item within ∙ ap (λ (x : List ℕ). x ∷ drop (i + 1) items) at

  module _ (chain now : Chain) (is : now ≡ chain_over chain (take i items)) where
    pub chain_more : chain_after now item ≡ chain_over chain (take (i + 1) items)
    chain_more = ap (λ (k : Chain). chain_after k item) is ∙ sym (keep-push chain_after chain (take i items) item) ∙ ap (chain_over chain) (sym one_more)

    -- it is stopped: what joined of those before it is kept, or of it too
    pub either_keeps : (image : Image) → StandsFor now image ⊎ StandsFor (chain_after now item) image → KeepsPrefix chain items i image
    either_keeps image (inl before) = (
      i,
      record { acknowledged = omega arith; one_more = omega arith; most = omega (arith, within) },
      subst (λ (k : Chain). StandsFor k image) is before,
    )
    either_keeps image (inr after) = (
      i + 1,
      record { acknowledged = omega arith; one_more = omega arith; most = omega (arith, within) },
      subst (λ (k : Chain). StandsFor k image) chain_more after,
    )

  -- steps that are left
  pub steps_left : (now : Chain) → steps_over now (drop i items) ≡ moves_for now item + steps_over (chain_after now item) (drop (i + 1) items)
  steps_left now = ap (steps_over now) one_fewer

pub all_keep : (chain now : Chain) (items : List (List ℕ)) (i : ℕ) → length items ≤ i → now ≡ chain_over chain (take i items)
    → (image : Image) → StandsFor now image → KeepsPrefix chain items (length items) image
all_keep chain now items i past is image stands = (
  length items,
  record { acknowledged = omega arith; one_more = omega arith; most = omega arith },
  subst (λ (k : Chain). StandsFor k image) (is ∙ ap (chain_over chain) (take_all i items past ∙ sym (take_all (length items) items (omega arith)))) stands,
)

pub none_keeps : (chain : Chain) (items : List (List ℕ)) (image : Image) → StandsFor chain image → KeepsPrefix chain items 0 image
none_keeps chain items image stands = (0, record { acknowledged = omega arith; one_more = omega arith; most = omega arith }, stands)

-- the images that a stopped import leaves
module _ {D : Type 0} (images : D → Image → Type 0) (moment : D → ℕ) (left_since : D → ℕ → Image → Type 0)
    (counts_now : (disk : D) (t : ℕ) (image : Image) → t ≤ moment disk → images disk image → left_since disk t image) where
  pub stopped_import : (old new : D) (chain now : Chain) (items : List (List ℕ)) (i : ℕ) (item : List ℕ) → i < length items → get_or items i item ≡ item
      → now ≡ chain_over chain (take i items)
      → LeavesOnly moment left_since old new (λ image. StandsFor now image ⊎ StandsFor (chain_after now item) image)
      → (image : Image) → images new image → KeepsPrefix chain items i image
  stopped_import old new chain now items i item within at is moments image left =
      either_keeps items i item within at chain now is image
      (now_too moment left_since images counts_now old new (λ image. StandsFor now image ⊎ StandsFor (chain_after now item) image) moments image left)

  -- and those that a stopped opening leaves
  pub stopped_opening : (old new : D) (chain : Chain) (reads : Option Image) (items : List (List ℕ)) → IsOnlyImage chain reads (images old)
      → LeavesOnly moment left_since old new (λ image. images old image ⊎ StandsFor chain image)
      → (image : Image) → images new image → KeepsPrefix chain items 0 image
  stopped_opening old new chain reads items only moments image left =
      none_keeps chain items image
      (one_of (now_too moment left_since images counts_now old new (λ image. images old image ⊎ StandsFor chain image) moments image left))
    where
      one_of : images old image ⊎ StandsFor chain image → StandsFor chain image
      one_of (inl was) = only_stands chain reads (images old) only image was
      one_of (inr stands) = stands

-- ---- How it ends

pub same_error : {T E : Type 0} (one other : E) → ◌≡◌ {A = Result T E} (Err one) (Err other) → one ≡ other
same_error one other same = cc

pub ends_unopened : (size : ℕ) (end : End) → (end ≡ Whole → ⊥) → IsEndOf size 0 end
ends_unopened size end stopped = record {
  most = omega arith;
  whole = λ whole. absurd (stopped whole);
  all = λ all some. absurd (omega (arith, all, some));
}
