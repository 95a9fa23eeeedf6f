-- What a snapshot leaves of the disk while it is taken, and after it.
use Rattle.std.proofs.Common.{◌≡◌, ℕ, ◌≤◌, List, Option, Some, None, refl, sym, ap, ◌∙◌, subst, inl, inr}
use Rattle.std.specs.Prelude.{IfSome, IsSomeAnd, Result, Ok, Err, OnOk}
use Rattle.std.specs.Option.{option_map}
use Rattle.std.proofs.lemmas.Option.{same_Some}
use Rattle.outside.specs.declared.disk.Area.{Area}
use Rattle.outside.specs.declared.disk.Area.TheVariants.{Log, SnapA, SnapB}
use Rattle.outside.specs.Image.{Image, InArea, content, with_content}
use Rattle.outside.specs.Disk.{ComesBy, IsDurable, OthersRead}
use Rattle.outside.proofs.Images.{own_content}
use Rattle.chain_defs.specs.Schema.{OutPoint, Block}
use Rattle.chain_defs.specs.Kept.{block_at}
use Rattle.chain_defs.specs.Tip.{tip_place}
use Rattle.chain_defs.specs.Row.{Row}
use Rattle.chain_tree.specs.declared.entry.Entry.{Entry}
use Rattle.chain_tree.specs.Blocks.{Describes}
use Rattle.verdict_defs.specs.Chain.{Chain}
use Rattle.disk_defs.specs.Snapshot.{Snapshot, Holds, area_of, IsOfBlocks}
use Rattle.disk_defs.proofs.AreaLaws.{none-in-the-log, is-of-its-tip}
use Rattle.snapshots.specs.Writing.{IsTaken, HasAnyArea, HoldsNew}
use Rattle.store_defs.specs.Store.{StandsFor}
use Rattle.store_defs.proofs.SnapshotLemmas.{stands_with_closed_area, stands_with_snapshot}
use Rattle.node_store.specs.Kept.{AreRowsOfTip}
use Rattle.node_store.specs.Node.{IsOnlyImage}
use Rattle.node_store.specs.Snapshot.{HasSnapshot}

content-with : (area : Area) (bytes : List ℕ) (image : Image) → content area (with_content area bytes image) ≡ bytes
content-with Log bytes image = refl
content-with SnapA bytes image = refl
content-with SnapB bytes image = refl

-- ---- The area of a number is none of the log

pub none-log : (number : ℕ) → area_of number ≡ Log → ⊥
none-log number is = none-in-the-log number is

pub log-beside : (area : Area) (bytes : List ℕ) (image : Image) → (area ≡ Log → ⊥) → (with_content area bytes image).log ≡ image.log
log-beside Log bytes image never = absurd (never refl)
log-beside SnapA bytes image never = refl
log-beside SnapB bytes image never = refl

-- ---- The snapshot of the tip

-- The snapshot of kept blocks that bytes hold, with this number and this tip.
record IsNew (kept : List Block) (number tip : ℕ) (bytes : List ℕ) : Type 0 where
  s : Snapshot
  holds : Holds bytes s
  number_is : s.number ≡ number
  tip_is : s.tip ≡ tip
  of_blocks : IsOfBlocks kept s

module _ (kept : List Block) (tip : ℕ) (entry : Entry) (rows : OutPoint → Option Row) (at_tip : tip_place kept ≡ Some tip)
    (described : IsSomeAnd (block_at kept tip) (λ b. Describes b entry)) (live : AreRowsOfTip kept rows) where
  is-new : (number : ℕ) (bytes : List ℕ) → HoldsNew number tip entry.hash rows bytes → IsNew kept number tip bytes
  is-new number bytes (s, is, holds) = record { s = s; holds = holds; number_is = is.number_is; tip_is = is.tip_is; of_blocks = by (block_at kept tip) refl described }
    where
      by : (found : Option Block) → block_at kept tip ≡ found → IsSomeAnd found (λ b. Describes b entry) → IsOfBlocks kept s
      by None there none = absurd none
      by (Some b) there describes =
          is-of-its-tip kept s b rows (ap (block_at kept) is.tip_is ∙ there) (sym describes.hash ∙ sym is.hash_is)
          (λ o. live s.tip (at_tip ∙ ap (λ (n : ℕ). Some n) (sym is.tip_is)) o) is.lists

  pub has-snapshot : (number : ℕ) (now : Image) → HoldsNew number tip entry.hash rows (content (area_of number) now) → HasSnapshot kept number now
  has-snapshot number now new =
      let it : IsNew kept number tip (content (area_of number) now) = is-new number (content (area_of number) now) new in
      record { s = it.s; holds = it.holds; number_is = it.number_is; tip = at_tip ∙ ap (λ (n : ℕ). Some n) (sym it.tip_is); of_blocks = it.of_blocks }

  pub has-taken : (due : Option ℕ) (number other : ℕ) (reads : Option Image) → due ≡ Some number → due ≡ Some other
      → IfSome reads (λ now. HoldsNew number tip entry.hash rows (content (area_of number) now)) → IfSome reads (HasSnapshot kept other)
  has-taken due number other None is at new = tt
  has-taken due number other (Some now) is at new =
      subst (λ (n : ℕ). HasSnapshot kept n now) (same_Some number other (sym is ∙ at)) (has-snapshot number now new)

-- ---- Over the one image of the chain

pub on-ok : {T E : Type 0} (result : Result T E) (P Q : Type 0) → OnOk result P → (P → Q) → OnOk result Q
on-ok (Ok value) P Q holds also = also holds
on-ok (Err stop) P Q holds also = tt

module _ (chain : Chain) (number tip : ℕ) (entry : Entry) (rows : OutPoint → Option Row) (at_tip : tip_place chain.blocks ≡ Some tip)
    (described : IsSomeAnd (block_at chain.blocks tip) (λ b. Describes b entry)) (live : AreRowsOfTip chain.blocks rows)
    (reads : Option Image) (images : Image → Type 0) (only : IsOnlyImage chain reads images) where
  pub durable-only : IfSome reads (IsDurable (area_of number) images)
  durable-only = subst (λ (o : Option Image). IfSome o (IsDurable (area_of number) images)) (sym only.told)
      (λ image left. ap (content (area_of number)) (only.one image left))

  stands-over : (bytes : List ℕ) → IsTaken (HoldsNew number tip entry.hash rows) (content (area_of number) only.now) bytes
      → StandsFor chain (with_content (area_of number) bytes only.now)
  stands-over bytes (inl (inl same)) =
      subst (StandsFor chain) (own_content (area_of number) only.now ∙ ap (λ (l : List ℕ). with_content (area_of number) l only.now) (sym same)) only.stands
  stands-over bytes (inl (inr closed)) =
      stands_with_closed_area chain only.now (area_of number) bytes only.stands (none-in-the-log number) closed
  stands-over bytes (inr new) =
      let it : IsNew chain.blocks number tip bytes = is-new chain.blocks tip entry rows at_tip described live number bytes new in
      subst (λ (n : ℕ). StandsFor chain (with_content (area_of n) bytes only.now)) it.number_is
      (stands_with_snapshot chain only.now bytes it.s only.stands it.holds it.of_blocks)

  -- while the snapshot is taken
  pub stands-taken : (image : Image) → ComesBy (InArea (area_of number) (IsTaken (HoldsNew number tip entry.hash rows))) images image → StandsFor chain image
  stands-taken image (before, left, (bytes, step, is)) =
      let one : before ≡ only.now = only.one before left in
      subst (StandsFor chain) (sym (is ∙ ap (with_content (area_of number) bytes) one))
      (stands-over bytes (subst (λ (i : Image). IsTaken (HoldsNew number tip entry.hash rows) (content (area_of number) i) bytes) one step))

  -- and after it
  module _ (reads1 : Option Image) (images1 : Image → Type 0) (others : OthersRead (area_of number) reads reads1)
      (durable : IfSome reads1 (IsDurable (area_of number) images1)) (here : IfSome reads1 images1)
      (beside : (image : Image) → images1 image → HasAnyArea (area_of number) images image)
      (stands : (image : Image) → images1 image → StandsFor chain image) where
    abbrev after : Image
    after = with_content (area_of number) others.0 only.now

    told-after : reads1 ≡ Some after
    told-after = others.1 ∙ ap (option_map (with_content (area_of number) others.0)) only.told

    one-after : (image : Image) → images1 image → image ≡ after
    one-after image left = from (beside image left)
      where
        same : content (area_of number) image ≡ others.0
        same =
            (subst (λ (o : Option Image). IfSome o (IsDurable (area_of number) images1)) told-after durable) image left
            ∙ content-with (area_of number) others.0 only.now

        from : HasAnyArea (area_of number) images image → image ≡ after
        from (before, first, (bytes, any, is)) =
            let whole : image ≡ with_content (area_of number) bytes only.now = is ∙ ap (with_content (area_of number) bytes) (only.one before first) in
            let same-bytes : bytes ≡ others.0 = sym (content-with (area_of number) bytes only.now) ∙ sym (ap (content (area_of number)) whole) ∙ same in
            whole ∙ ap (λ (l : List ℕ). with_content (area_of number) l only.now) same-bytes

    pub only-after : IsOnlyImage chain reads1 images1
    only-after = record {
      now = after;
      told = told-after;
      one = one-after;
      stands = stands after (subst (λ (o : Option Image). IfSome o images1) told-after here);
    }
