-- What a node's disk is before a record is put after the others, while it is and after: that of a block that joins, or of an edition.
use Rattle.std.proofs.Common.{◌≡◌, ℕ, ◌+◌, ◌<◌, ◌^◌, List, [], ◌∷◌, ◌++◌, length, Option, Some, None, sym, ap, ◌∙◌, subst, inl, inr, ◌⊎◌, arith}
use Rattle.std.specs.Prelude.{IsTrue}
use Rattle.std.specs.Option.{option_map}
use Rattle.std.proofs.lemmas.Option.{same_Some}
use Rattle.outside.specs.declared.disk.Area.TheVariants.{Log}
use Rattle.outside.specs.Causes.{CountsFault}
use Rattle.outside.specs.Image.{Image, with_content}
use Rattle.outside.specs.Disk.{OthersRead, LeavesOnly}
use Rattle.outside.proofs.Moments.{started}
use Rattle.verdict_defs.specs.Chain.{Chain, chain_after}
use Rattle.verdict_defs.specs.Laws.{CanJoin}
use Rattle.disk_defs.specs.Log.{Record, record_bytes, edition_record}
use Rattle.store_defs.specs.EditionLaws.{AllStandBefore, edited_chain}
use Rattle.store_defs.proofs.EditedLemmas.{stands_after_an_edition}
use Rattle.store_defs.specs.JoinLaws.{record_over}
use Rattle.disk_defs.specs.Rest.{IsAtRest, IsBeforeOrAfter, IsSettled, HasAppended}
use Rattle.chain_defs.specs.Ext.{is_ext}
use Rattle.store_defs.specs.Store.{ext_over, StandsFor}
use Rattle.disk_defs.proofs.Contents.{says_its_records}
use Rattle.store_defs.proofs.StoreLemmas.{stands_as_it_says, stands_after_an_item}
use Rattle.node_store.specs.Node.{IsOnlyImage}
use Rattle.node_store.proofs.RecordedLemmas.{same_image}

-- without a fault the count stands still
pub counts_none : {Fault : Type 0} (before now : ℕ) → now ≡ before → (Fault → ⊥) → CountsFault before now Fault
counts_none before now still none = record {
  later = omega (arith, still);
  rose = λ fault. absurd (none fault);
  unchanged = λ other. still;
}

-- before the first call a crash leaves what stands for the chain
pub before_calls : {D : Type 0} (moment : D → ℕ) (left_since : D → ℕ → Image → Type 0) (images : D → Image → Type 0)
    → ((disk : D) (image : Image) → left_since disk (moment disk) image → images disk image)
    → (chain : Chain) (reads : Option Image) (disk : D) (item : List ℕ) → IsOnlyImage chain reads (images disk)
    → LeavesOnly moment left_since disk disk (λ image. StandsFor chain image ⊎ StandsFor (chain_after chain item) image)
before_calls moment left_since images only_now chain reads disk item only =
    started moment left_since disk _ (λ image left. inl (subst (StandsFor chain) (sym (only.one image (only_now disk image left))) only.stands))

module _ (chain : Chain) (reads : Option Image) (images : Image → Type 0) (only : IsOnlyImage chain reads images) (place : ℕ) (records : List Record)
    (settled : IsSettled place records reads images) where
  rests : IsAtRest place records only.now.log
  rests = subst (λ (image : Image). IsAtRest place records image.log) (same_Some settled.now only.now (sym settled.told ∙ only.told)) settled.rest

  -- with a record after the others the log is that of another chain
  module _ (r : Record) (later : Chain)
      (grows : (next : ℕ) (bytes : List ℕ) → IsAtRest next (records ++ r ∷ []) bytes → StandsFor later (with_content Log bytes only.now)) where
    stands_so : (bytes : List ℕ) → IsBeforeOrAfter place records r bytes
        → StandsFor chain (with_content Log bytes only.now) ⊎ StandsFor later (with_content Log bytes only.now)
    stands_so bytes (inl before) = inl (stands_as_it_says chain only.now bytes only.stands
        (says_its_records place records bytes before ∙ sym (says_its_records place records only.now.log rests)))
    stands_so bytes (inr after) = inr (grows (place + length (record_bytes r)) bytes after)

    -- while the record is put there
    pub stands_or : (image : Image) → HasAppended place records r images image → StandsFor chain image ⊎ StandsFor later image
    stands_or image (before, left, (bytes, appended, is)) =
        subst (λ (i : Image). StandsFor chain i ⊎ StandsFor later i)
        (ap (with_content Log bytes) (sym (only.one before left)) ∙ sym is) (stands_so bytes appended.rest)

    snaps_stay : (image : Image) → HasAppended place records r images image → (image.snap_a ≡ only.now.snap_a) × (image.snap_b ≡ only.now.snap_b)
    snaps_stay image (before, left, (bytes, appended, is)) =
        let same : image ≡ with_content Log bytes only.now = is ∙ ap (with_content Log bytes) (only.one before left) in
        (ap (λ (i : Image). i.snap_a) same, ap (λ (i : Image). i.snap_b) same)

    -- what it reads as when the log alone was written
    reads_over : (found : Option Image) → found ≡ Some only.now → (bytes : List ℕ) (now : Image) → Some now ≡ option_map (with_content Log bytes) found
        → now ≡ with_content Log bytes only.now
    reads_over found told bytes now wrote =
        let same : Some now ≡ Some (with_content Log bytes only.now) = wrote ∙ ap (option_map (with_content Log bytes)) told in
        (cc)

    module _ (next : ℕ) (reads1 : Option Image) (images1 : Image → Type 0) (after : IsSettled next (records ++ r ∷ []) reads1 images1)
        (others : OthersRead Log reads reads1) (left_so : (image : Image) → images1 image → HasAppended place records r images image) where
      now_is : after.now ≡ with_content Log after.now.log only.now
      now_is = by_bytes others
        where
          by_bytes : OthersRead Log reads reads1 → after.now ≡ with_content Log after.now.log only.now
          by_bytes (bytes, wrote) =
              let is : after.now ≡ with_content Log bytes only.now = reads_over reads only.told bytes after.now (sym after.told ∙ wrote) in
              is ∙ ap (λ (l : List ℕ). with_content Log l only.now) (sym (ap (λ (i : Image). i.log) is))

      one_now : (image : Image) → images1 image → image ≡ after.now
      one_now image left =
          let snaps = snaps_stay image (left_so image left) in
          same_image image after.now (after.durable image left)
          (snaps.0 ∙ sym (ap (λ (i : Image). i.snap_a) now_is)) (snaps.1 ∙ sym (ap (λ (i : Image). i.snap_b) now_is))

      -- once it stands there
      pub only_then : IsOnlyImage later reads1 images1
      only_then = record {
        now = after.now;
        told = after.told;
        one = one_now;
        stands = subst (StandsFor later) (sym now_is) (grows next after.now.log after.rest);
      }

  module _ (item : List ℕ) (can : CanJoin chain.spec chain.blocks item) (short : length item < 2 ^ 31) (form : IsTrue (is_ext (ext_over chain item))) where
    joins : (next : ℕ) (bytes : List ℕ) → IsAtRest next (records ++ record_over chain item ∷ []) bytes → StandsFor (chain_after chain item) (with_content Log bytes only.now)
    joins next bytes more = stands_after_an_item chain item only.now bytes place next records only.stands can short form rests more

    -- while the record of an item that joins is put there, and once it stands there
    pub stands_either : (image : Image) → HasAppended place records (record_over chain item) images image
        → StandsFor chain image ⊎ StandsFor (chain_after chain item) image
    stands_either = stands_or (record_over chain item) (chain_after chain item) joins

    pub only_after : (next : ℕ) (reads1 : Option Image) (images1 : Image → Type 0) → IsSettled next (records ++ record_over chain item ∷ []) reads1 images1
        → OthersRead Log reads reads1 → ((image : Image) → images1 image → HasAppended place records (record_over chain item) images image)
        → IsOnlyImage (chain_after chain item) reads1 images1
    only_after next reads1 images1 after others left_so = only_then (record_over chain item) (chain_after chain item) joins next reads1 images1 after others left_so

  module _ (epoch : ℕ) (none : chain.spec.second_from ≡ None) (all : AllStandBefore epoch chain) (fits : epoch < 2 ^ 64) where
    edits : (next : ℕ) (bytes : List ℕ) → IsAtRest next (records ++ edition_record epoch ∷ []) bytes → StandsFor (edited_chain chain epoch) (with_content Log bytes only.now)
    edits next bytes more = stands_after_an_edition chain epoch only.now bytes place next records only.stands none all fits rests more

    -- the same of the record of an edition
    pub edited_either : (image : Image) → HasAppended place records (edition_record epoch) images image
        → StandsFor chain image ⊎ StandsFor (edited_chain chain epoch) image
    edited_either = stands_or (edition_record epoch) (edited_chain chain epoch) edits

    pub only_edited : (next : ℕ) (reads1 : Option Image) (images1 : Image → Type 0) → IsSettled next (records ++ edition_record epoch ∷ []) reads1 images1
        → OthersRead Log reads reads1 → ((image : Image) → images1 image → HasAppended place records (edition_record epoch) images image)
        → IsOnlyImage (edited_chain chain epoch) reads1 images1
    only_edited next reads1 images1 after others left_so = only_then (edition_record epoch) (edited_chain chain epoch) edits next reads1 images1 after others left_so
