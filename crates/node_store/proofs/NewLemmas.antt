-- What a new store is made of, and what its disk stands for.
use Rattle.std.proofs.Common.{◌≡◌, ℕ, List, [], take, Option, Some, None, refl, sym, ap, ◌∙◌, subst, inr}
use Rattle.std.specs.Prelude.{IfSome, IsSome}
use Rattle.std.specs.Option.{option_map}
use Rattle.outside.specs.declared.disk.Area.{Area}
use Rattle.outside.specs.declared.disk.Area.TheVariants.{Log, SnapA, SnapB}
use Rattle.outside.specs.Image.{Image, content, with_content, InArea}
use Rattle.outside.specs.Disk.{cut_area, Cut, ComesBy, Follows, NoneNew, IsDurable, AreaKept, OthersRead, Elapses, LeavesOnly}
use Rattle.outside.proofs.Images.{own_content}
use Rattle.outside.proofs.Moments.{started, goes_on}
use Rattle.outside.proofs.Torn.{cut_same}
use Rattle.chain_defs.specs.Shape.{decoded}
use Rattle.chain_defs.specs.Schema.{Block, block}
use Rattle.rule_defs.specs.Genesis.{broken_by, broken_genesis_rule}
use Rattle.disk_defs.specs.Log.{first_records, new_log}
use Rattle.disk_defs.specs.Rest.{IsAtRest, IsSettled, HasNoLonger}
use Rattle.store_defs.specs.Store.{HasNoSnapshots, new_image}
use Rattle.store_defs.proofs.StoreLemmas.{stands_for_the_genesis}
use Rattle.node_store.specs.Node.{AreJudged, IsNew, KeepsLog, HasOldLogOrNoSnapshots}
use Rattle.node_store.proofs.RecordedLemmas.{same_image}

-- what an item breaks as a genesis is what the block breaks that it is
pub broken-of : (item : List ℕ) (b : Option Block) (rule : Option ℕ) → decoded block item ≡ b → rule ≡ broken_by b → broken_genesis_rule item ≡ rule
unfolding broken_genesis_rule
broken-of item b rule is broken = ap broken_by is ∙ sym broken

pub no_genesis : (item : List ℕ) → decoded block item ≡ None → broken_genesis_rule item ≡ Some 1
no_genesis item is = broken-of item None (Some 1) is refl

-- ---- An area that is cleared

pub others_cleared : (area : Area) (old new : Option Image) → new ≡ option_map (cut_area area 0) old → OthersRead area old new
others_cleared area None new is = ([], is)
others_cleared area (Some image) new is = (take 0 (content area image), is)

module _ {D : Type 0} (images : D → Image → Type 0) (moment : D → ℕ) (left_since : D → ℕ → Image → Type 0) (area : Area) where
  abbrev cut : Image → Image → Type 0
  cut = InArea area (Cut 0)

  -- before a cut
  uncut : (old : D) (image : Image) → images old image → ComesBy cut (images old) image
  uncut old image left = (image, left, (content area image, cut_same 0 (content area image), own_content area image))

  -- a cut, whatever it answered
  pub moments_of_cut : ((disk : D) (image : Image) → left_since disk (moment disk) image → images disk image)
      → (old new : D) → Follows cut (images old) (images new) → Elapses (moment old) (moment new) (left_since old) (left_since new) (images new)
      → LeavesOnly moment left_since old new (ComesBy cut (images old))
  moments_of_cut only_now old new follows time =
      let start : LeavesOnly moment left_since old old (ComesBy cut (images old)) = started moment left_since old (ComesBy cut (images old)) (λ image left. uncut old image (only_now old image left)) in
      goes_on moment left_since old old new (ComesBy cut (images old)) (images new) start time follows

  -- and a sync after it
  pub moments_of_clear : ((disk : D) (image : Image) → left_since disk (moment disk) image → images disk image)
      → (old mid new : D) → Follows cut (images old) (images mid) → Elapses (moment old) (moment mid) (left_since old) (left_since mid) (images mid)
      → NoneNew (images mid) (images new) → Elapses (moment mid) (moment new) (left_since mid) (left_since new) (images new)
      → LeavesOnly moment left_since old new (ComesBy cut (images old))
  moments_of_clear only_now old mid new follows first none_new time =
      goes_on moment left_since old mid new (ComesBy cut (images old)) (images new) (moments_of_cut only_now old mid follows first) time
      (λ image left. follows image (none_new image left))

-- ---- LOG while the snapshots are cleared

pub log_kept_a : (images : Image → Type 0) (image : Image) → ComesBy (InArea SnapA (Cut 0)) images image → ComesBy (AreaKept Log) images image
log_kept_a images image (before, left, (bytes, cut, is)) = (before, left, ap (λ (i : Image). i.log) is)

pub log_kept_b : (images images1 : Image → Type 0) → Follows (InArea SnapA (Cut 0)) images images1
    → (image : Image) → ComesBy (InArea SnapB (Cut 0)) images1 image → ComesBy (AreaKept Log) images image
log_kept_b images images1 follows image (mid, left, (bytes, cut, is)) = by_before (log_kept_a images mid (follows mid left))
  where
    by_before : ComesBy (AreaKept Log) images mid → ComesBy (AreaKept Log) images image
    by_before (before, first, same) = (before, first, ap (λ (i : Image). i.log) is ∙ same)

log_reads : (area : Area) (old new : Option Image) → ((bytes : List ℕ) (image : Image) → content Log (with_content area bytes image) ≡ content Log image)
    → OthersRead area old new → option_map (content Log) new ≡ option_map (content Log) old
log_reads area None new kept (bytes, is) = ap (option_map (content Log)) is
log_reads area (Some image) new kept (bytes, is) = ap (option_map (content Log)) is ∙ ap Some (kept bytes image)

pub keeps_log : (reads reads1 reads2 : Option Image) (images images1 images2 : Image → Type 0) → OthersRead SnapA reads reads1 → OthersRead SnapB reads1 reads2
    → Follows (InArea SnapA (Cut 0)) images images1 → Follows (InArea SnapB (Cut 0)) images1 images2 → KeepsLog reads reads2 images images2
keeps_log reads reads1 reads2 images images1 images2 first second follows_a follows_b = record {
  reads = log_reads SnapB reads1 reads2 (λ bytes image. refl) second ∙ log_reads SnapA reads reads1 (λ bytes image. refl) first;
  images = λ image left. log_kept_b images images1 follows_a image (follows_b image left);
}

-- ---- The log that is made

module _ (specification genesis hash : List ℕ) (judged : AreJudged specification genesis hash) (place : ℕ) (images1 images2 images3 : Image → Type 0)
    (old : Image) (reads3 : Option Image) where
  a_is_empty : IsDurable SnapA images1 (cut_area SnapA 0 old) → Follows (InArea SnapB (Cut 0)) images1 images2
      → (image : Image) → images2 image → image.snap_a ≡ []
  a_is_empty durable follows image left = by_before (follows image left)
    where
      by_before : (before : Image) × images1 before × InArea SnapB (Cut 0) before image → image.snap_a ≡ []
      by_before (before, left, (bytes, cut, is)) = ap (λ (i : Image). i.snap_a) is ∙ durable before left

  snaps_empty : IsDurable SnapA images1 (cut_area SnapA 0 old) → Follows (InArea SnapB (Cut 0)) images1 images2
      → IsDurable SnapB images2 (cut_area SnapB 0 (cut_area SnapA 0 old)) → (size : ℕ) (image : Image) → HasNoLonger size images2 image → HasNoSnapshots image
  snaps_empty durable_a follows durable_b size image (before, left, (bytes, any, is)) =
      (ap (λ (i : Image). i.snap_a) is ∙ a_is_empty durable_a follows before left, ap (λ (i : Image). i.snap_b) is ∙ durable_b before left)

  is_new : IsDurable SnapA images1 (cut_area SnapA 0 old) → Follows (InArea SnapB (Cut 0)) images1 images2
      → IsDurable SnapB images2 (cut_area SnapB 0 (cut_area SnapA 0 old)) → (size : ℕ) → ((image : Image) → images3 image → HasNoLonger size images2 image)
      → IsSettled place (first_records specification genesis) reads3 images3
      → reads3 ≡ Some (new_image specification genesis) → IsNew specification genesis reads3 images3
  is_new durable_a follows durable_b size others settled told =
      let both : Some settled.now ≡ Some (new_image specification genesis) = sym settled.told ∙ told in
      let now : settled.now ≡ new_image specification genesis = cc in
      record {
        told = told;
        one = λ image left.
            let snaps = snaps_empty durable_a follows durable_b size image (others image left) in
            same_image image (new_image specification genesis) (settled.durable image left ∙ ap (λ (i : Image). i.log) now) snaps.0 snaps.1;
        stands = stands_for_the_genesis specification genesis (new_image specification genesis) place judged.good_spec judged.good_genesis
            (subst (λ (i : Image). IsAtRest place (first_records specification genesis) i.log) now settled.rest) refl refl;
      }

both_cut : (old : Image) (reads reads1 reads2 : Option Image) → reads ≡ Some old → reads1 ≡ option_map (cut_area SnapA 0) reads → reads2 ≡ option_map (cut_area SnapB 0) reads1
    → reads2 ≡ Some (cut_area SnapB 0 (cut_area SnapA 0 old))
both_cut old reads reads1 reads2 is cut_a cut_b = cut_b ∙ ap (option_map (cut_area SnapB 0)) (cut_a ∙ ap (option_map (cut_area SnapA 0)) is)

-- two areas were cleared, and then a log was made
pub made_new : (specification genesis hash : List ℕ) (place size : ℕ) (reads reads1 reads2 reads3 : Option Image) (images1 images2 images3 : Image → Type 0)
    → AreJudged specification genesis hash → IsSome reads
    → reads1 ≡ option_map (cut_area SnapA 0) reads → IfSome reads1 (IsDurable SnapA images1)
    → reads2 ≡ option_map (cut_area SnapB 0) reads1 → IfSome reads2 (IsDurable SnapB images2) → Follows (InArea SnapB (Cut 0)) images1 images2
    → (IsSome reads2 → IsSettled place (first_records specification genesis) reads3 images3) → reads3 ≡ option_map (with_content Log (new_log specification genesis)) reads2
    → ((image : Image) → images3 image → HasNoLonger size images2 image) → IsNew specification genesis reads3 images3
made_new specification genesis hash place size None reads1 reads2 reads3 images1 images2 images3 judged some cut_a durable_a cut_b durable_b follows settled made left = absurd (cc)
made_new specification genesis hash place size (Some old) reads1 reads2 reads3 images1 images2 images3 judged some cut_a durable_a cut_b durable_b follows settled made left =
    let two : reads2 ≡ Some (cut_area SnapB 0 (cut_area SnapA 0 old)) = both_cut old (Some old) reads1 reads2 refl cut_a cut_b in
    is_new specification genesis hash judged place images1 images2 images3 old reads3
    (subst (λ (o : Option Image). IfSome o (IsDurable SnapA images1)) cut_a durable_a) follows
    (subst (λ (o : Option Image). IfSome o (IsDurable SnapB images2)) two durable_b) size left
    (settled (subst IsSome (sym two) refl)) (made ∙ ap (option_map (with_content Log (new_log specification genesis))) two)

-- while the log is made the snapshots are cleared
pub cleared_first : (size : ℕ) (reads reads1 reads2 : Option Image) (images images1 images2 : Image → Type 0) → IsSome reads
    → reads1 ≡ option_map (cut_area SnapA 0) reads → IfSome reads1 (IsDurable SnapA images1)
    → reads2 ≡ option_map (cut_area SnapB 0) reads1 → IfSome reads2 (IsDurable SnapB images2) → Follows (InArea SnapB (Cut 0)) images1 images2
    → (image : Image) → HasNoLonger size images2 image → HasOldLogOrNoSnapshots images image
cleared_first size None reads1 reads2 images images1 images2 some cut_a durable_a cut_b durable_b follows image left = absurd (cc)
cleared_first size (Some old) reads1 reads2 images images1 images2 some cut_a durable_a cut_b durable_b follows image (before, left, (bytes, any, is)) =
    let two : reads2 ≡ Some (cut_area SnapB 0 (cut_area SnapA 0 old)) = both_cut old (Some old) reads1 reads2 refl cut_a cut_b in
    let first : IsDurable SnapA images1 (cut_area SnapA 0 old) = subst (λ (o : Option Image). IfSome o (IsDurable SnapA images1)) cut_a durable_a in
    let second : IsDurable SnapB images2 (cut_area SnapB 0 (cut_area SnapA 0 old)) = subst (λ (o : Option Image). IfSome o (IsDurable SnapB images2)) two durable_b in
    inr (ap (λ (i : Image). i.snap_a) is ∙ by_mid first (follows before left), ap (λ (i : Image). i.snap_b) is ∙ second before left)
  where
    by_mid : IsDurable SnapA images1 (cut_area SnapA 0 old) → ComesBy (InArea SnapB (Cut 0)) images1 before → before.snap_a ≡ []
    by_mid first (mid, there, (other, cut, was)) = ap (λ (i : Image). i.snap_a) was ∙ first mid there
