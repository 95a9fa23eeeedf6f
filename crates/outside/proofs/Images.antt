-- What images have in common.
use Rattle.std.proofs.Common.{◌≡◌, ℕ, Option, Some, None, refl, ◌∙◌}
use Rattle.std.specs.Prelude.{IfSome}
use Rattle.outside.specs.declared.disk.Area.{Area}
use Rattle.outside.specs.declared.disk.Area.TheVariants.{Log, SnapA, SnapB}
use Rattle.outside.specs.Image.{Image, content, with_content, InArea}
use Rattle.outside.specs.Disk.{Torn, ComesBy, Follows, NoneNew, IsDurable, HasOneImage, SameImages, Elapses, LeavesOnly, IsAsBefore}
use Rattle.outside.proofs.Moments.{started, goes_on}
use Rattle.outside.proofs.Torn.{torn_same}

same_image : (image now : Image) → image.log ≡ now.log → image.snap_a ≡ now.snap_a → image.snap_b ≡ now.snap_b → image ≡ now
same_image image now log snap_a snap_b = λ i. record { log = log i; snap_a = snap_a i; snap_b = snap_b i }

-- its own bytes in one area
pub own_content : (area : Area) (image : Image) → image ≡ with_content area (content area image) image
own_content Log image = refl
own_content SnapA image = refl
own_content SnapB image = refl

-- where each area is durable, a crash leaves one image
pub one_image : (reads : Option Image) (images : Image → Type 0) → IfSome reads (IsDurable Log images) → IfSome reads (IsDurable SnapA images)
    → IfSome reads (IsDurable SnapB images) → HasOneImage reads images
one_image None images log snap_a snap_b = tt
one_image (Some now) images log snap_a snap_b = λ image left. same_image image now (log image left) (snap_a image left) (snap_b image left)

module _ {D : Type 0} (reads_as : D → Option Image) (images : D → Image → Type 0) (moment : D → ℕ) (left_since : D → ℕ → Image → Type 0) where
  -- before the first call
  pub as_before_started : ((disk : D) (image : Image) → left_since disk (moment disk) image → images disk image)
      → (old : D) → IsAsBefore reads_as images moment left_since old old
  as_before_started only_now old = record {
    reads = refl;
    images = λ image. (λ left. left, λ left. left);
    moments = started moment left_since old (images old) (only_now old);
  }

  -- one call more that leaves the disk as it was
  pub as_before_goes_on : (old mid new : D) → IsAsBefore reads_as images moment left_since old mid → reads_as new ≡ reads_as mid
      → SameImages (images mid) (images new) → Elapses (moment mid) (moment new) (left_since mid) (left_since new) (images new)
      → IsAsBefore reads_as images moment left_since old new
  as_before_goes_on old mid new so_far reads same time = record {
    reads = reads ∙ so_far.reads;
    images = λ image. (λ left. (so_far.images image).0 ((same image).0 left), λ left. (same image).1 ((so_far.images image).1 left));
    moments = goes_on moment left_since old mid new (images old) (images new) so_far.moments time (λ image left. (so_far.images image).0 ((same image).0 left));
  }

module _ {D : Type 0} (images : D → Image → Type 0) (moment : D → ℕ) (left_since : D → ℕ → Image → Type 0) (area : Area) (at size : ℕ) where
  abbrev torn : Image → Image → Type 0
  torn = InArea area (Torn at size)

  -- before a write
  unwritten : (old : D) (image : Image) → images old image → ComesBy torn (images old) image
  unwritten old image left = (image, left, (content area image, torn_same at size (content area image), own_content area image))

  -- a write, whatever it answered
  pub moments_of_write : ((disk : D) (image : Image) → left_since disk (moment disk) image → images disk image)
      → (old new : D) → Follows torn (images old) (images new) → Elapses (moment old) (moment new) (left_since old) (left_since new) (images new)
      → LeavesOnly moment left_since old new (ComesBy torn (images old))
  moments_of_write only_now old new follows time =
      let start : LeavesOnly moment left_since old old (ComesBy torn (images old)) = started moment left_since old (ComesBy torn (images old)) (λ image left. unwritten old image (only_now old image left)) in
      goes_on moment left_since old old new (ComesBy torn (images old)) (images new) start time follows

  -- and a sync after it
  pub moments_of_sync : (old mid new : D) → LeavesOnly moment left_since old mid (ComesBy torn (images old)) → Follows torn (images old) (images mid)
      → NoneNew (images mid) (images new) → Elapses (moment mid) (moment new) (left_since mid) (left_since new) (images new)
      → LeavesOnly moment left_since old new (ComesBy torn (images old))
  moments_of_sync old mid new so_far follows none_new time =
      goes_on moment left_since old mid new (ComesBy torn (images old)) (images new) so_far time (λ image left. follows image (none_new image left))
