-- How a run of disk calls goes on, moment by moment.
use Rattle.std.proofs.Common.{inl, inr, ⊎_elim, ℕ, ◌≤◌, arith}
use Rattle.outside.specs.Image.{Image}
use Rattle.outside.specs.Disk.{Elapses, LeavesOnly}

module _ {D : Type 0} (moment : D → ℕ) (left_since : D → ℕ → Image → Type 0) where
  -- before the first call
  pub started : (old : D) (P : Image → Type 0) → ((image : Image) → left_since old (moment old) image → P image)
      → LeavesOnly moment left_since old old P
  started old P here = record { later = omega arith; each = here; before = λ t image le left. inl left }

  -- one call more, after which a crash leaves what has P
  pub goes_on : (old mid new : D) (P images : Image → Type 0) → LeavesOnly moment left_since old mid P
      → Elapses (moment mid) (moment new) (left_since mid) (left_since new) images
      → ((image : Image) → images image → P image) → LeavesOnly moment left_since old new P
  goes_on old mid new P images so_far time here = record {
    later = omega (arith, so_far.later, time.later);
    each = λ image left. ⊎_elim (so_far.each image) (here image) (time.nothing_else (moment old) image so_far.later left);
    before = λ t image le left. ⊎_elim (so_far.before t image le) (λ now. inr (here image now)) (time.nothing_else t image (omega (arith, le, so_far.later)) left);
  }

  -- what has P has Q
  pub leaves_also : (old new : D) (P Q : Image → Type 0) → LeavesOnly moment left_since old new P
      → ((image : Image) → P image → Q image) → LeavesOnly moment left_since old new Q
  leaves_also old new P Q so_far weaker = record {
    later = so_far.later;
    each = λ image left. weaker image (so_far.each image left);
    before = λ t image le left. ⊎_elim (λ past. inl past) (λ has. inr (weaker image has)) (so_far.before t image le left);
  }

  -- one run after another
  pub leaves_then : (old mid new : D) (P : Image → Type 0) → LeavesOnly moment left_since old mid P → LeavesOnly moment left_since mid new P
      → LeavesOnly moment left_since old new P
  leaves_then old mid new P first second = record {
    later = omega (arith, first.later, second.later);
    each = λ image left. ⊎_elim (first.each image) (λ has. has) (second.before (moment old) image first.later left);
    before = λ t image le left. ⊎_elim (first.before t image le) (λ has. inr has) (second.before t image (omega (arith, le, first.later)) left);
  }

  -- a crash now is one of those since old
  pub now_too : (images : D → Image → Type 0) → ((disk : D) (t : ℕ) (image : Image) → t ≤ moment disk → images disk image → left_since disk t image)
      → (old new : D) (P : Image → Type 0) → LeavesOnly moment left_since old new P → (image : Image) → images new image → P image
  now_too images counts_now old new P so_far image here = so_far.each image (counts_now new (moment old) image so_far.later here)
