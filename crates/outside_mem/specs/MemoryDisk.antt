-- What contracts see of a `MemDisk`: the calls that changed it, and what follows from them (docs/DECISIONS.md, "The outside").
use Rattle.std.specs.Prelude.{◌≡◌, ◌⊎◌, ◌↔◌, ℕ, ◌+◌, ◌-◌, ◌%◌, ◌≤◌, nat_le, List, [], ◌∷◌, length, map, reverse, Some, if◌then◌else◌}
use Rattle.std.proofs.Common.{inl, inr, sym, ap, subst}
use Rattle.std.proofs.Math.Nat.{lt_irrefl, le_refl}
use Rattle.outside.specs.declared.disk.Area.{Area}
use Rattle.outside_mem.specs.declared.history.Recorded.{Recorded}
use Rattle.outside_mem.specs.declared.history.Recorded.TheVariants.{Write, Cut as CutShort, Sync, Crash}
use Rattle.outside.specs.Causes.{up_to_last}
use Rattle.outside.specs.Image.{Image, content, InArea}
use Rattle.outside.specs.Disk.{write_area, cut_area, Torn, Cut, ComesBy, IsAsBefore}
use Rattle.outside_mem.specs.Memory.{Plan}
use Rattle.outside_mem.specs.Stored.{image_of}

-- A call that changed the disk, or what a crash may leave of it, or a crash.
pub data Step : Type 0 where
  -- a write of this piece, and of so many bytes after it that a failed call did not come to
  Wrote : (area : Area) (at : ℕ) (piece : List ℕ) (lost : ℕ) → Step
  -- a cut to `len`, of which a failed call left so many bytes
  Shortened : (area : Area) (len left : ℕ) → Step
  Synced : (area : Area) → Step
  -- a crash that left this image
  Crashed : Image → Step

-- what the areas read as after a step
abbrev pub read_after : Step → Image → Image
read_after (Wrote area at piece lost) image = if nat_le at (length (content area image)) then write_area area at piece image else image
read_after (Shortened area len left) image = cut_area area (len + left) image
read_after (Synced area) image = image
read_after (Crashed left) image = left

abbrev pub empty : Image
empty = record { log = []; snap_a = []; snap_b = [] }

-- Steps have their newest first. What the areas read as:
abbrev pub reads : List Step → Image
reads [] = empty
reads (step ∷ earlier) = read_after step (reads earlier)

-- An image that the steps leave: each write torn, each cut in part, after a sync only what was read, and after a crash
-- what it left.
abbrev pub Leaves : List Step → Image → Type 0
Leaves [] image = image ≡ empty
Leaves (Wrote area at piece lost ∷ earlier) image = ComesBy (InArea area (Torn at (length piece + lost))) (Leaves earlier) image
Leaves (Shortened area len left ∷ earlier) image = ComesBy (InArea area (Cut len)) (Leaves earlier) image
Leaves (Synced area ∷ earlier) image = Leaves earlier image × (content area image ≡ content area (reads earlier))
Leaves (Crashed left ∷ earlier) image = image ≡ left

-- an image that a crash may leave
abbrev pub MayLeave : List Step → Image → Type 0
MayLeave steps image = (image ≡ reads steps) ⊎ Leaves steps image

-- an image that a crash might have left when at least so many steps were made
abbrev pub LeftSince : List Step → ℕ → Image → Type 0
LeftSince [] since image = MayLeave [] image
LeftSince (step ∷ earlier) since image = MayLeave (step ∷ earlier) image ⊎ ((since ≤ length earlier) × LeftSince earlier since image)

-- A `MemDisk`: its steps, and how many calls ran out of memory.
pub record Recording : Type 0 where
  pub steps : List Step
  pub plan : Plan
  pub starved : ℕ

abbrev pub disk_faults : Recording → ℕ
disk_faults disk = up_to_last (disk.plan.failed + disk.starved)

-- each image that a crash may leave now is one from before after this step, and each such image is among them
abbrev pub LeavesExactly : (Image → Image → Type 0) → List Step → List Step → Type 0
LeavesExactly step old new = (image : Image) → MayLeave new image ↔ ComesBy step (MayLeave old) image

-- the same after a sync of this area: those from before in which it is as it reads
abbrev pub LeavesSynced : Area → List Step → List Step → Type 0
LeavesSynced area old new = (image : Image) → MayLeave new image ↔ (MayLeave old image × (content area image ≡ content area (reads old)))

-- A failed call changed nothing, or it made one step, which did its work in part.
abbrev pub FailsInPart : (Image → Image → Type 0) → List Step → List Step → Type 0
FailsInPart step old new = (new ≡ old) ⊎ ((made : Step) × (new ≡ made ∷ old) × LeavesExactly step old new)

-- a failed write of so many bytes that made one step, which wrote some bytes and was to write others
abbrev pub WritesInPart : Area → ℕ → ℕ → List Step → List Step → Type 0
WritesInPart area at size old new = (made : List ℕ) × (lost : ℕ) × (length made + lost ≡ size) × (new ≡ Wrote area at made lost ∷ old)

-- no image has fewer bytes of an area
abbrev pub HasLeast : List Step → Image → Type 0
HasLeast steps least = (area : Area) (image : Image) → MayLeave steps image → length (content area least) ≤ length (content area image)

-- An image for a choice of a crash: what is read for 0, the least of each area for 1, and for another choice any of the images, all
-- modulo 4.
pub record IsPick (steps : List Step) (pick : ℕ) (image : Image) : Type 0 where
  pub among : MayLeave steps image
  pub as_read : pick % 4 ≡ 0 → image ≡ reads steps
  pub least : pick % 4 ≡ 1 → HasLeast steps image

-- After a crash the record has the image that it left and no other step. Where no step was made there is none.
abbrev pub BeginsAnew : List Step → List Step → Type 0
BeginsAnew old new = ((old ≡ []) × (new ≡ [])) ⊎ ((image : Image) × MayLeave old image × (new ≡ Crashed image ∷ []))

-- the record that the code keeps, oldest first
abbrev pub step_of : Recorded → Step
step_of (Write area at piece size) = Wrote area at piece.value.items (size - length piece.value.items)
step_of (CutShort area len left) = Shortened area len left
step_of (Sync area) = Synced area
step_of (Crash areas) = Crashed (image_of areas.value)

abbrev pub steps_of : List Recorded → List Step
steps_of recorded = reverse (map step_of recorded)

pub counts_now : (steps : List Step) (since : ℕ) (image : Image) → since ≤ length steps → MayLeave steps image → LeftSince steps since image
counts_now [] since image le left = left
counts_now (step ∷ earlier) since image le left = inl left

pub only_now : (steps : List Step) (image : Image) → LeftSince steps (length steps) image → MayLeave steps image
only_now [] image left = left
only_now (step ∷ earlier) image (inl now) = now
only_now (step ∷ earlier) image (inr past) = absurd (lt_irrefl (length earlier) past.0)

-- Where the steps are the same, the disk is as before: what it reads as, and what a crash may leave, at each moment.
pub rests : (old new : Recording) → new.steps ≡ old.steps
    → IsAsBefore (λ (disk : Recording). Some (reads disk.steps)) (λ disk. MayLeave disk.steps) (λ disk. length disk.steps) (λ disk. LeftSince disk.steps) old new
rests old new same = record {
  reads = ap (λ (steps : List Step). Some (reads steps)) same;
  images = λ image. subst (λ (steps : List Step). MayLeave steps image ↔ MayLeave old.steps image) (sym same) (λ left. left, λ left. left);
  moments = record {
    later = subst (λ (steps : List Step). length old.steps ≤ length steps) (sym same) (le_refl (length old.steps));
    each = λ image left. only_now old.steps image (subst (λ (steps : List Step). LeftSince steps (length old.steps) image) same left);
    before = λ t image le left. inl (subst (λ (steps : List Step). LeftSince steps t image) same left);
  };
}
