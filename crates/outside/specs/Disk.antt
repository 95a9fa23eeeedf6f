-- What the calls of a disk do to what it reads as, and to the images that a crash may leave (docs/DECISIONS.md, "The outside").
use Rattle.std.specs.Prelude.{◌≡◌, ◌⊎◌, ◌↔◌, ℕ, ◌+◌, ◌^◌, ◌≤◌, min, max, List, ◌++◌, length, take, drop, is_some, IfSome}
use Rattle.std.specs.Option.{option_map}
use Rattle.std.specs.declared.option.Option.{Option}
use Rattle.outside.specs.declared.disk.Area.{Area}
use Rattle.outside.specs.Image.{Image, content, with_content}

-- the bytes with others written over them at an offset, and past the end
abbrev pub written : ℕ → List ℕ → List ℕ → List ℕ
written at piece bytes = take at bytes ++ piece ++ drop (at + length piece) bytes

-- the image after a write into one area
abbrev pub write_area : Area → ℕ → List ℕ → Image → Image
write_area area at piece image = with_content area (written at piece (content area image)) image

-- the image after a cut of one area
abbrev pub cut_area : Area → ℕ → Image → Image
cut_area area len image = with_content area (take len (content area image)) image

-- a write ends within the limit of an area
abbrev pub IsWithinLimit : ℕ → ℕ → Type 0
IsWithinLimit at size = at + size ≤ 2 ^ 62

-- a write begins within the area or at its end
abbrev pub BeginsWithin : Area → ℕ → Image → Type 0
BeginsWithin area at image = at ≤ length (content area image)

-- A write of `size` bytes that no sync has followed: any bytes in its range, any length between the old end and the new,
-- and all else as it was.
pub record Torn (at size : ℕ) (old new : List ℕ) : Type 0 where
  pub before : take at new ≡ take at old
  pub after : drop (at + size) new ≡ drop (at + size) old
  pub no_shorter : length old ≤ length new
  pub no_longer : length new ≤ max (length old) (at + size)

-- a cut that no sync has followed: any part of the end that was cut is still there, as it was
pub record Cut (len : ℕ) (old new : List ℕ) : Type 0 where
  pub no_shorter : min (length old) len ≤ length new
  pub prefix : new ≡ take (length new) old

-- an image that one of these becomes by this step
abbrev pub ComesBy : (Image → Image → Type 0) → (Image → Type 0) → Image → Type 0
ComesBy step images image = (before : Image) × images before × step before image

-- each new image is an old image after this step
abbrev pub Follows : (Image → Image → Type 0) → (Image → Type 0) → (Image → Type 0) → Type 0
Follows step old new = (image : Image) → new image → ComesBy step old image

-- a crash may leave the same images
abbrev pub SameImages : (Image → Type 0) → (Image → Type 0) → Type 0
SameImages old new = (image : Image) → new image ↔ old image

-- no image is new
abbrev pub NoneNew : (Image → Type 0) → (Image → Type 0) → Type 0
NoneNew old new = (image : Image) → new image → old image

-- a crash leaves this area as it reads in this image
abbrev pub IsDurable : Area → (Image → Type 0) → Image → Type 0
IsDurable area images now = (image : Image) → images image → content area image ≡ content area now

-- a crash leaves what the disk reads as and nothing else
abbrev pub HasOneImage : Option Image → (Image → Type 0) → Type 0
HasOneImage reads images = IfSome reads (λ now. (image : Image) → images image → image ≡ now)

-- a step that leaves the bytes of this area as they were
abbrev pub AreaKept : Area → Image → Image → Type 0
AreaKept area old new = content area new ≡ content area old

-- whether the disk tells what it reads as is the same, and no other area reads otherwise
abbrev pub OthersRead : Area → Option Image → Option Image → Type 0
OthersRead area old new = (bytes : List ℕ) × (new ≡ option_map (with_content area bytes) old)

-- what a disk reads as is known exactly where it was known before
abbrev pub IsKnownAsBefore : Option Image → Option Image → Type 0
IsKnownAsBefore old new = is_some new ≡ is_some old

-- A call moves the clock on: a crash since a moment might have left what it might have left before the call, or what it may leave now.
pub record Elapses (before now : ℕ) (past since : ℕ → Image → Type 0) (images : Image → Type 0) : Type 0 where
  pub later : before ≤ now
  pub nothing_else : (t : ℕ) (image : Image) → t ≤ before → since t image → past t image ⊎ images image
  pub keeps : (t : ℕ) (image : Image) → t ≤ before → past t image → since t image

-- a crash at any moment since old leaves an image that has P
pub record LeavesOnly {D : Type 0} (moment : D → ℕ) (left_since : D → ℕ → Image → Type 0) (old new : D) (P : Image → Type 0) : Type 0 where
  pub later : moment old ≤ moment new
  pub each : (image : Image) → left_since new (moment old) image → P image
  -- for a run that began earlier
  pub before : (t : ℕ) (image : Image) → t ≤ moment old → left_since new t image → left_since old t image ⊎ P image

-- The disk reads as it did, a crash now may leave what it might have left before, and a crash at any moment since
-- old leaves an image of old.
pub record IsAsBefore {D : Type 0} (reads_as : D → Option Image) (may_leave : D → Image → Type 0) (moment : D → ℕ) (left_since : D → ℕ → Image → Type 0) (old new : D) : Type 0 where
  pub reads : reads_as new ≡ reads_as old
  pub images : SameImages (may_leave old) (may_leave new)
  pub moments : LeavesOnly moment left_since old new (may_leave old)

-- A disk was read and nothing else: it reads as it did, and no image is new, now or at any moment since.
pub record IsOnlyRead {D : Type 0} (reads_as : D → Option Image) (may_leave : D → Image → Type 0) (moment : D → ℕ) (left_since : D → ℕ → Image → Type 0) (old new : D) : Type 0 where
  pub reads : reads_as new ≡ reads_as old
  pub images : NoneNew (may_leave old) (may_leave new)
  pub moments : LeavesOnly moment left_since old new (may_leave old)
