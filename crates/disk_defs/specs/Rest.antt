-- A log at rest, and a disk that leaves it so (docs/STORE.md).
use Rattle.std.specs.Prelude.{◌≡◌, ◌≢◌, ◌⊎◌, ℕ, ◌+◌, ◌<◌, ◌≤◌, max, List, [], ◌∷◌, ◌++◌, take, drop, length, slice_index, Option, Some}
use Rattle.outside.specs.declared.disk.Area.TheVariants.{Log}
use Rattle.outside.specs.Image.{Image, InArea}
use Rattle.outside.specs.Disk.{ComesBy, IsDurable}
use Rattle.disk_defs.specs.Log.{Record, record_bytes, records_of, end_of_log, magic}

-- The bytes begin as a log does and hold these records, which end at this place, where a byte stands.
pub record EndsAt (place : ℕ) (records : List Record) (bytes : List ℕ) : Type 0 where
  pub begins : take 8 bytes ≡ magic
  pub holds : records_of (drop 8 bytes) ≡ records
  pub ends : end_of_log bytes ≡ place
  pub there : place < length bytes

-- The same, where the byte that stands at the end is no open gate.
pub record IsAtRest (place : ℕ) (records : List Record) (bytes : List ℕ) : Type 0 where
  pub begins : take 8 bytes ≡ magic
  pub holds : records_of (drop 8 bytes) ≡ records
  pub ends : end_of_log bytes ≡ place
  pub there : place < length bytes
  pub closed : slice_index bytes place ≢ 1

-- at rest before a record is put after the others, or after
abbrev pub IsBeforeOrAfter : ℕ → List Record → Record → List ℕ → Type 0
IsBeforeOrAfter place records r bytes = IsAtRest place records bytes ⊎ IsAtRest (place + length (record_bytes r)) (records ++ r ∷ []) bytes

-- The log is at rest as the disk reads, and a crash leaves it as it reads.
pub record IsSettled (place : ℕ) (records : List Record) (reads : Option Image) (images : Image → Type 0) : Type 0 where
  pub now : Image
  pub told : reads ≡ Some now
  pub rest : IsAtRest place records now.log
  pub durable : IsDurable Log images now

-- An image with the other areas of one of these, and with a log that has P.
abbrev pub HasLog : (List ℕ → Type 0) → (Image → Type 0) → Image → Type 0
HasLog P images = ComesBy (InArea Log (λ old new. P new)) images

-- It is no longer than it was, or than to one byte after this place.
abbrev pub IsNoLonger : ℕ → List ℕ → List ℕ → Type 0
IsNoLonger place old new = length new ≤ max (length old) (place + 1)

-- An image with the other areas of one of these, and with a log that is no longer than it was there, or than to one byte after this place.
abbrev pub HasNoLonger : ℕ → (Image → Type 0) → Image → Type 0
HasNoLonger place images = ComesBy (InArea Log (IsNoLonger place)) images

-- What an append of a record leaves of a log, at each moment: it is at rest before the record or after it, and no longer than it was, or than to one
-- byte after the record.
pub record IsAppended (place : ℕ) (records : List Record) (r : Record) (old new : List ℕ) : Type 0 where
  pub rest : IsBeforeOrAfter place records r new
  pub size : IsNoLonger (place + length (record_bytes r)) old new

-- An image with the other areas of one of these, and with what an append leaves of the log that was there.
abbrev pub HasAppended : ℕ → List Record → Record → (Image → Type 0) → Image → Type 0
HasAppended place records r images = ComesBy (InArea Log (IsAppended place records r)) images
