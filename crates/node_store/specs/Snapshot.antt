-- When a snapshot is due, what an import leaves beside LOG then, and which snapshot an opening loads (docs/STORE.md, "A snapshot").
use Rattle.std.specs.Prelude.{◌≡◌, ℕ, ◌/◌, ◌%◌, ◌==◌, nat_lt, List, [], ◌∷◌, ◌++◌, Option, Some, None, IsSome, if◌then◌else◌}
use Rattle.std.specs.Option.{option_map}
use Rattle.outside.specs.declared.disk.Area.{Area}
use Rattle.outside.specs.declared.disk.Area.TheVariants.{Log, SnapA, SnapB}
use Rattle.outside.specs.declared.disk.ReadStop.{ReadStop}
use Rattle.outside.specs.declared.disk.ReadStop.TheVariants.{NoMemory}
use Rattle.outside.specs.Image.{Image, content, with_content}
use Rattle.outside.specs.Disk.{OthersRead, LeavesOnly}
use Rattle.chain_defs.specs.Schema.{Block}
use Rattle.chain_defs.specs.Tip.{tip_place}
use Rattle.chain_defs.specs.Ext.{count_at}
use Rattle.disk_defs.specs.Log.{Record}
use Rattle.disk_defs.specs.Rest.{IsSettled}
use Rattle.log_file.specs.Pieces.{block_record}
use Rattle.disk_defs.specs.Snapshot.{Snapshot, has_open_gate, Holds, area_of, IsOfBlocks}
use Rattle.snapshots.specs.Writing.{HasAnyArea}

-- ---- When one is due

-- one at each so many joined blocks
unfoldable pub snapshot_every : ℕ
snapshot_every = 1000

-- The number of the snapshot that is due when so many blocks have joined, siblings counted.
unfoldable pub snapshot_at : ℕ → Option ℕ
snapshot_at joined = if joined % snapshot_every == 0 then Some (joined / snapshot_every) else None

-- ---- What an import leaves of it

-- an image with another log and other bytes in one area
abbrev pub with_log_and : Area → List ℕ → List ℕ → Image → Image
with_log_and area log bytes image = with_content area bytes (with_content Log log image)

-- No area but LOG reads otherwise; where a snapshot is due, its area too.
abbrev pub OthersReadBut : Option ℕ → Option Image → Option Image → Type 0
OthersReadBut None old new = OthersRead Log old new
OthersReadBut (Some number) old new =
    (log : List ℕ) × (bytes : List ℕ) × (new ≡ option_map (with_log_and (area_of number) log bytes) old)

-- The areas of snapshots are left as they were: as the disk reads, where it tells, and in each image that a crash leaves, at each moment.
pub record LeavesSnapshots {S : Type 0} (reads_as : S → Option Image) (images : S → Image → Type 0) (moment : S → ℕ) (left_since : S → ℕ → Image → Type 0)
    (old new : S) : Type 0 where
  pub reads : OthersRead Log (reads_as old) (reads_as new)
  pub moments : IsSome (reads_as old) → LeavesOnly moment left_since old new (HasAnyArea Log (images old))

-- only the area of the snapshot that is due reads otherwise
abbrev pub OnlySnapshotReads : Option ℕ → Option Image → Option Image → Type 0
OnlySnapshotReads None old new = new ≡ old
OnlySnapshotReads (Some number) old new = OthersRead (area_of number) old new

-- The area of a number holds the snapshot with this number of the tip of these blocks.
pub record HasSnapshot (kept : List Block) (number : ℕ) (now : Image) : Type 0 where
  pub s : Snapshot
  pub holds : Holds (content (area_of number) now) s
  pub number_is : s.number ≡ number
  pub tip : tip_place kept ≡ Some s.tip
  pub of_blocks : IsOfBlocks kept s

-- the log is settled with the record of an item after these, and some ext in it
abbrev pub IsSettledWith : List Record → List ℕ → Option Image → (Image → Type 0) → Type 0
IsSettledWith records item reads images = (ext : List ℕ) × (place : ℕ) × IsSettled place (records ++ block_record item ext ∷ []) reads images

-- Memory was wanted for a snapshot that was due when so many blocks had joined: the record of the block that joined is on the disk.
pub record LacksSnapshot (count place : ℕ) (item : List ℕ) (stop : ReadStop) (reads_old reads_new : Option Image) (old new : Image → Type 0) : Type 0 where
  pub memory : stop ≡ NoMemory
  pub due : IsSome (snapshot_at count)
  pub joined : (records : List Record) → IsSettled place records reads_old old → IsSettledWith records item reads_new new

-- ---- Which one is loaded

-- the number after an open gate
abbrev pub number_in : List ℕ → Option ℕ
number_in bytes = if has_open_gate bytes then Some (count_at bytes 1) else None

-- the area with the greater number, where one has any
abbrev pub area_with : Option ℕ → Option ℕ → Option Area
area_with None None = None
area_with (Some a) None = Some SnapA
area_with None (Some b) = Some SnapB
area_with (Some a) (Some b) = if nat_lt a b then Some SnapB else Some SnapA

abbrev pub newest : Image → Option Area
newest image = area_with (number_in image.snap_a) (number_in image.snap_b)

-- the place of the tip, as it stands after the number
abbrev pub tip_in : List ℕ → ℕ
tip_in bytes = count_at bytes 5
