-- A snapshot: the live cells of a branch as an area of the disk keeps them (docs/STORE.md, "A snapshot").
use Rattle.std.specs.Prelude.{◌≡◌, ℕ, ◌^◌, ◌<◌, ◌%◌, ◌==◌, ◌&&◌, nat_lt, Bool, IsTrue, List, ◌∷◌, ◌++◌, length, map, slice_index, IsSomeAnd, if◌then◌else◌}
use Rattle.std.specs.List.{All, concat}
use Rattle.std.specs.Int.{w32, w64, to_le_bytes}
use Rattle.chain_defs.specs.Schema.{OutPoint, Block}
use Rattle.chain_defs.specs.Kept.{block_at, block_hash}
use Rattle.chain_defs.specs.Row.{Row, live_row, IsRising, ListsRows}
use Rattle.chain_defs.specs.Ext.{row_bytes}
use Rattle.chain_defs.specs.Fits.{FitsRow}
use Rattle.outside.specs.declared.disk.Area.{Area}
use Rattle.outside.specs.declared.disk.Area.TheVariants.{SnapA, SnapB}

pub record Snapshot : Type 0 where
  pub number : ℕ
  -- the place of the tip among the kept blocks, and its hash
  pub tip : ℕ
  pub hash : List ℕ
  -- the live cells of the tip's branch
  pub rows : List (OutPoint × Row)

-- ---- Its bytes

-- What stands after the gate: number, tip, the tip's hash, a count of rows, the rows.
unfoldable pub body_bytes : Snapshot → List ℕ
body_bytes s =
    to_le_bytes w32 s.number ++ to_le_bytes w32 s.tip ++ s.hash ++ to_le_bytes w64 (length s.rows) ++ concat (map row_bytes s.rows)

-- An open gate is the byte 1.
abbrev pub snapshot_bytes : Snapshot → List ℕ
snapshot_bytes s = 1 ∷ body_bytes s

-- The form: numbers, hashes and rows fit their bytes, and the rows are in rising order of their out-points, no two of one.
pub record HasForm (s : Snapshot) : Type 0 where
  pub number : s.number < 2 ^ 32
  pub tip : s.tip < 2 ^ 32
  pub hash : length s.hash ≡ 32
  pub few : length s.rows < 2 ^ 64
  pub fits : All FitsRow s.rows
  pub rising : IsRising s.rows

-- ---- An area

-- The gate of an area is open: its first byte is 1, and it is longer than one byte.
abbrev pub has_open_gate : List ℕ → Bool
has_open_gate bytes = (slice_index bytes 0 == 1) && nat_lt 1 (length bytes)

-- The bytes of an area begin with this snapshot. What follows is not looked at.
pub record Holds (bytes : List ℕ) (s : Snapshot) : Type 0 where
  pub form : HasForm s
  pub after : List ℕ
  pub parts : bytes ≡ snapshot_bytes s ++ after

-- the area of the snapshot with this number: SNAP_A where it is odd
abbrev pub area_of : ℕ → Area
area_of number = if number % 2 == 1 then SnapA else SnapB

-- ---- Of kept blocks

-- A snapshot is one of these kept blocks: its tip is among them, and its rows are those of the tip's branch.
pub record IsOfBlocks (kept : List Block) (s : Snapshot) : Type 0 where
  pub tip : IsSomeAnd (block_at kept s.tip) (λ b. block_hash b ≡ s.hash)
  pub rows : ListsRows (live_row kept s.tip) s.rows

-- An area is sound: where its gate is open, it holds a snapshot of the kept blocks that belongs there.
pub record HoldsSound (kept : List Block) (area : Area) (bytes : List ℕ) (s : Snapshot) : Type 0 where
  pub holds : Holds bytes s
  pub here : area_of s.number ≡ area
  pub of_blocks : IsOfBlocks kept s

abbrev pub IsSoundArea : List Block → Area → List ℕ → Type 0
IsSoundArea kept area bytes = IsTrue (has_open_gate bytes) → (s : Snapshot) × HoldsSound kept area bytes s
