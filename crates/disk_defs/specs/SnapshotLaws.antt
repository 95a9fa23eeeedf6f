-- What the bytes of an area tell, and which are sound (docs/STORE.md, "A snapshot", "Sound").
use Rattle.std.specs.Prelude.{◌≡◌, ◌≢◌, ℕ, ◌+◌, ◌%◌, ◌≤◌, true, false, List, [], ◌∷◌, ◌++◌, length, Option, Some}
use Rattle.chain_defs.specs.Schema.{OutPoint, Block}
use Rattle.chain_defs.specs.Kept.{block_at, block_hash}
use Rattle.chain_defs.specs.Row.{Row, live_row, ListsRows}
use Rattle.chain_defs.specs.Ext.{count_at}
use Rattle.outside.specs.declared.disk.Area.{Area}
use Rattle.outside.specs.declared.disk.Area.TheVariants.{Log, SnapA, SnapB}
use Rattle.disk_defs.specs.Snapshot.{Snapshot, HasForm, snapshot_bytes, has_open_gate, Holds, area_of, IsOfBlocks, IsSoundArea}

-- Law: bytes hold at most one snapshot.
abbrev pub BytesDetermineSnapshots : Type 0
BytesDetermineSnapshots = (bytes : List ℕ) (one other : Snapshot) → Holds bytes one → Holds bytes other → one ≡ other

-- Law: its gate is open, and its number stands after the gate.
pub record IsOpenWith (bytes : List ℕ) (s : Snapshot) : Type 0 where
  pub gate : has_open_gate bytes ≡ true
  pub number : count_at bytes 1 ≡ s.number

abbrev pub OpensItsGate : Type 0
OpensItsGate = (bytes : List ℕ) (s : Snapshot) → Holds bytes s → IsOpenWith bytes s

-- Law: the bytes of a snapshot of the form hold it, whatever stands after them.
abbrev pub FindsItself : Type 0
FindsItself = (s : Snapshot) (after : List ℕ) → HasForm s → Holds (snapshot_bytes s ++ after) s

-- Law: a snapshot of kept blocks is one of these and one block more.
abbrev pub StaysOfBlocks : Type 0
StaysOfBlocks = (kept : List Block) (b : Block) (s : Snapshot) → IsOfBlocks kept s → IsOfBlocks (kept ++ b ∷ []) s

-- Law: so a sound area stays sound as blocks join.
abbrev pub StaysSound : Type 0
StaysSound = (kept : List Block) (b : Block) (area : Area) (bytes : List ℕ) → IsSoundArea kept area bytes → IsSoundArea (kept ++ b ∷ []) area bytes

-- ---- Areas

-- Law: snapshots with odd numbers go to SNAP_A, and those with even ones to SNAP_B.
pub record GoesBy (number : ℕ) : Type 0 where
  pub odd : number % 2 ≡ 1 → area_of number ≡ SnapA
  pub even : number % 2 ≡ 0 → area_of number ≡ SnapB

abbrev pub GoesByParity : Type 0
GoesByParity = (number : ℕ) → GoesBy number

-- Law: none goes to LOG,
abbrev pub NoneInTheLog : Type 0
NoneInTheLog = (number : ℕ) → area_of number ≢ Log

-- and the next one goes to the other area.
abbrev pub AreasTakeTurns : Type 0
AreasTakeTurns = (number : ℕ) → area_of (number + 1) ≢ area_of number

-- ---- Sound areas

-- Law: bytes without an open gate are sound in each area, whatever they are.
abbrev pub ClosedIsSound : Type 0
ClosedIsSound = (kept : List Block) (area : Area) (bytes : List ℕ) → has_open_gate bytes ≡ false → IsSoundArea kept area bytes

-- Law: bytes that hold a snapshot of the kept blocks are sound in the area of its number,
abbrev pub HeldIsSound : Type 0
HeldIsSound = (kept : List Block) (bytes : List ℕ) (s : Snapshot) → Holds bytes s → IsOfBlocks kept s → IsSoundArea kept (area_of s.number) bytes

-- as are those of which it is made, whatever follows them.
abbrev pub ItsBytesAreSound : Type 0
ItsBytesAreSound = (kept : List Block) (s : Snapshot) (after : List ℕ) → HasForm s → IsOfBlocks kept s
    → IsSoundArea kept (area_of s.number) (snapshot_bytes s ++ after)

-- A snapshot belongs to an area over kept blocks: the area is that of its number, and the snapshot is one of these blocks.
pub record Belongs (kept : List Block) (area : Area) (s : Snapshot) : Type 0 where
  pub here : area_of s.number ≡ area
  pub of_blocks : IsOfBlocks kept s

-- Law: what a sound area holds belongs there.
abbrev pub SoundHoldsItsOwn : Type 0
SoundHoldsItsOwn = (kept : List Block) (area : Area) (bytes : List ℕ) (s : Snapshot) → IsSoundArea kept area bytes → Holds bytes s → Belongs kept area s

-- Law: after the open gate of a sound area stands a number that belongs there, and as many bytes are there as come before the rows.
abbrev pub SoundHasItsNumber : Type 0
SoundHasItsNumber = (kept : List Block) (area : Area) (bytes : List ℕ) → IsSoundArea kept area bytes → has_open_gate bytes ≡ true
    → (area_of (count_at bytes 1) ≡ area) × (49 ≤ length bytes)

-- Law: with the place and the hash of a kept block, and the rows of its branch, a snapshot is one of the kept blocks.
abbrev pub IsOfItsTip : Type 0
IsOfItsTip = (kept : List Block) (s : Snapshot) (tip : Block) (rows : OutPoint → Option Row) → block_at kept s.tip ≡ Some tip → block_hash tip ≡ s.hash
    → ((o : OutPoint) → rows o ≡ live_row kept s.tip o) → ListsRows rows s.rows → IsOfBlocks kept s

-- Law: rows that are just those of a snapshot of the kept blocks are the rows of its tip's branch.
abbrev pub ListsItsRows : Type 0
ListsItsRows = (kept : List Block) (s : Snapshot) (rows : OutPoint → Option Row) → IsOfBlocks kept s → ListsRows rows s.rows
    → (o : OutPoint) → rows o ≡ live_row kept s.tip o
