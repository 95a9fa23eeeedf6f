-- What an area is read as, by the answer.
use Rattle.std.specs.Prelude.{◌≡◌, ℕ, ◌+◌, ◌*◌, ◌^◌, ◌<◌, ◌≤◌, Bool, true, false, List, ◌∷◌, ◌++◌, length, take, drop, Option, Some, None, Result, Ok, Err}
use Rattle.std.specs.List.{All, slice_range}
use Rattle.std.specs.Str.{bytes_eq}
use Rattle.std.specs.Int.{w32, w64, to_le_bytes, from_le_bytes}
use Rattle.chain_defs.specs.Schema.{OutPoint}
use Rattle.chain_defs.specs.Row.{Row, ListsRows}
use Rattle.chain_defs.specs.Ext.{count_at}
use Rattle.cell_state.specs.State.{StateValue, rows}
use Rattle.chain_tree.specs.declared.entry.Entry.{Entry}
use Rattle.chain_tree.specs.Entries.{entry_at}
use Rattle.outside.specs.declared.disk.Area.{Area}
use Rattle.outside.specs.declared.disk.Damage.{Damage}
use Rattle.outside.specs.declared.disk.ReadStop.{ReadStop}
use Rattle.outside.specs.declared.disk.ReadStop.TheVariants.{DiskFault, NoMemory, Damaged}
use Rattle.disk_defs.specs.Snapshot.{Snapshot, has_open_gate, Holds}
use Rattle.snapshots.specs.declared.head.Head.{Head}
use Rattle.snapshots.specs.Rows.{IsHeld}

-- what is damaged is named by where the snapshot begins
abbrev pub damage_in : Area → Damage
damage_in area = record { area = area; at = 0 }

-- ---- The number

-- The number stands after an open gate; where the area is too short for it, it is damaged.
abbrev pub AnswersNumber : Area → List ℕ → Result (Option ℕ) ReadStop → Type 0
AnswersNumber area bytes (Ok None) = has_open_gate bytes ≡ false
AnswersNumber area bytes (Ok (Some number)) = (has_open_gate bytes ≡ true) × (5 ≤ length bytes) × (number ≡ count_at bytes 1)
AnswersNumber area bytes (Err DiskFault) = Unit
AnswersNumber area bytes (Err NoMemory) = ⊥
AnswersNumber area bytes (Err (Damaged damage)) = (has_open_gate bytes ≡ true) × (length bytes < 5) × (damage ≡ damage_in area)

-- ---- What stands before the rows

-- how many rows follow, as it stands before them
abbrev pub row_count : List ℕ → ℕ
row_count bytes = from_le_bytes w64 (slice_range bytes 41 49)

-- The area is as long as so many rows take.
abbrev pub HasSpaceFor : ℕ → List ℕ → Type 0
HasSpaceFor count bytes = 49 + 161 * count ≤ length bytes

-- The bytes begin with an open gate and these numbers and hash.
pub record IsHead (bytes : List ℕ) (head : Head) : Type 0 where
  pub number : head.number < 2 ^ 32
  pub tip : head.tip < 2 ^ 32
  pub hash : length head.hash ≡ 32
  pub count : head.count < 2 ^ 64
  pub there : 49 ≤ length bytes
  pub counted : head.count ≡ row_count bytes
  pub parts : take 49 bytes ≡ 1 ∷ (to_le_bytes w32 head.number ++ (to_le_bytes w32 head.tip ++ (head.hash ++ to_le_bytes w64 head.count)))

abbrev pub AnswersHead : Area → List ℕ → Result (Option Head) ReadStop → Type 0
AnswersHead area bytes (Ok None) = has_open_gate bytes ≡ false
AnswersHead area bytes (Ok (Some head)) = IsHead bytes head
AnswersHead area bytes (Err DiskFault) = Unit
AnswersHead area bytes (Err NoMemory) = ⊥
AnswersHead area bytes (Err (Damaged damage)) = (has_open_gate bytes ≡ true) × (length bytes < 49) × (damage ≡ damage_in area)

abbrev pub has_hash : Option Entry → List ℕ → Bool
has_hash None hash = false
has_hash (Some entry) hash = bytes_eq entry.hash hash

-- an entry stands at this place, and has this hash
abbrev pub has_tip : List Entry → ℕ → List ℕ → Bool
has_tip entries tip hash = has_hash (entry_at entries tip) hash

-- ---- The rows

-- The area has the bytes of so many rows, and these are they.
abbrev pub AreRowBytes : ℕ → List ℕ → List ℕ → Type 0
AreRowBytes count bytes found = HasSpaceFor count bytes × (found ≡ take (161 * count) (drop 49 bytes))

-- By the stop: the area is too short for so many rows. Memory is taken only where it is not.
abbrev pub AnswersShort : Area → ℕ → List ℕ → ReadStop → Type 0
AnswersShort area count bytes DiskFault = Unit
AnswersShort area count bytes NoMemory = HasSpaceFor count bytes
AnswersShort area count bytes (Damaged damage) = (length bytes < 49 + 161 * count) × (damage ≡ damage_in area)

-- ---- The whole

-- A snapshot is one of these entries: its tip has its hash, and each row is one of the kept blocks.
pub record IsOfTree (entries : List Entry) (s : Snapshot) : Type 0 where
  pub tip : has_tip entries s.tip s.hash ≡ true
  pub rows : All (IsHeld (length entries)) s.rows

-- The bytes hold this snapshot of the tree, and it is read as this number, this tip and these rows, each in one step.
pub record IsRead (entries : List Entry) (bytes : List ℕ) (before after number tip : ℕ) (state : StateValue) (s : Snapshot) : Type 0 where
  pub holds : Holds bytes s
  pub of_tree : IsOfTree entries s
  pub number_is : number ≡ s.number
  pub tip_is : tip ≡ s.tip
  pub rows : ListsRows (rows state) s.rows
  pub counted : row_count bytes ≡ length s.rows
  pub steps : after ≡ before + length s.rows

-- The gate is open, but the bytes hold no snapshot of the tree.
pub record IsDamaged (entries : List Entry) (bytes : List ℕ) : Type 0 where
  pub gate : has_open_gate bytes ≡ true
  pub none : (s : Snapshot) → Holds bytes s → IsOfTree entries s → ⊥

-- No more steps were taken than the area has space for rows.
abbrev pub FewSteps : List ℕ → ℕ → ℕ → Type 0
FewSteps bytes before after = (before ≤ after) × (161 * after ≤ 161 * before + length bytes)

-- By the answer: no open gate, the snapshot that the area holds, or that it holds none. Memory is taken only where the area is as long as its count of
-- rows says.
abbrev pub AnswersSnapshot : Area → List Entry → List ℕ → ℕ → ℕ → Result (Option (ℕ × ℕ × StateValue)) ReadStop → Type 0
AnswersSnapshot area entries bytes before after (Ok None) = (has_open_gate bytes ≡ false) × (after ≡ before)
AnswersSnapshot area entries bytes before after (Ok (Some (number, tip, state))) = (s : Snapshot) × IsRead entries bytes before after number tip state s
AnswersSnapshot area entries bytes before after (Err DiskFault) = after ≡ before
AnswersSnapshot area entries bytes before after (Err NoMemory) =
    (has_open_gate bytes ≡ true) × HasSpaceFor (row_count bytes) bytes × (after ≡ before)
AnswersSnapshot area entries bytes before after (Err (Damaged damage)) = IsDamaged entries bytes × (damage ≡ damage_in area) × FewSteps bytes before after

-- The tip and each row are of kept blocks, whatever the disk tells.
pub record AreWithin (entries : List Entry) (tip : ℕ) (state : StateValue) : Type 0 where
  pub tip_is : tip < length entries
  pub rows : (o : OutPoint) (row : Row) → rows state o ≡ Some row → IsHeld (length entries) (o, row)
