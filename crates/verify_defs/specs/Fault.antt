-- What is wrong first of an image of the disk (docs/STORE.md, "Whether a store is sound").
use Rattle.std.specs.Prelude.{◌≡◌, ◌≢◌, ◌⊎◌, ◌↔◌, ℕ, suc, ◌+◌, ◌-◌, ◌*◌, ◌/◌, ◌==◌, ◌<◌, ◌≤◌, nat_lt, true, List, [], ◌∷◌, Contains, length, Option, Some, None, IsSomeAnd, if◌then◌else◌}
use Rattle.std.specs.Option.{option_map}
use Rattle.std.specs.List.{All}
use Rattle.chain_defs.specs.Schema.{OutPoint, Block}
use Rattle.chain_defs.specs.Kept.{block_hash, block_at}
use Rattle.chain_defs.specs.Row.{Row, live_row}
use Rattle.chain_defs.specs.Ext.{count_at}
use Rattle.outside.specs.declared.disk.Area.{Area}
use Rattle.outside.specs.declared.disk.Area.TheVariants.{Log, SnapA, SnapB}
use Rattle.outside.specs.Image.{Image}
use Rattle.verdict_defs.specs.Verdict.{joins}
use Rattle.verdict_defs.specs.Chain.{Chain, verdict_over}
use Rattle.disk_defs.specs.Log.{Record, LogContent, record_bytes, is_of_edition, parts_of_body, log_of, stop_of_log}
use Rattle.disk_defs.specs.Snapshot.{Snapshot, has_open_gate, Holds, area_of, IsSoundArea}
use Rattle.store_defs.specs.Store.{ext_over, chain_before}
use Rattle.verify_defs.specs.declared.fault.ExtPart.{ExtPart}
use Rattle.verify_defs.specs.declared.fault.ExtPart.TheVariants.{FeeCount, Fee, RowCount, Row as a_row}
use Rattle.verify_defs.specs.declared.fault.Cause.{Cause}
use Rattle.verify_defs.specs.declared.fault.Cause.TheVariants.{NoRecord, StaysOut, OtherExt, NoSnapshot, OtherArea, OtherRow}
use Rattle.verify_defs.specs.declared.fault.Fault.{Fault}

-- ---- An ext that is not its block's own

-- the first offset at which two lists of bytes differ, which may be the end of the shorter one
unfoldable pub first_difference : List ℕ → List ℕ → Option ℕ
first_difference [] [] = None
first_difference [] (b ∷ other) = Some 0
first_difference (a ∷ one) [] = Some 0
first_difference (a ∷ one) (b ∷ other) = if a == b then option_map suc (first_difference one other) else Some 0

-- what stands at an offset of an ext of so many fees (docs/STORE.md, "The ext")
unfoldable pub part_at : ℕ → ℕ → ExtPart
part_at fees at =
    if nat_lt at 4 then FeeCount
    else if nat_lt at (4 + 8 * fees) then Fee ((at - 4) / 8)
    else if nat_lt at (8 + 8 * fees) then RowCount
    else a_row ((at - (8 + 8 * fees)) / 161)

-- the first part of an ext that is not as in a block's own
abbrev pub other_part : List ℕ → List ℕ → Option ExtPart
other_part own ext = option_map (part_at (count_at own 0)) (first_difference own ext)

-- ---- The record of a block

-- an item that is kept beside these bytes has not joined a chain: it could not, or the bytes are not its own ext
abbrev pub cause_beside : Chain → List ℕ → List ℕ → Option Cause
cause_beside before item ext =
    let verdict = verdict_over before item in
    let place = length before.blocks in
    if joins verdict then option_map (OtherExt place) (other_part (ext_over before item) ext) else Some (StaysOut place verdict)

abbrev pub cause_of_parts : Chain → Option (List ℕ × List ℕ) → Option Cause
cause_of_parts before None = Some NoRecord
cause_of_parts before (Some parts) = cause_beside before parts.0 parts.1

-- Why the block of a record has not joined over the blocks before it, with the ext beside it, if it has not.
abbrev pub cause_of_record : Chain → Record → Option Cause
cause_of_record before r = cause_of_parts before (parts_of_body r.body)

-- ---- LOG

abbrev pub fault_in : Area → ℕ → Cause → Fault
fault_in area at cause = record { place = record { area = area; at = at }; cause = cause }

-- The first record of a block that has not joined, of these, which stand one after the other from a place on. So many blocks of the log come before them.
abbrev pub fault_of_later : LogContent → ℕ → ℕ → List Record → Option Fault
fault_of_later log count place [] = None
fault_of_later log count place (r ∷ records) =
    let next = place + length (record_bytes r) in
    if is_of_edition r then fault_of_later log count next records
    else elim (cause_of_record (chain_before log count) r) [
      | None ↦ fault_of_later log (suc count) next records
      | Some cause ↦ Some (fault_in Log (place + 6) cause)
    ]

-- where the records after the genesis begin
abbrev pub later_place : LogContent → ℕ
later_place log = 14 + length log.specification + length (record_bytes (record { kind = 2; body = log.genesis }))

abbrev pub fault_of_content : ℕ → Option LogContent → Option Fault
fault_of_content stop None = Some (fault_in Log stop NoRecord)
fault_of_content stop (Some log) = fault_of_later log 1 (later_place log) log.records

-- What is wrong first of LOG: where it stops being a log, or the body of the first block that has not joined.
unfoldable pub fault_of_log : List ℕ → Option Fault
fault_of_log bytes = fault_of_content (stop_of_log bytes) (log_of bytes)

-- ---- An area of snapshots

-- A row is one of these kept blocks: its block is among them, and what it occupies is within its capacity.
pub record IsRowOf (kept : List Block) (row : Row) : Type 0 where
  pub block : row.block < length kept
  pub occupied : row.occupied ≤ row.capacity

-- A snapshot names these kept blocks: its tip is among them, and each row is one of them.
pub record NamesBlocks (kept : List Block) (s : Snapshot) : Type 0 where
  pub tip : IsSomeAnd (block_at kept s.tip) (λ b. block_hash b ≡ s.hash)
  pub rows : All (λ it. IsRowOf kept it.1) s.rows

-- a snapshot has a row of an out-point exactly where the branch of its tip has it
abbrev pub HasItsRow : List Block → Snapshot → OutPoint → Type 0
HasItsRow kept s o = (row : Row) → Contains s.rows (o, row) ↔ (live_row kept s.tip o ≡ Some row)

-- An open area is not sound over kept blocks for this cause.
abbrev pub IsCauseIn : List Block → Area → List ℕ → Cause → Type 0
IsCauseIn kept area bytes NoRecord = ⊥
IsCauseIn kept area bytes (StaysOut place verdict) = ⊥
IsCauseIn kept area bytes (OtherExt place part) = ⊥
IsCauseIn kept area bytes NoSnapshot = (s : Snapshot) → Holds bytes s → NamesBlocks kept s → ⊥
IsCauseIn kept area bytes (OtherArea number) = (s : Snapshot) × Holds bytes s × (s.number ≡ number) × (area_of s.number ≢ area)
IsCauseIn kept area bytes (OtherRow hash index) =
    (s : Snapshot) × Holds bytes s × NamesBlocks kept s × (area_of s.number ≡ area) × (HasItsRow kept s (record { tx_hash = hash; index = index }) → ⊥)

pub record IsFaultOfArea (kept : List Block) (area : Area) (bytes : List ℕ) (fault : Fault) : Type 0 where
  pub gate : has_open_gate bytes ≡ true
  pub at : fault.place ≡ record { area = area; at = 0 }
  pub cause : IsCauseIn kept area bytes fault.cause

-- ---- The whole

-- LOG keeps just these blocks, and each after the genesis has joined over those before it.
pub record HasSoundLog (blocks : List Block) (bytes : List ℕ) : Type 0 where
  pub log : LogContent
  pub is_log : log_of bytes ≡ Some log
  pub keeps : log.blocks ≡ blocks
  pub good : fault_of_log bytes ≡ None

-- What is wrong first of an image: of LOG, or where that is sound of SNAP_A, or where that is sound too of SNAP_B.
abbrev pub IsFirstFault : Image → Fault → Type 0
IsFirstFault image fault = (fault_of_log image.log ≡ Some fault)
    ⊎ ((blocks : List Block) × HasSoundLog blocks image.log × IsFaultOfArea blocks SnapA image.snap_a fault)
    ⊎ ((blocks : List Block) × HasSoundLog blocks image.log × IsSoundArea blocks SnapA image.snap_a × IsFaultOfArea blocks SnapB image.snap_b fault)
