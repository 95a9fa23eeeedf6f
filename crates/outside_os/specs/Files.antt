-- What the calls on a file do to what it reads as, and on a folder to its files (docs/DECISIONS.md, "The outside").
use Rattle.std.specs.Prelude.{◌≡◌, ◌≢◌, ℕ, ◌+◌, ◌≤◌, Bool, true, false, List, ◌++◌, None, Some, length, take, drop, IfSome, IsSome}
use Rattle.outside.specs.Causes.{Rose}
use Rattle.std.specs.declared.option.Option.{Option}
use Rattle.outside.specs.declared.disk.Area.{Area}
use Rattle.outside.specs.declared.disk.Area.TheVariants.{Log, SnapA, SnapB}
use Rattle.outside.specs.Disk.{written, Torn, Cut}

-- A file: what it reads as, and what it read as when it was last synced, each where that is known.
pub record Held : Type 0 where
  pub reads_as : Option (List ℕ)
  pub synced : Option (List ℕ)

-- Where `old` tells what it reads as, so does `new`, and this holds of the two.
abbrev pub Becomes : (List ℕ → List ℕ → Type 0) → Option (List ℕ) → Option (List ℕ) → Type 0
Becomes step old new = IfSome old (λ before. (after : List ℕ) × (new ≡ Some after) × step before after)

-- a piece was written over what was there, from within it or its end on
abbrev pub Writes : ℕ → List ℕ → List ℕ → List ℕ → Type 0
Writes at piece before after = at ≤ length before → after ≡ written at piece before

-- so many bytes are torn, from within what was there or its end on
abbrev pub Tears : ℕ → ℕ → List ℕ → List ℕ → Type 0
Tears at size before after = at ≤ length before → Torn at size before after

-- what was there is cut to a length that it had
abbrev pub Shortens : ℕ → List ℕ → List ℕ → Type 0
Shortens len before after = len ≤ length before → after ≡ take len before

-- a part of the end that was to be cut may be there
abbrev pub CutsInPart : ℕ → List ℕ → List ℕ → Type 0
CutsInPart len before after = len ≤ length before → Cut len before after

-- what a call changes of a file that is not a sync
pub record Changes (step : List ℕ → List ℕ → Type 0) (old new : Held) : Type 0 where
  pub bytes : Becomes step old.reads_as new.reads_as
  pub synced : new.synced ≡ old.synced

-- a file that was synced
abbrev pub after_sync : Held → Held
after_sync file = record { reads_as = file.reads_as; synced = file.reads_as }

-- these bytes are what stands from `at` on in `bytes`, as many as there are and fit into `room`
abbrev pub GivesAll : ℕ → ℕ → List ℕ → List ℕ → Type 0
GivesAll at room given bytes = given ≡ take room (drop at bytes)

-- The first bytes of a piece were written over what was there, and after them its range is torn.
pub record WrittenInPart (at : ℕ) (piece : List ℕ) (done : ℕ) (before after : List ℕ) : Type 0 where
  pub torn : Torn at (length piece) before after
  pub prefix : take (at + done) after ≡ take at before ++ take done piece

abbrev pub WritesInPart : ℕ → List ℕ → ℕ → List ℕ → List ℕ → Type 0
WritesInPart at piece done before after = at ≤ length before → WrittenInPart at piece done before after

-- ---- The files of a folder

-- a file that was opened: what it holds, and how often a call of it has failed
pub record OpenFile : Type 0 where
  pub held : Held
  pub failures : ℕ

-- the files that were opened, each by its area, and whether a sync has failed
pub record Opened : Type 0 where
  pub log : Option OpenFile
  pub snap_a : Option OpenFile
  pub snap_b : Option OpenFile
  pub is_doubtful : Bool

abbrev pub nothing_opened : Opened
nothing_opened = record { log = None; snap_a = None; snap_b = None; is_doubtful = false }

abbrev pub file_of : Area → Opened → Option OpenFile
file_of Log opened = opened.log
file_of SnapA opened = opened.snap_a
file_of SnapB opened = opened.snap_b

abbrev pub with_file : Area → Option OpenFile → Opened → Opened
with_file Log file opened = record opened { log = file }
with_file SnapA file opened = record opened { snap_a = file }
with_file SnapB file opened = record opened { snap_b = file }

-- a file that was opened is as it was
abbrev pub Stays : Option OpenFile → Option OpenFile → Type 0
Stays old new = IfSome old (λ file. new ≡ Some file)

-- so are the files of the other areas
pub record OthersStay (area : Area) (old new : Opened) : Type 0 where
  pub log : area ≢ Log → Stays old.log new.log
  pub snap_a : area ≢ SnapA → Stays old.snap_a new.snap_a
  pub snap_b : area ≢ SnapB → Stays old.snap_b new.snap_b

-- the file of this area was taken from its place: the one that was opened before, or else a new one
pub record IsLent (area : Area) (file : OpenFile) (old new : Opened) : Type 0 where
  pub was : IfSome (file_of area old) (λ before. before ≡ file)
  pub others : OthersStay area old new
  pub no_doubt : old.is_doubtful ≡ false
  pub still_none : new.is_doubtful ≡ false

-- No file was taken from its place. Where the file of this area was opened, the log was not, or a sync has failed.
pub record KeepsAll (area : Area) (old new : Opened) : Type 0 where
  pub file : IfSome (file_of area old) (λ before. (file_of area new ≡ Some before) × (old.is_doubtful ≡ false → IsSome old.log → ⊥))
  pub others : OthersStay area old new
  pub doubtful : old.is_doubtful ≡ true → new ≡ old
  pub still : new.is_doubtful ≡ old.is_doubtful

-- A call reached the file of this area, the one that was opened before or else one that it opened itself, and did this to it.
pub record Reaches (area : Area) (does : Held → Held → Type 0) (old new : Opened) : Type 0 where
  pub before : OpenFile
  pub after : OpenFile
  pub was : IfSome (file_of area old) (λ file. file ≡ before)
  pub is : file_of area new ≡ Some after
  pub step : does before.held after.held
  pub others : OthersStay area old new
  pub no_doubt : old.is_doubtful ≡ false
  pub still_none : new.is_doubtful ≡ false

-- A call failed: after it this holds of the file of this area, where it was opened before; and then the file has failed,
-- or the log was not opened, or an earlier sync has failed.
pub record FailsAt (area : Area) (step : Held → Held → Type 0) (old new : Opened) : Type 0 where
  pub file : IfSome (file_of area old) (λ before. (after : OpenFile) × (file_of area new ≡ Some after) × step before.held after.held
      × (old.is_doubtful ≡ false → IsSome old.log → Rose before.failures after.failures))
  pub others : OthersStay area old new
  pub doubtful : old.is_doubtful ≡ true → new ≡ old

abbrev pub Same : Held → Held → Type 0
Same before after = after ≡ before

-- what the calls do to the file of their area
abbrev pub HasLength : ℕ → Held → Held → Type 0
HasLength n before after = (after ≡ before) × IfSome before.reads_as (λ bytes. n ≡ length bytes)

abbrev pub HasReadFile : ℕ → ℕ → List ℕ → Held → Held → Type 0
HasReadFile at room given before after = (after ≡ before) × IfSome before.reads_as (GivesAll at room given)

abbrev pub IsSynced : Held → Held → Type 0
IsSynced before after = after ≡ after_sync before

-- A `FolderDisk`: its files, and how often it has failed.
pub record FolderState : Type 0 where
  pub files : Opened
  pub failed : ℕ
