-- What the steps of a `MemDisk` leave of one area, and how what it stores stands for it.
use Rattle.std.specs.Prelude.{◌≡◌, ◌⊎◌, ◌≤◌, ◌+◌, ℕ, List, [], ◌∷◌, length, take, slice_set}
use Rattle.outside.specs.declared.disk.Area.{Area}
use Rattle.outside.specs.Image.{content}
use Rattle.outside.specs.Disk.{Torn, Cut}
use Rattle.outside_mem.specs.MemoryDisk.{Step, Wrote, Shortened, Synced, Crashed, reads}
use Rattle.outside_mem.specs.Stored.{Stored, Parts, shown, part}

-- bytes of this area that were there before a step in some area, or that come of them by it where it was in this one
abbrev pub LeftBy : Area → Area → (List ℕ → List ℕ → Type 0) → (List ℕ → Type 0) → List ℕ → Type 0
LeftBy area other step left bytes = left bytes ⊎ ((other ≡ area) × ((before : List ℕ) × left before × step before bytes))

-- bytes of this area that the steps leave: `Leaves` is each area's
abbrev pub LeavesIn : Area → List Step → List ℕ → Type 0
LeavesIn area [] bytes = bytes ≡ []
LeavesIn area (Wrote other at piece lost ∷ earlier) bytes = LeftBy area other (Torn at (length piece + lost)) (LeavesIn area earlier) bytes
LeavesIn area (Shortened other len left ∷ earlier) bytes = LeftBy area other (Cut len) (LeavesIn area earlier) bytes
LeavesIn area (Synced other ∷ earlier) bytes = (other ≡ area → bytes ≡ content area (reads earlier)) × LeavesIn area earlier bytes
LeavesIn area (Crashed left ∷ earlier) bytes = bytes ≡ content area left

-- what is stored of an area reads as the steps say, and a crash may leave each prefix of it that is long enough
pub record HoldsIn (area : Area) (steps : List Step) (stored : Stored) : Type 0 where
  pub as_read : shown stored ≡ content area (reads steps)
  pub at_least : stored.least ≤ stored.len
  pub within : stored.len ≤ length stored.bytes
  pub leaves : (kept : ℕ) → stored.least ≤ kept → LeavesIn area steps (take kept stored.bytes)
  pub no_less : (bytes : List ℕ) → LeavesIn area steps bytes → stored.least ≤ length bytes

abbrev pub Holds : List Step → Parts → Type 0
Holds steps parts = (area : Area) → HoldsIn area steps (part area parts)

-- a crash may leave any byte at this place of the area
abbrev pub MayTear : Area → List Step → ℕ → Type 0
MayTear area steps at = (bytes : List ℕ) (byte : ℕ) → LeavesIn area steps bytes → LeavesIn area steps (slice_set bytes at byte)
