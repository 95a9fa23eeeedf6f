-- What follows of a crash's images, whatever the disk (docs/DECISIONS.md, "The outside").
use Rattle.std.specs.Prelude.{◌≡◌, ◌≢◌, ℕ, ◌+◌, ◌≤◌, List, ◌++◌, length, take}
use Rattle.outside.specs.declared.disk.Area.{Area}
use Rattle.outside.specs.Image.{Image, with_content}
use Rattle.outside.specs.Disk.{written, Torn, Cut, AreaKept}

-- a write over a part of an area is torn in that part alone
abbrev pub TearsOnePart : Type 0
TearsOnePart = (prefix part rest torn : List ℕ) → Torn (length prefix) (length part) (prefix ++ part ++ rest) torn
    → (bytes : List ℕ) × (length bytes ≡ length part) × (torn ≡ prefix ++ bytes ++ rest)

-- a write at the end is torn after the end alone
abbrev pub TearsTheEnd : Type 0
TearsTheEnd = (prefix torn : List ℕ) (size : ℕ) → Torn (length prefix) size prefix torn
    → (bytes : List ℕ) × (length bytes ≤ size) × (torn ≡ prefix ++ bytes)

-- a cut leaves the prefix, and after it a part of the end that was cut
abbrev pub CutsTheEnd : Type 0
CutsTheEnd = (prefix end left : List ℕ) → Cut (length prefix) (prefix ++ end) left
    → (count : ℕ) × (left ≡ prefix ++ take count end)

-- a write that was done whole, and one of a prefix of the piece, are among those that a crash may leave
abbrev pub TearsToTheWritten : Type 0
TearsToTheWritten = (at lost : ℕ) (piece bytes : List ℕ) → at ≤ length bytes
    → Torn at (length piece + lost) bytes (written at piece bytes)

-- so are a cut that was done whole, and one that was done in part
abbrev pub CutsToAnyLength : Type 0
CutsToAnyLength = (len count : ℕ) (bytes : List ℕ) → len ≤ count → Cut len bytes (take count bytes)

-- other bytes in one area leave each other area as it was
abbrev pub KeepsOthers : Type 0
KeepsOthers = (area other : Area) (bytes : List ℕ) (image : Image) → other ≢ area → AreaKept other image (with_content area bytes image)
