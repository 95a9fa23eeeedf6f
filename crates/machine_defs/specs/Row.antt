-- A row of the instruction table, and the row that a word matches.
use Rattle.std.specs.Prelude.{◌≡◌, ◌<◌, ◌^◌, IsTrue, slice_get, ℕ, Bool, false, List, [], ◌∷◌, Option, Some, None, bit_and, ◌==◌, if◌then◌else◌}
use Rattle.std.specs.List.{list_any}
use Rattle.machine_defs.specs.declared.ins.Ins.{Ins}

-- a word fits a pattern where its bits under the mask are those of the value
pub record Pattern : Type 0 where
  pub mask : ℕ
  pub value : ℕ

abbrev pub fits : ℕ → Pattern → Bool
fits word p = bit_and word p.mask == p.value

-- one form of an instruction: what its words look like, the patterns among them that are reserved
-- or another form's, and the instruction that such a word encodes
pub record Row : Type 0 where
  pub pattern : Pattern
  pub except : List Pattern
  pub instruction : ℕ → Ins

-- the word is one of the row's
abbrev pub matches : ℕ → Row → Bool
matches word row = if list_any (fits word) row.except then false else fits word row.pattern

-- the instruction of the row that the word matches
unfoldable pub encoded_in : List Row → ℕ → Option Ins
encoded_in [] word = None
encoded_in (row ∷ rows) word = if matches word row then Some (row.instruction word) else encoded_in rows word

-- no word matches the rows at two places of a table
abbrev pub IsUnambiguous : List Row → Type 0
IsUnambiguous rows = (word i j : ℕ) (row other : Row) → slice_get rows i ≡ Some row → slice_get rows j ≡ Some other
    → IsTrue (matches word row) → IsTrue (matches word other) → i ≡ j

-- each row of a table is matched by some word of so many bits
abbrev pub HasWords : ℕ → List Row → Type 0
HasWords width rows = (i : ℕ) (row : Row) → slice_get rows i ≡ Some row
    → (word : ℕ) × (word < 2 ^ width) × IsTrue (matches word row)
