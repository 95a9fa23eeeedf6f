-- The lines of an input (docs/COMMANDS.md, "Many questions").
use Rattle.std.specs.Prelude.{◌≡◌, ℕ, ◌≤◌, List, [], ◌∷◌, ◌++◌, map, length, ◌==◌, not, if◌then◌else◌, IsTrue}
use Rattle.std.specs.List.{concat, list_all}

-- the most bytes of a line, as many as `0x` and the digits of 1,048,576 bytes
unfoldable pub line_limit : ℕ
line_limit = 2097154

-- a byte before the pieces that follow it
abbrev pub put_first : ℕ → List (List ℕ) → List (List ℕ)
put_first byte [] = (byte ∷ []) ∷ []
put_first byte (piece ∷ later) = (byte ∷ piece) ∷ later

-- The lines of an input: each ends with a line feed, which is not counted as its own, and the last may end with the input.
unfoldable pub lines_of : List ℕ → List (List ℕ)
lines_of [] = []
lines_of (byte ∷ bytes) = if byte == 10 then [] ∷ lines_of bytes else put_first byte (lines_of bytes)

-- bytes that have no line feed
abbrev pub has_no_feed : List ℕ → Type 0
has_no_feed bytes = IsTrue (list_all (λ byte. not (byte == 10)) bytes)

-- a line that is short enough
pub record IsLine (line : List ℕ) : Type 0 where
  pub unbroken : has_no_feed line
  pub short : length line ≤ line_limit

abbrev pub AreLines : List (List ℕ) → Type 0
AreLines [] = Unit {0}
AreLines (line ∷ lines) = IsLine line × AreLines lines

-- lines as they stand in an input, each with its line feed
abbrev pub spelled : List (List ℕ) → List ℕ
spelled lines = concat (map (λ line. line ++ 10 ∷ []) lines)
