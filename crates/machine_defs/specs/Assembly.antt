-- The words of a text of the assembler (docs/MACHINE.md, "A text of the assembler").
use Rattle.std.specs.Prelude.{◌≡◌, ◌≢◌, ◌⊎◌, ℕ, ◌+◌, ◌==◌, List, [], ◌∷◌, ◌++◌, if◌then◌else◌}
use Rattle.std.specs.Int.{w32, to_le_bytes}
use Rattle.machine_defs.specs.declared.ins.Ins.{Ins}
use Rattle.machine_defs.specs.Instruction.{FitsFormat}
use Rattle.machine_defs.specs.Text.{show, IsWord}

-- The lines of a text: each ends with a line feed, and the last one with the text.
abbrev pub with_first_byte : ℕ → List (List ℕ) → List (List ℕ)
with_first_byte c [] = (c ∷ []) ∷ []
with_first_byte c (line ∷ lines) = (c ∷ line) ∷ lines

unfoldable pub lines_of : List ℕ → List (List ℕ)
lines_of [] = [] ∷ []
lines_of (c ∷ cs) = if c == 10 then [] ∷ lines_of cs else with_first_byte c (lines_of cs)

-- an empty line, and one that begins with `#`
abbrev pub IsSkipped : List ℕ → Type 0
IsSkipped [] = Unit {0}
IsSkipped (c ∷ cs) = c ≡ 35

-- the bytes that a line stands for: none, or those of the word of the instruction whose text it is
abbrev pub IsLineOf : List ℕ → List ℕ → Type 0
IsLineOf line bytes =
    (IsSkipped line × (bytes ≡ []))
    ⊎ ((i : Ins) × (word : ℕ) × FitsFormat i × (line ≡ show i) × IsWord i word × (bytes ≡ to_le_bytes w32 word))

-- a line that is neither skipped nor the text of an instruction that fits
abbrev pub IsBad : List ℕ → Type 0
IsBad line = (¬ IsSkipped line) × ((i : Ins) → FitsFormat i → line ≢ show i)

-- the bytes that the lines stand for, one after the other
unfoldable pub Assembles : List (List ℕ) → List ℕ → Type 0
Assembles [] bytes = bytes ≡ []
Assembles (line ∷ lines) bytes =
    (here : List ℕ) × (rest : List ℕ) × IsLineOf line here × Assembles lines rest × (bytes ≡ here ++ rest)

-- the number of the first bad line, counted from 1
unfoldable pub IsFirstBad : List (List ℕ) → ℕ → Type 0
IsFirstBad [] number = ⊥
IsFirstBad (line ∷ lines) number =
    ((number ≡ 1) × IsBad line)
    ⊎ ((here : List ℕ) × (after : ℕ) × IsLineOf line here × IsFirstBad lines after × (number ≡ 1 + after))
