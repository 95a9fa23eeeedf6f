-- The listing of code: a line for each instruction, and for what is none (docs/MACHINE.md, "The listing of code").
use Rattle.std.specs.Prelude.{ℕ, zero, suc, ◌+◌, ◌*◌, ◌/◌, ◌%◌, ◌^◌, ◌==◌, nat_le, false, List, [], ◌∷◌, ◌++◌, length, drop, slice_index, codes, Option, Some, None, if◌then◌else◌}
use Rattle.std.specs.Fmt.{decimal, digit_glyph}
use Rattle.machine_defs.specs.declared.ins.Ins.{Ins}
use Rattle.machine_defs.specs.Decode.{decode}
use Rattle.machine_defs.specs.Text.{show}

-- The first four bytes as a number, lowest first. What stands past the end counts as zero: it tells nothing of an
-- instruction that lies inside the code.
abbrev pub word_of : List ℕ → ℕ
word_of code =
    slice_index code 0 + slice_index code 1 * 2 ^ 8 + slice_index code 2 * 2 ^ 16 + slice_index code 3 * 2 ^ 24

abbrev pub inside : ℕ → Option (Ins × ℕ) → Option (Ins × ℕ)
inside left None = None
inside left (Some decoded) = if nat_le decoded.1 left then Some decoded else None

-- the instruction at the start, if one lies inside the code, and its length
unfoldable pub instruction_of : List ℕ → Option (Ins × ℕ)
instruction_of code = inside (length code) (decode (word_of code))

-- a byte in two hex digits, in lower case
abbrev pub hex_byte : ℕ → List ℕ
hex_byte byte = digit_glyph false (byte / 16) ∷ (digit_glyph false (byte % 16) ∷ [])

-- bytes that are no instruction, and how many: two as a number with its lowest byte first, or a single last one
abbrev pub data_of : List ℕ → List ℕ × ℕ
data_of code =
    if length code == 1 then (codes ".byte 0x" ++ hex_byte (slice_index code 0), 1)
    else (codes ".half 0x" ++ (hex_byte (slice_index code 1) ++ hex_byte (slice_index code 0)), 2)

abbrev pub part_of : Option (Ins × ℕ) → List ℕ → List ℕ × ℕ
part_of (Some decoded) code = (show decoded.0, decoded.1)
part_of None code = data_of code

-- the text of what stands at the start, and how many bytes it has
unfoldable pub first_part : List ℕ → List ℕ × ℕ
first_part code = part_of (instruction_of code) code

abbrev pub line : ℕ → List ℕ → List ℕ
line offset text = decimal offset ++ (codes " " ++ (text ++ (10 ∷ [])))

-- the lines of code that begins at an offset, of so many at most
unfoldable pub lines_from : ℕ → ℕ → List ℕ → List ℕ
lines_from zero offset code = []
lines_from (suc most) offset [] = []
lines_from (suc most) offset (c ∷ cs) =
    line offset (first_part (c ∷ cs)).0
    ++ lines_from most (offset + (first_part (c ∷ cs)).1) (drop (first_part (c ∷ cs)).1 (c ∷ cs))

-- each line takes a byte or more, so that there are no more lines than bytes
unfoldable pub dis : List ℕ → List ℕ
dis code = lines_from (length code) 0 code
