-- The instruction that a word of code encodes, with its length in bytes ("Expanded
-- Instruction-Length Encoding"): the low two bits are 11 in a full form, of 4 bytes, and anything else
-- in a compressed form, of 2.
use Rattle.std.specs.Prelude.{◌≡◌, ℕ, ◌%◌, ◌^◌, ◌<◌, ◌==◌, Option, Some, if◌then◌else◌}
use Rattle.std.specs.Option.{option_map}
use Rattle.machine_defs.specs.declared.ins.Ins.{Ins}
use Rattle.machine_defs.specs.Row.{encoded_in}
use Rattle.machine_defs.specs.Table.{full_forms}
use Rattle.machine_defs.specs.Compressed.{compressed_forms}

abbrev pub with_length : ℕ → Ins → Ins × ℕ
with_length length instruction = (instruction, length)

-- the row of the table that the word matches, or none
unfoldable pub decode : ℕ → Option (Ins × ℕ)
decode word =
    if word % 4 == 3 then option_map (with_length 4) (encoded_in full_forms word)
    else option_map (with_length 2) (encoded_in compressed_forms (word % 2 ^ 16))

-- some word of four bytes encodes the instruction
abbrev pub HasFullForm : Ins → Type 0
HasFullForm instruction = (word : ℕ) × (word < 2 ^ 32) × (decode word ≡ Some (instruction, 4))
