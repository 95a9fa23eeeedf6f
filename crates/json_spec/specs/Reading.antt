-- How a specification's tree is read, from left to right: the encoding that it gives, or none. The contracts of private
-- functions speak by it. What it means is said by `Form` alone, and proofs/Exact.antt ties the two.
use Rattle.std.specs.Prelude.{ℕ, ◌+◌, ◌-◌, ◌*◌, ◌^◌, List, [], ◌∷◌, ◌++◌, codes, Bool, false, ◌&&◌, ◌||◌, ◌==◌, nat_lt, if◌then◌else◌, Option, Some, None}
use Rattle.std.specs.Int.{w32, w64, to_le_bytes}
use Rattle.std.specs.Str.{bytes_eq}
use Rattle.serde_json.specs.Data.{Data, null, boolean, number, string, array, object}
use Rattle.chain_defs.specs.Specification.{keeps_s6}
use Rattle.json_blocks.specs.Reading.{◌>>=◌, Field, value_at, object_at, struct_of, number_at, array_at, or_else}
use Rattle.json_spec.specs.Form.{span_text}

-- ---- epochs by hand

-- a space or a slash
abbrev pub is_mark : ℕ → Bool
is_mark c = (c == 32) || (c == 47)

-- the number that stands alone, or those before, between and after the marks put together
abbrev pub put_together : ℕ → ℕ → ℕ → ℕ → ℕ
put_together marks first second third = if marks == 0 then third else first + second * 2 ^ 24 + third * 2 ^ 40

-- What the rest of a text makes of a value, whatever its characters are, after so many marks and these numbers. None after
-- more marks or greater numbers than an epoch value has.
unfoldable pub value_after : ℕ → ℕ → ℕ → ℕ → List ℕ → Option ℕ
value_after marks first second third [] = Some (put_together marks first second third)
value_after marks first second third (c ∷ s) =
    if nat_lt marks 3 && nat_lt third (2 ^ 24)
    then (if is_mark c then value_after (marks + 1) second third 0 s else value_after marks first second (third * 10 + (c - 48)) s)
    else None

-- the value whose text by hand this is
unfoldable pub span_from : List ℕ → Option ℕ
span_from s = value_after 0 0 0 0 s >>= (λ value. if keeps_s6 value && bytes_eq s (span_text value) then Some value else None)

abbrev pub span_at : Data → Option ℕ
span_at null = None
span_at (boolean b) = None
span_at (number n) = None
span_at (string s) = span_from s
span_at (array ds) = None
span_at (object ms) = None

abbrev pub span_bytes_at : Data → Option (List ℕ)
span_bytes_at t = span_at t >>= (λ value. Some (to_le_bytes w64 value))

-- a number, or a text by hand
unfoldable pub epochs_at : Data → Option (List ℕ)
epochs_at t = or_else (number_at w64 t) (span_bytes_at t)

-- ---- the object

abbrev pub specification_fields : List Field
specification_fields =
    value_at (codes "compact_target") (number_at w32)
    ∷ value_at (codes "dao_code_hash") (array_at 32)
    ∷ value_at (codes "epoch_length") (number_at w32)
    ∷ value_at (codes "halving_interval") (number_at w64)
    ∷ value_at (codes "maturity") epochs_at
    ∷ value_at (codes "max_block_bytes") (number_at w32)
    ∷ value_at (codes "max_cycles") (number_at w64)
    ∷ value_at (codes "max_proposals") (number_at w32)
    ∷ value_at (codes "primary_reward") (number_at w64)
    ∷ value_at (codes "secondary_reward") (number_at w64)
    ∷ value_at (codes "w_close") (number_at w32)
    ∷ value_at (codes "w_far") (number_at w32)
    ∷ []

-- its fields in the order of their bytes
unfoldable pub fields_at : Data → Option (List ℕ)
fields_at t = object_at false specification_fields (struct_of (0 ∷ 2 ∷ 10 ∷ 11 ∷ 5 ∷ 7 ∷ 6 ∷ 4 ∷ 8 ∷ 9 ∷ 3 ∷ 1 ∷ [])) t

-- the size of all before them
unfoldable pub specification_at : Data → Option (List ℕ)
specification_at t = fields_at t >>= (λ b. Some (to_le_bytes w32 100 ++ b))
