-- Shapes of Molecule (RFC 0008): how a value stands in bytes, which values a shape has, and the value that bytes encode.
-- Words in quotes are the RFC's names of types and the sections of its memory layout.
use Rattle.std.specs.Prelude.{◌≡◌, ℕ, ◌^◌, Bool, true, ◌&&◌, nat_lt, ◌==◌, if◌then◌else◌, IsTrue, List, [], ◌∷◌, length, map, drop, Option, Some, None, unwrap_or, slice_get, slice_index}
use Rattle.std.specs.Int.{Width, byte_len, w32, w64, w128, to_le_bytes, from_le_bytes}
use Rattle.std.specs.List.{concat, list_all}
use Rattle.std.specs.Str.{bytes_eq}
use Rattle.chain_defs.specs.Molecule as molecule

-- The bytes of a value, and whether it is a value of the shape (docs/FORMATS.md, Molecule).
pub record Encoding : Type 0 where
  pub bytes : List ℕ
  pub fits : Bool

-- A shape encodes values, and takes the value out of bytes that encode one. What it means is its encoding alone:
-- `decoded` tests what `decoding` takes out.
pub record Shape (V : Type 0) : Type 0 where
  pub encoding : V → Encoding
  pub decoding : List ℕ → V

-- the bytes of a value
abbrev pub encoded : {V : Type 0} → Shape V → V → List ℕ
encoded shape v = (shape.encoding v).bytes

-- The value is of the shape, and the bytes are its encoding (docs/FORMATS.md, Strict reading).
pub record IsEncoding {V : Type 0} (shape : Shape V) (bytes : List ℕ) (v : V) : Type 0 where
  pub fits : IsTrue (shape.encoding v).fits
  pub encoding : bytes ≡ encoded shape v

-- The value that the bytes encode, if there is one (docs/FORMATS.md, Strict reading). For each row, `Some v` exactly where
-- `IsEncoding shape bytes v`: the clauses `value` and `exact` of `View::read` in mol_schema.
unfoldable pub decoded : {V : Type 0} → Shape V → List ℕ → Option V
decoded shape bytes =
    let v = shape.decoding bytes in
    if (shape.encoding v).fits && bytes_eq (encoded shape v) bytes then Some v else None

-- ---- Numbers and arrays of bytes

-- "byte"
abbrev pub byte : Shape ℕ
byte = record {
  encoding = λ n. record { bytes = n ∷ []; fits = nat_lt n 256 };
  decoding = λ bytes. slice_index bytes 0;
}

-- array of bytes that is a number: unsigned, little-endian (docs/FORMATS.md)
abbrev pub uint : Width → Shape ℕ
uint w = record {
  encoding = λ n. record { bytes = to_le_bytes w n; fits = nat_lt n (256 ^ byte_len w) };
  decoding = λ bytes. from_le_bytes w bytes;
}

-- array Uint32 [byte; 4]
abbrev pub u32 : Shape ℕ
u32 = uint w32

-- array Uint64 [byte; 8]
abbrev pub u64 : Shape ℕ
u64 = uint w64

-- array Uint128 [byte; 16]
abbrev pub u128 : Shape ℕ
u128 = uint w128

-- "byte": a number below 256
abbrev pub are_bytes : List ℕ → Bool
are_bytes bytes = list_all (λ b. nat_lt b 256) bytes

-- "array" [byte; n]
abbrev pub byte_array : ℕ → Shape (List ℕ)
byte_array n = record {
  encoding = λ items. record { bytes = items; fits = (length items == n) && are_bytes items };
  decoding = λ bytes. bytes;
}

-- ---- Vectors and options

-- "vector" <byte>: a "fixvec" of single bytes
abbrev pub bytes : Shape (List ℕ)
bytes = record {
  encoding = λ content. record {
    bytes = molecule.fixvec (map (λ b. b ∷ []) content);
    fits = nat_lt (length content) (2 ^ 32) && are_bytes content;
  };
  decoding = λ encoding. drop 4 encoding;
}

-- the bytes of encodings
abbrev pub parts : List Encoding → List (List ℕ)
parts encodings = map (λ e. e.bytes) encodings

-- each is of a value of its shape
abbrev pub all_fit : List Encoding → Bool
all_fit encodings = list_all (λ e. e.fits) encodings

-- "vector" <item>, of items that have `size` bytes each: a "fixvec"
abbrev pub fixvec : {V : Type 0} → ℕ → Shape V → Shape (List V)
fixvec size item = record {
  encoding = λ values. record {
    bytes = molecule.fixvec (parts (map item.encoding values));
    fits = nat_lt (length values) (2 ^ 32) && all_fit (map item.encoding values);
  };
  decoding = λ bytes. map item.decoding (molecule.items_of_fixvec size bytes);
}

-- "table": laid out as a "dynvec" of its fields. Its full size is a u32.
abbrev pub table : List Encoding → Encoding
table fields = record {
  bytes = molecule.dynvec (parts fields);
  fits = nat_lt (length (molecule.dynvec (parts fields))) (2 ^ 32) && all_fit fields;
}

-- "vector" <item>, of items of any size: a "dynvec"
abbrev pub dynvec : {V : Type 0} → Shape V → Shape (List V)
dynvec item = record {
  encoding = λ values. table (map item.encoding values);
  decoding = λ bytes. map item.decoding (molecule.parts_of bytes);
}

-- "option": no bytes, or the inner value's
abbrev pub option_encoding : {V : Type 0} → Shape V → Option V → Encoding
option_encoding item None = record { bytes = []; fits = true }
option_encoding item (Some v) = item.encoding v

-- "option" (item)
abbrev pub option : {V : Type 0} → Shape V → Shape (Option V)
option item = record {
  encoding = option_encoding item;
  decoding = λ bytes. if length bytes == 0 then None else Some (item.decoding bytes);
}

-- ---- Rows of fields

-- "struct": the fields side by side
abbrev pub struct : List Encoding → Encoding
struct fields = record { bytes = concat (parts fields); fits = all_fit fields }

-- a field of a row: its encoding, and its value from its bytes
abbrev pub encode_field : {V : Type 0} → Shape V → V → Encoding
encode_field shape v = shape.encoding v

abbrev pub decode_field : {V : Type 0} → Shape V → List ℕ → V
decode_field shape bytes = shape.decoding bytes

-- "table": the bytes of field i. Of a "dynvec", those of item i.
abbrev pub table_field : List ℕ → ℕ → List ℕ
table_field bytes i = unwrap_or (slice_get (molecule.parts_of bytes) i) []
