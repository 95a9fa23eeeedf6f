-- Molecule (RFC 0008): how parts make an encoding, and where they stand in it. A part is the encoding of an item or of
-- a field. Words in quotes are the sections of the RFC's memory layout.
use Rattle.std.specs.Prelude.{◌≡◌, ℕ, ◌+◌, ◌-◌, ◌*◌, ◌/◌, ◌^◌, ◌<◌, List, [], ◌∷◌, ◌++◌, length, map, take, drop, nat_lt, ◌==◌, if◌then◌else◌}
use Rattle.std.specs.Int.{w32, to_le_bytes, from_le_bytes}
use Rattle.std.specs.List.{concat, slice_range, range_with_len, AllByRecursion}

-- ---- Serialization

-- "fixvec": the count of the items as a u32, then the items.
unfoldable pub fixvec : List (List ℕ) → List ℕ
fixvec items = to_le_bytes w32 (length items) ++ concat items

-- "dynvec": the offsets of parts of which the first starts at `start`, each as a u32.
unfoldable pub offsets : ℕ → List (List ℕ) → List ℕ
offsets start [] = []
offsets start (part ∷ parts) = to_le_bytes w32 start ++ offsets (start + length part) parts

-- "dynvec" and "table": the header has the full size and an offset for each part.
unfoldable pub header_size : List (List ℕ) → ℕ
header_size parts = 4 + 4 * length parts

-- "dynvec" and "table": the full size is that of the header and of all parts.
unfoldable pub full_size : List (List ℕ) → ℕ
full_size parts = header_size parts + length (concat parts)

-- "dynvec": the full size as a u32, an offset for each item, then the items.
unfoldable pub dynvec : List (List ℕ) → List ℕ
dynvec items = to_le_bytes w32 (full_size items) ++ offsets (header_size items) items ++ concat items

-- "table": as a dynvec, of the fields in their order.
abbrev pub table : List (List ℕ) → List ℕ
table fields = dynvec fields

-- The bytes are the "fixvec" of these items, each of `size` bytes. Its count is a u32 (docs/FORMATS.md, Strict reading).
pub record IsFixvec (size : ℕ) (bytes : List ℕ) (items : List (List ℕ)) : Type 0 where
  pub encoding : bytes ≡ fixvec items
  pub sizes : AllByRecursion (λ item. length item ≡ size) items
  pub count : length items < 2 ^ 32

-- The bytes are the "dynvec" of these items. Its full size is a u32 (docs/FORMATS.md, Strict reading).
pub record IsDynvec (bytes : List ℕ) (items : List (List ℕ)) : Type 0 where
  pub encoding : bytes ≡ dynvec items
  pub size : length bytes < 2 ^ 32

-- The bytes are the "table" of these `n` fields. Its full size is a u32 (docs/FORMATS.md, Strict reading).
pub record IsTable (n : ℕ) (bytes : List ℕ) (fields : List (List ℕ)) : Type 0 where
  pub encoding : bytes ≡ table fields
  pub size : length bytes < 2 ^ 32
  pub count : length fields ≡ n

-- ---- Deserialization: the parts of bytes that are an encoding, by their places

-- A number of the header, a u32 ("fixvec": the count; "dynvec" and "table": the full size, an offset).
unfoldable pub header_number : List ℕ → ℕ → ℕ
header_number bytes at = from_le_bytes w32 (take 4 (drop at bytes))

-- "fixvec": the items lie side by side after the count.
unfoldable pub item_of_fixvec : ℕ → List ℕ → ℕ → List ℕ
item_of_fixvec size bytes i = slice_range bytes (4 + i * size) (4 + (i + 1) * size)

-- "fixvec": the count tells how many they are.
unfoldable pub items_of_fixvec : ℕ → List ℕ → List (List ℕ)
items_of_fixvec size bytes = map (item_of_fixvec size bytes) (range_with_len 0 (header_number bytes 0))

-- "dynvec" and "table": the first offset is the size of the header, so it tells the count. With no offset the full size is 4.
unfoldable pub part_count : List ℕ → ℕ
part_count bytes = if length bytes == 4 then 0 else header_number bytes 4 / 4 - 1

-- "dynvec" and "table": a part starts at its offset. After the last one is the end.
unfoldable pub part_start : List ℕ → ℕ → ℕ
part_start bytes i = if nat_lt i (part_count bytes) then header_number bytes (4 + 4 * i) else length bytes

-- "dynvec" and "table": a part reaches from its offset to the next one, and the last part to the end.
unfoldable pub part_of : List ℕ → ℕ → List ℕ
part_of bytes i = slice_range bytes (part_start bytes i) (part_start bytes (i + 1))

-- "dynvec" and "table": all parts in their order.
unfoldable pub parts_of : List ℕ → List (List ℕ)
parts_of bytes = map (part_of bytes) (range_with_len 0 (part_count bytes))
