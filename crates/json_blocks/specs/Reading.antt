-- How a tree is read, from left to right: the encoding that it gives, or none. The contracts of private functions speak by
-- it. What it means is said by `Form` and `Blocks` alone, and proofs/Exact.antt ties the two.
use Rattle.std.specs.Prelude.{◌≡◌, ℕ, zero, suc, ◌+◌, ◌^◌, List, [], ◌∷◌, ◌++◌, length, map, codes, Bool, true, false, not, ◌&&◌, ◌==◌, nat_lt, nat_le, if◌then◌else◌, Option, Some, None, Result, Ok, Err, Vec, IsUtf8}
use Rattle.std.specs.Global.{Global}
use Rattle.std.specs.Int.{Width, w32, w64, w128, byte_len, to_le_bytes}
use Rattle.std.specs.Fmt.{digits}
use Rattle.std.specs.List.{concat}
use Rattle.std.specs.Str.{bytes_eq}
use Rattle.hex.specs.Hex.{encode_lower}
use Rattle.chain_defs.specs.Molecule as molecule
use Rattle.serde_json.specs.Data.{Data, null, boolean, number, string, array, object, Items, no_items, item, Members, no_members, member}
use Rattle.serde_json.specs.Read.{read as tree_of}
use Rattle.json_blocks.specs.declared.stop.JsonStop.{JsonStop}
use Rattle.json_blocks.specs.declared.stop.JsonStop.TheVariants as stops
use Rattle.json_defs.specs.Form.{lower_digit, is_text, without}
use Rattle.json_defs.specs.Blocks.{free_key}
use Rattle.json_blocks.specs.Digits.{value_after, pairs_of}

infixl 10 ◌>>=◌
abbrev pub ◌>>=◌ : {A B : Type 0} → Option A → (A → Option B) → Option B
(Some x) >>= f = f x
None >>= f = None

-- What a function returned, seen by view, is what reading gives, unless memory ran out.
abbrev pub Fails : {Y : Type 0} → JsonStop → Option Y → Type 0
Fails stops.Bad read = read ≡ None
Fails stops.NoMemory read = Unit {0}

abbrev pub Gives : {X Y : Type 0} → (X → Y) → Result X JsonStop → Option Y → Type 0
Gives view (Ok x) read = read ≡ Some (view x)
Gives view (Err e) read = Fails e read

-- What a function returned is what reading gives for the tree of a text, unless memory ran out.
abbrev pub GivesOfText : (Data → Option (List ℕ)) → List ℕ → Result (Vec ℕ Global) JsonStop → Type 0
GivesOfText reads text (Ok bytes) = (t : Data) × IsUtf8 text × (tree_of text ≡ Some t) × (reads t ≡ Some bytes.items)
GivesOfText reads text (Err stops.Bad) = (t : Data) → IsUtf8 text → tree_of text ≡ Some t → reads t ≡ None
GivesOfText reads text (Err stops.NoMemory) = Unit {0}

-- ---- texts

-- what stands after "0x": 48 is `0`, and 120 `x`
abbrev pub after_0x : List ℕ → Option (List ℕ)
after_0x [] = None
after_0x (a ∷ []) = None
after_0x (a ∷ b ∷ s) = if (a == 48) && (b == 120) then Some s else None

abbrev pub digits_at : Data → Option (List ℕ)
digits_at null = None
digits_at (boolean b) = None
digits_at (number n) = None
digits_at (string s) = after_0x s
digits_at (array ds) = None
digits_at (object ms) = None

-- the bytes of digits
unfoldable pub bytes_from : List ℕ → Option (List ℕ)
bytes_from s = if bytes_eq (map lower_digit s) (encode_lower (pairs_of s)) then Some (pairs_of s) else None

-- the number of at most 32 digits
unfoldable pub number_from : List ℕ → Option ℕ
number_from s = if nat_le (length s) 32 && bytes_eq (map lower_digit s) (digits 16 false (value_after 0 s)) then Some (value_after 0 s) else None

abbrev pub bytes_at : Data → Option (List ℕ)
bytes_at t = digits_at t >>= bytes_from

-- so many bytes
unfoldable pub array_at : ℕ → Data → Option (List ℕ)
array_at n t = do
  b ← bytes_at t
  if length b == n then Some b else None

-- a `Bytes`: the count and the bytes
unfoldable pub content_at : Data → Option (List ℕ)
content_at t = do
  b ← bytes_at t
  if nat_lt (length b) (2 ^ 32) then Some (to_le_bytes w32 (length b) ++ b) else None

unfoldable pub number_at : Width → Data → Option (List ℕ)
number_at w t = do
  s ← digits_at t
  n ← number_from s
  if nat_lt n (256 ^ byte_len w) then Some (to_le_bytes w n) else None

-- a byte above 1, alone
abbrev pub other_byte : List ℕ → Option (List ℕ)
other_byte [] = None
other_byte (b ∷ []) = if nat_lt 1 b then Some (b ∷ []) else None
other_byte (b ∷ c ∷ s) = None

unfoldable pub named_at : List ℕ → List ℕ → Data → Option (List ℕ)
named_at zeroth first t = if is_text zeroth t then Some (0 ∷ []) else (if is_text first t then Some (1 ∷ []) else (bytes_at t >>= other_byte))

-- ---- objects

-- the members, where those of the key `hash` are passed over if `beside_hash`
abbrev pub left : Bool → Members → Members
left beside_hash ms = if beside_hash then without free_key ms else ms

abbrev pub members_at : Bool → Data → Option Members
members_at beside_hash null = None
members_at beside_hash (boolean b) = None
members_at beside_hash (number n) = None
members_at beside_hash (string s) = None
members_at beside_hash (array ds) = None
members_at beside_hash (object ms) = Some (left beside_hash ms)

-- the first member's value, where it has this key, and the members after it
abbrev pub take_at : List ℕ → Members → Option (Data × Members)
take_at key no_members = None
take_at key (member k d ms) = if bytes_eq k key then Some (d, ms) else None

-- a hash of 32 bytes under this key, where it is to stand here; else no bytes
abbrev pub hash_at : Bool → List ℕ → Members → Option (List ℕ × Members)
hash_at true key ms = do
  h ← take_at key ms
  hash ← array_at 32 h.0
  Some (hash, h.1)
hash_at false key ms = Some ([], ms)

abbrev pub end_at : Members → Option (Unit {0})
end_at no_members = Some tt
end_at (member k d ms) = None

-- What stands under a key: the field that its value is read as, or a hash that may stand in one of two places.
pub data Field : Type 0 where
  value_at : List ℕ → (Data → Option (List ℕ)) → Field
  hash_if : Bool → List ℕ → Field

-- the members by these rows, in the order of their keys, and what is made of the fields
abbrev pub fields_at : List Field → (List (List ℕ) → Option (List ℕ)) → Members → List (List ℕ) → Option (List ℕ)
fields_at [] made ms done = end_at ms >>= (λ last. made done)
fields_at (value_at key read ∷ rows) made ms done = take_at key ms >>= (λ a. read a.0 >>= (λ b. fields_at rows made a.1 (done ++ b ∷ [])))
fields_at (hash_if is_here key ∷ rows) made ms done = hash_at is_here key ms >>= (λ u. fields_at rows made u.1 (done ++ u.0 ∷ []))

-- an object of these rows alone
abbrev pub object_at : Bool → List Field → (List (List ℕ) → Option (List ℕ)) → Data → Option (List ℕ)
object_at beside_hash rows made t = members_at beside_hash t >>= (λ ms. fields_at rows made ms [])

-- ---- what is made of fields, by their places

abbrev pub at_place : List (List ℕ) → ℕ → List ℕ
at_place [] place = []
at_place (f ∷ fs) zero = f
at_place (f ∷ fs) (suc place) = at_place fs place

abbrev pub placed : List ℕ → List (List ℕ) → List (List ℕ)
placed places fields = map (at_place fields) places

-- a table of these fields, where it is shorter than 2^32 bytes
unfoldable pub table_from : List (List ℕ) → Option (List ℕ)
table_from fields = if nat_lt (molecule.full_size fields) (2 ^ 32) then Some (molecule.dynvec fields) else None

-- a table of the fields at these places
abbrev pub table_of : List ℕ → List (List ℕ) → Option (List ℕ)
table_of places fields = table_from (placed places fields)

-- a table of these, and one that has it, as one more of the fields
abbrev pub tables_of : List ℕ → List ℕ → List (List ℕ) → Option (List ℕ)
tables_of inner places fields = table_of inner fields >>= (λ first. table_of places (fields ++ first ∷ []))

-- a struct of these
abbrev pub struct_of : List ℕ → List (List ℕ) → Option (List ℕ)
struct_of places fields = Some (concat (placed places fields))

-- the fields with one more, where their table stays shorter than 2^32 bytes
unfoldable pub pushed : List (List ℕ) → List ℕ → Option (List (List ℕ))
pushed fields field = if nat_lt (molecule.full_size fields + 4 + length field) (2 ^ 32) then Some (fields ++ field ∷ []) else None

-- ---- lists

abbrev pub array_items : Data → Option Items
array_items null = None
array_items (boolean b) = None
array_items (number n) = None
array_items (string s) = None
array_items (array ds) = Some ds
array_items (object ms) = None

unfoldable pub items_at : (Data → Option (List ℕ)) → Items → Option (List (List ℕ))
items_at read no_items = Some []
items_at read (item d ds) = do
  b ← read d
  bs ← items_at read ds
  Some (b ∷ bs)

unfoldable pub fixvec_at : (Data → Option (List ℕ)) → Data → Option (List ℕ)
fixvec_at read t = do
  ds ← array_items t
  bs ← items_at read ds
  if nat_lt (length bs) (2 ^ 32) then Some (molecule.fixvec bs) else None

unfoldable pub dynvec_at : (Data → Option (List ℕ)) → Data → Option (List ℕ)
dynvec_at read t = do
  ds ← array_items t
  bs ← items_at read ds
  table_from bs

-- ---- the objects of a block

abbrev pub script_fields : List Field
script_fields =
    value_at (codes "args") content_at
    ∷ value_at (codes "code_hash") (array_at 32)
    ∷ value_at (codes "hash_type") (named_at (codes "data") (codes "type"))
    ∷ []

unfoldable pub script_at : Data → Option (List ℕ)
script_at t = object_at false script_fields (table_of (1 ∷ 2 ∷ 0 ∷ [])) t

unfoldable pub type_script_at : Data → Option (List ℕ)
type_script_at null = Some []
type_script_at (boolean b) = script_at (boolean b)
type_script_at (number n) = script_at (number n)
type_script_at (string s) = script_at (string s)
type_script_at (array ds) = script_at (array ds)
type_script_at (object ms) = script_at (object ms)

abbrev pub cellbase_witness_fields : List Field
cellbase_witness_fields =
    value_at (codes "lock") script_at
    ∷ value_at (codes "message") content_at
    ∷ []

unfoldable pub cellbase_witness_at : Data → Option (List ℕ)
cellbase_witness_at t = object_at false cellbase_witness_fields (table_of (0 ∷ 1 ∷ [])) t

abbrev pub out_point_fields : List Field
out_point_fields =
    value_at (codes "index") (number_at w32)
    ∷ value_at (codes "tx_hash") (array_at 32)
    ∷ []

unfoldable pub out_point_at : Data → Option (List ℕ)
out_point_at t = object_at false out_point_fields (struct_of (1 ∷ 0 ∷ [])) t

abbrev pub cell_input_fields : List Field
cell_input_fields =
    value_at (codes "previous_output") out_point_at
    ∷ value_at (codes "since") (number_at w64)
    ∷ []

unfoldable pub cell_input_at : Data → Option (List ℕ)
cell_input_at t = object_at false cell_input_fields (struct_of (1 ∷ 0 ∷ [])) t

abbrev pub cell_dep_fields : List Field
cell_dep_fields =
    value_at (codes "dep_type") (named_at (codes "code") (codes "dep_group"))
    ∷ value_at (codes "out_point") out_point_at
    ∷ []

unfoldable pub cell_dep_at : Data → Option (List ℕ)
cell_dep_at t = object_at false cell_dep_fields (struct_of (1 ∷ 0 ∷ [])) t

abbrev pub cell_output_fields : List Field
cell_output_fields =
    value_at (codes "capacity") (number_at w64)
    ∷ value_at (codes "lock") script_at
    ∷ value_at (codes "type") type_script_at
    ∷ []

unfoldable pub cell_output_at : Data → Option (List ℕ)
cell_output_at t = object_at false cell_output_fields (table_of (0 ∷ 1 ∷ 2 ∷ [])) t

abbrev pub transaction_fields : List Field
transaction_fields =
    value_at (codes "cell_deps") (fixvec_at cell_dep_at)
    ∷ value_at (codes "header_deps") (fixvec_at (array_at 32))
    ∷ value_at (codes "inputs") (fixvec_at cell_input_at)
    ∷ value_at (codes "outputs") (dynvec_at cell_output_at)
    ∷ value_at (codes "outputs_data") (dynvec_at content_at)
    ∷ value_at (codes "version") (number_at w32)
    ∷ value_at (codes "witnesses") (dynvec_at content_at)
    ∷ []

unfoldable pub transaction_at : Data → Option (List ℕ)
transaction_at t = object_at true transaction_fields (tables_of (5 ∷ 0 ∷ 1 ∷ 2 ∷ 3 ∷ 4 ∷ []) (7 ∷ 6 ∷ [])) t

-- a header whose uncles' hash stands at `extra_hash`, or at `uncles_hash`
abbrev pub header_fields : Bool → List Field
header_fields is_extra =
    value_at (codes "compact_target") (number_at w32)
    ∷ value_at (codes "dao") (array_at 32)
    ∷ value_at (codes "epoch") (number_at w64)
    ∷ hash_if is_extra (codes "extra_hash")
    ∷ value_at (codes "nonce") (number_at w128)
    ∷ value_at (codes "number") (number_at w64)
    ∷ value_at (codes "parent_hash") (array_at 32)
    ∷ value_at (codes "proposals_hash") (array_at 32)
    ∷ value_at (codes "timestamp") (number_at w64)
    ∷ value_at (codes "transactions_root") (array_at 32)
    ∷ hash_if (not is_extra) (codes "uncles_hash")
    ∷ value_at (codes "version") (number_at w32)
    ∷ []

unfoldable pub header_with : Bool → Data → Option (List ℕ)
header_with is_extra t = object_at true (header_fields is_extra) (struct_of (11 ∷ 0 ∷ 8 ∷ 5 ∷ 2 ∷ 6 ∷ 9 ∷ 7 ∷ 3 ∷ 10 ∷ 1 ∷ 4 ∷ [])) t

-- the second, where there is no first
abbrev pub or_else : {A : Type 0} → Option A → Option A → Option A
or_else (Some a) other = Some a
or_else None other = other

unfoldable pub header_at : Data → Option (List ℕ)
header_at t = or_else (header_with false t) (header_with true t)

abbrev pub uncle_fields : List Field
uncle_fields =
    value_at (codes "header") header_at
    ∷ value_at (codes "proposals") (fixvec_at (array_at 10))
    ∷ []

unfoldable pub uncle_at : Data → Option (List ℕ)
uncle_at t = object_at false uncle_fields (table_of (0 ∷ 1 ∷ [])) t

abbrev pub block_fields : List Field
block_fields =
    value_at (codes "header") header_at
    ∷ value_at (codes "proposals") (fixvec_at (array_at 10))
    ∷ value_at (codes "transactions") (dynvec_at transaction_at)
    ∷ value_at (codes "uncles") (dynvec_at uncle_at)
    ∷ []

unfoldable pub block_at : Data → Option (List ℕ)
block_at t = object_at false block_fields (table_of (0 ∷ 3 ∷ 2 ∷ 1 ∷ [])) t
