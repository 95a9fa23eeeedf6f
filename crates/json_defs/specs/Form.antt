-- How values stand in a tree of JSON (docs/FORMATS.md, Blocks as JSON). The trees are those of serde_json: an object has
-- each key once, in byte order.
use Rattle.std.specs.Prelude.{ℕ, ◌+◌, ◌++◌, Bool, true, false, ◌&&◌, nat_le, ◌==◌, if◌then◌else◌, List, [], ◌∷◌, map, take, drop, codes, Option, None, Some}
use Rattle.std.specs.Fmt.{digits}
use Rattle.std.specs.Str.{bytes_eq}
use Rattle.hex.specs.Hex.{encode_lower}
use Rattle.serde_json.specs.Data.{Data, null, boolean, number, string, array, object, Items, no_items, item, Members, no_members, member}

-- The tree that is written for a value, and whether a tree is read as the value.
pub record Form (V : Type 0) : Type 0 where
  pub tree : V → Data
  pub reads : V → Data → Bool

-- ---- texts

-- the tree is this text
abbrev pub is_text : List ℕ → Data → Bool
is_text text null = false
is_text text (boolean b) = false
is_text text (number n) = false
is_text text (string s) = bytes_eq s text
is_text text (array ds) = false
is_text text (object ms) = false

-- "0x" and hex digits
abbrev pub hex_text : List ℕ → List ℕ
hex_text hex_digits = codes "0x" ++ hex_digits

-- a hex digit in lower case: 65 to 70 are `A` to `F`
abbrev pub lower_digit : ℕ → ℕ
lower_digit c = if nat_le 65 c && nat_le c 70 then c + 32 else c

-- the text, with the digits after "0x" in lower case
abbrev pub lowered : List ℕ → List ℕ
lowered s = take 2 s ++ map lower_digit (drop 2 s)

-- the tree is "0x" and these digits, in either case
abbrev pub has_digits : List ℕ → Data → Bool
has_digits hex_digits null = false
has_digits hex_digits (boolean b) = false
has_digits hex_digits (number n) = false
has_digits hex_digits (string s) = bytes_eq (lowered s) (hex_text hex_digits)
has_digits hex_digits (array ds) = false
has_digits hex_digits (object ms) = false

-- a number: "0x" and hex digits without leading zeros, and "0x0" for zero
unfoldable pub hex_number : Form ℕ
hex_number = record {
  tree = λ n. string (hex_text (digits 16 false n));
  reads = λ n t. has_digits (digits 16 false n) t;
}

-- a byte string: "0x" and two hex digits a byte
unfoldable pub byte_string : Form (List ℕ)
byte_string = record {
  tree = λ bytes. string (hex_text (encode_lower bytes));
  reads = λ bytes t. has_digits (encode_lower bytes) t;
}

-- a byte that has names for 0 and 1: its name, or a byte string of it alone
unfoldable pub named_byte : List ℕ → List ℕ → Form ℕ
named_byte zeroth first = record {
  tree = λ b. if b == 0 then string zeroth else (if b == 1 then string first else byte_string.tree (b ∷ []));
  reads = λ b t. if b == 0 then is_text zeroth t else (if b == 1 then is_text first t else byte_string.reads (b ∷ []) t);
}

-- ---- lists and options

-- the items in their order
abbrev pub items : {V : Type 0} → (V → Data) → List V → Items
items tree [] = no_items
items tree (v ∷ vs) = item (tree v) (items tree vs)

abbrev pub items_read : {V : Type 0} → (V → Data → Bool) → List V → Items → Bool
items_read reads [] no_items = true
items_read reads [] (item d ds) = false
items_read reads (v ∷ vs) no_items = false
items_read reads (v ∷ vs) (item d ds) = reads v d && items_read reads vs ds

abbrev pub array_read : {V : Type 0} → (V → Data → Bool) → List V → Data → Bool
array_read reads vs null = false
array_read reads vs (boolean b) = false
array_read reads vs (number n) = false
array_read reads vs (string s) = false
array_read reads vs (array ds) = items_read reads vs ds
array_read reads vs (object ms) = false

-- a list: an array
abbrev pub list : {V : Type 0} → Form V → Form (List V)
list form = record {
  tree = λ vs. array (items form.tree vs);
  reads = λ vs t. array_read form.reads vs t;
}

abbrev pub is_null : Data → Bool
is_null null = true
is_null (boolean b) = false
is_null (number n) = false
is_null (string s) = false
is_null (array ds) = false
is_null (object ms) = false

abbrev pub option_tree : {V : Type 0} → Form V → Option V → Data
option_tree form None = null
option_tree form (Some v) = form.tree v

abbrev pub option_reads : {V : Type 0} → Form V → Option V → Data → Bool
option_reads form None t = is_null t
option_reads form (Some v) t = form.reads v t

-- an optional value: null, or the value
abbrev pub option : {V : Type 0} → Form V → Form (Option V)
option form = record { tree = option_tree form; reads = option_reads form }

-- ---- objects: a table of rows, in byte order of their keys

-- a key, and what stands there
pub record Row : Type 0 where
  pub key : List ℕ
  pub tree : Data
  pub reads : Data → Bool

-- a field of a value, in its form
abbrev pub row : {V : Type 0} → List ℕ → Form V → V → Row
row key form v = record { key = key; tree = form.tree v; reads = form.reads v }

abbrev pub members : List Row → Members
members [] = no_members
members (r ∷ rows) = member r.key r.tree (members rows)

-- the members are those of the rows, each read as its row says, and no others
abbrev pub members_read : List Row → Members → Bool
members_read [] no_members = true
members_read [] (member k d ms) = false
members_read (r ∷ rows) no_members = false
members_read (r ∷ rows) (member k d ms) = bytes_eq k r.key && (r.reads d && members_read rows ms)

-- the members but for that of a key
abbrev pub without : List ℕ → Members → Members
without key no_members = no_members
without key (member k d ms) = if bytes_eq k key then without key ms else member k d (without key ms)

-- the tree is an object, with such members
abbrev pub is_object : (Members → Bool) → Data → Bool
is_object holds null = false
is_object holds (boolean b) = false
is_object holds (number n) = false
is_object holds (string s) = false
is_object holds (array ds) = false
is_object holds (object ms) = holds ms
