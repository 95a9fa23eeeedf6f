-- The text of a block and of its parts is UTF-8: all of it is ASCII.
use Rattle.std.proofs.Common.{◌≡◌, ℕ, zero, suc, ◌/◌, ◌%◌, ◌<◌, ◌==◌, Bool, true, false, List, [], ◌∷◌, ◌++◌, slice_index, IsUtf8, refl, arith}
use Rattle.std.specs.Prelude.{if◌then◌else◌, Option, Some, None, nat_lt, codes}
use Rattle.std.specs.Fmt.{digits, digits_onto, digit_glyph}
use Rattle.std.proofs.lemmas.Bool.{and_parts, and_from, lt-ltb}
use Rattle.std.proofs.lemmas.Bool.Decides.{nat_tests}
use Rattle.std.proofs.lemmas.Str.{IsUtf8-append}
use Rattle.hex.specs.Hex.{encode_lower, encode_with, lower_digits}
use Rattle.json.proofs.Printed.Utf8.{are_ascii, IsUtf8-are_ascii, IsUtf8-quoted}
use Rattle.serde_json.specs.Data.{Data, null, string, object, Members, no_members, member}
use Rattle.json.specs.Print.{quoted}
use Rattle.serde_json.specs.Written.{compact_text, items_text, members_text, comma_if}
use Rattle.chain_defs.specs.Schema as schema
use Rattle.json_defs.specs.Form.{Form, items, hex_number, byte_string, named_byte, list, option}
use Rattle.json_defs.specs.Blocks as form

pub IsText : Data → Type 0
IsText d = IsUtf8 (compact_text d)

-- ---- digits

ascii_item : (table : List ℕ) (k : ℕ) → are_ascii table ≡ true → nat_lt (slice_index table k) 128 ≡ true
ascii_item [] k all = refl
ascii_item (c ∷ table) zero all = (and_parts (nat_lt c 128) (are_ascii table) all).0
ascii_item (c ∷ table) (suc k) all = ascii_item table k (and_parts (nat_lt c 128) (are_ascii table) all).1

encode_lower-ascii : (bytes : List ℕ) → are_ascii (encode_lower bytes) ≡ true
unfolding encode_with
encode_lower-ascii [] = refl
encode_lower-ascii (b ∷ bytes) = and_from _ _ (ascii_item lower_digits (b / 16) refl) (and_from _ _ (ascii_item lower_digits (b % 16) refl) (encode_lower-ascii bytes))

glyph-ascii : (d : ℕ) → d < 16 → nat_lt (digit_glyph false d) 128 ≡ true
glyph-ascii d below = lt-ltb _ _ (small d below)
  where
    small : (d : ℕ) → d < 16 → digit_glyph false d < 128
    small d below = grind (arith, nat_tests)

digits_onto-ascii : (k n : ℕ) (s : List ℕ) → are_ascii s ≡ true → are_ascii (digits_onto k 16 false n s) ≡ true
digits_onto-ascii zero n s all = all
digits_onto-ascii (suc k) n s all =
    let first : are_ascii (digit_glyph false (n % 16) ∷ s) ≡ true = and_from _ _ (glyph-ascii (n % 16) (omega arith)) all in
    by (n / 16 == 0) _ _ first (digits_onto-ascii k (n / 16) (digit_glyph false (n % 16) ∷ s) first)
  where
    by : (b : Bool) (x y : List ℕ) → are_ascii x ≡ true → are_ascii y ≡ true → are_ascii (if b then x else y) ≡ true
    by true x y here there = here
    by false x y here there = there

digits-ascii : (n : ℕ) → are_ascii (digits 16 false n) ≡ true
unfolding digits
digits-ascii n = digits_onto-ascii 64 n [] refl

-- ---- texts

plain-text : (s : List ℕ) → are_ascii s ≡ true → IsText (string s)
unfolding IsText
plain-text s all = IsUtf8-quoted s (IsUtf8-are_ascii s all)

pub number-utf8 : (n : ℕ) → IsText (hex_number.tree n)
unfolding hex_number
number-utf8 n = plain-text _ (digits-ascii n)

pub bytes-utf8 : (b : List ℕ) → IsText (byte_string.tree b)
unfolding byte_string
bytes-utf8 b = plain-text _ (encode_lower-ascii b)

named-utf8 : (zeroth first : List ℕ) → are_ascii zeroth ≡ true → are_ascii first ≡ true → (b : ℕ) → IsText ((named_byte zeroth first).tree b)
unfolding named_byte
named-utf8 zeroth first all all' b = by (b == 0) (b == 1)
  where
    by : (x y : Bool) → IsText (if x then string zeroth else (if y then string first else byte_string.tree (b ∷ [])))
    by true y = plain-text zeroth all
    by false true = plain-text first all'
    by false false = bytes-utf8 (b ∷ [])

comma-utf8 : (later : Bool) → IsUtf8 (comma_if later)
comma-utf8 true = IsUtf8-are_ascii (44 ∷ []) refl
comma-utf8 false = IsUtf8-are_ascii [] refl

-- ---- lists and objects

items-utf8 : {V : Type 0} (of : V → Data) → ((v : V) → IsText (of v)) → (later : Bool) (vs : List V) → IsUtf8 (items_text later (items of vs))
unfolding IsText
items-utf8 of each later [] = IsUtf8-are_ascii (93 ∷ []) refl
items-utf8 of each later (v ∷ vs) = IsUtf8-append (comma_if later) _ (comma-utf8 later) (IsUtf8-append (compact_text (of v)) _ (each v) (items-utf8 of each true vs))

list-utf8 : {V : Type 0} (of : Form V) → ((v : V) → IsText (of.tree v)) → (vs : List V) → IsText ((list of).tree vs)
unfolding IsText
list-utf8 of each vs = IsUtf8-append (91 ∷ []) _ (IsUtf8-are_ascii (91 ∷ []) refl) (items-utf8 of.tree each false vs)

-- members, with the end of their object
pub record AreTexts (ms : Members) : Type 0 where
  text : (later : Bool) → IsUtf8 (members_text later ms)

pub no_member-utf8 : AreTexts no_members
no_member-utf8 = record { text = λ later. IsUtf8-are_ascii (125 ∷ []) refl }

pub member-utf8 : {ms : Members} (k : List ℕ) (d : Data) → are_ascii k ≡ true → IsText d → AreTexts ms → AreTexts (member k d ms)
unfolding IsText
member-utf8 {ms} k d all here others =
    let value : IsUtf8 (compact_text d ++ members_text true ms) = IsUtf8-append (compact_text d) (members_text true ms) here (others.text true) in
    let colon : IsUtf8 (58 ∷ (compact_text d ++ members_text true ms)) = IsUtf8-append (58 ∷ []) (compact_text d ++ members_text true ms) (IsUtf8-are_ascii (58 ∷ []) refl) value in
    record {
      text = λ later.
          IsUtf8-append (comma_if later) (quoted k ++ 58 ∷ (compact_text d ++ members_text true ms)) (comma-utf8 later)
          (IsUtf8-append (quoted k) (58 ∷ (compact_text d ++ members_text true ms)) (IsUtf8-quoted k (IsUtf8-are_ascii k all)) colon);
    }

pub object-utf8 : {ms : Members} → AreTexts ms → IsText (object ms)
unfolding IsText
object-utf8 {ms} all = IsUtf8-append (123 ∷ []) (members_text false ms) (IsUtf8-are_ascii (123 ∷ []) refl) (all.text false)

null-utf8 : IsText null
unfolding IsText
null-utf8 = IsUtf8-are_ascii _ refl

script-utf8 : (v : schema.Script) → IsText (form.script.tree v)
unfolding form.script
script-utf8 v =
    object-utf8
    (member-utf8 (codes "args") _ refl (bytes-utf8 v.args)
    (member-utf8 (codes "code_hash") _ refl (bytes-utf8 v.code_hash)
    (member-utf8 (codes "hash_type") _ refl (named-utf8 (codes "data") (codes "type") refl refl v.hash_type)
    no_member-utf8)))

cellbase_witness-utf8 : (v : schema.CellbaseWitness) → IsText (form.cellbase_witness.tree v)
unfolding form.cellbase_witness
cellbase_witness-utf8 v =
    object-utf8
    (member-utf8 (codes "lock") _ refl (script-utf8 v.lock)
    (member-utf8 (codes "message") _ refl (bytes-utf8 v.message)
    no_member-utf8))

out_point-utf8 : (v : schema.OutPoint) → IsText (form.out_point.tree v)
unfolding form.out_point
out_point-utf8 v =
    object-utf8
    (member-utf8 (codes "index") _ refl (number-utf8 v.index)
    (member-utf8 (codes "tx_hash") _ refl (bytes-utf8 v.tx_hash)
    no_member-utf8))

cell_input-utf8 : (v : schema.CellInput) → IsText (form.cell_input.tree v)
unfolding form.cell_input
cell_input-utf8 v =
    object-utf8
    (member-utf8 (codes "previous_output") _ refl (out_point-utf8 v.previous_output)
    (member-utf8 (codes "since") _ refl (number-utf8 v.since)
    no_member-utf8))

cell_dep-utf8 : (v : schema.CellDep) → IsText (form.cell_dep.tree v)
unfolding form.cell_dep
cell_dep-utf8 v =
    object-utf8
    (member-utf8 (codes "dep_type") _ refl (named-utf8 (codes "code") (codes "dep_group") refl refl v.dep_type)
    (member-utf8 (codes "out_point") _ refl (out_point-utf8 v.out_point)
    no_member-utf8))

type_script-utf8 : (s : Option schema.Script) → IsText ((option form.script).tree s)
type_script-utf8 None = null-utf8
type_script-utf8 (Some s) = script-utf8 s

cell_output-utf8 : (v : schema.CellOutput) → IsText (form.cell_output.tree v)
unfolding form.cell_output
cell_output-utf8 v =
    object-utf8
    (member-utf8 (codes "capacity") _ refl (number-utf8 v.capacity)
    (member-utf8 (codes "lock") _ refl (script-utf8 v.lock)
    (member-utf8 (codes "type") _ refl (type_script-utf8 v.type_script)
    no_member-utf8)))

transaction-utf8 : (v : schema.Transaction) → IsText (form.transaction.tree v)
unfolding form.transaction
transaction-utf8 v =
    object-utf8
    (member-utf8 (codes "cell_deps") _ refl (list-utf8 form.cell_dep cell_dep-utf8 v.raw.cell_deps)
    (member-utf8 (codes "header_deps") _ refl (list-utf8 byte_string bytes-utf8 v.raw.header_deps)
    (member-utf8 (codes "inputs") _ refl (list-utf8 form.cell_input cell_input-utf8 v.raw.inputs)
    (member-utf8 (codes "outputs") _ refl (list-utf8 form.cell_output cell_output-utf8 v.raw.outputs)
    (member-utf8 (codes "outputs_data") _ refl (list-utf8 byte_string bytes-utf8 v.raw.outputs_data)
    (member-utf8 (codes "version") _ refl (number-utf8 v.raw.version)
    (member-utf8 (codes "witnesses") _ refl (list-utf8 byte_string bytes-utf8 v.witnesses)
    no_member-utf8)))))))

header-utf8 : (v : schema.Header) → IsText (form.header.tree v)
unfolding form.header
header-utf8 v =
    object-utf8
    (member-utf8 (codes "compact_target") _ refl (number-utf8 v.compact_target)
    (member-utf8 (codes "dao") _ refl (bytes-utf8 v.dao)
    (member-utf8 (codes "epoch") _ refl (number-utf8 v.epoch)
    (member-utf8 (codes "nonce") _ refl (number-utf8 v.nonce)
    (member-utf8 (codes "number") _ refl (number-utf8 v.number)
    (member-utf8 (codes "parent_hash") _ refl (bytes-utf8 v.parent_hash)
    (member-utf8 (codes "proposals_hash") _ refl (bytes-utf8 v.proposals_hash)
    (member-utf8 (codes "timestamp") _ refl (number-utf8 v.timestamp)
    (member-utf8 (codes "transactions_root") _ refl (bytes-utf8 v.transactions_root)
    (member-utf8 (codes "uncles_hash") _ refl (bytes-utf8 v.uncles_hash)
    (member-utf8 (codes "version") _ refl (number-utf8 v.version)
    no_member-utf8)))))))))))

uncle-utf8 : (v : schema.UncleBlock) → IsText (form.uncle.tree v)
unfolding form.uncle
uncle-utf8 v =
    object-utf8
    (member-utf8 (codes "header") _ refl (header-utf8 v.header)
    (member-utf8 (codes "proposals") _ refl (list-utf8 byte_string bytes-utf8 v.proposals)
    no_member-utf8))

block-utf8 : (v : schema.Block) → IsText (form.block.tree v)
unfolding form.block
block-utf8 v =
    object-utf8
    (member-utf8 (codes "header") _ refl (header-utf8 v.header)
    (member-utf8 (codes "proposals") _ refl (list-utf8 byte_string bytes-utf8 v.proposals)
    (member-utf8 (codes "transactions") _ refl (list-utf8 form.transaction transaction-utf8 v.transactions)
    (member-utf8 (codes "uncles") _ refl (list-utf8 form.uncle uncle-utf8 v.uncles)
    no_member-utf8))))

pub is_utf8 : (d : Data) → IsText d → IsUtf8 (compact_text d)
unfolding IsText
is_utf8 d text = text

pub block-is_utf8 : (v : schema.Block) → IsUtf8 (compact_text (form.block.tree v))
unfolding IsText
block-is_utf8 v = block-utf8 v

pub transaction-is_utf8 : (v : schema.Transaction) → IsUtf8 (compact_text (form.transaction.tree v))
unfolding IsText
transaction-is_utf8 v = transaction-utf8 v

pub script-is_utf8 : (v : schema.Script) → IsUtf8 (compact_text (form.script.tree v))
unfolding IsText
script-is_utf8 v = script-utf8 v

pub cellbase_witness-is_utf8 : (v : schema.CellbaseWitness) → IsUtf8 (compact_text (form.cellbase_witness.tree v))
unfolding IsText
cellbase_witness-is_utf8 v = cellbase_witness-utf8 v
