-- The objects of a block in JSON (docs/FORMATS.md, Blocks as JSON): a table of rows for each, by which it is written and
-- read. A key is one row.
use Rattle.std.specs.Prelude.{ℕ, List, [], ◌∷◌, ◌++◌, codes, Bool, ◌||◌}
use Rattle.chain_defs.specs.Schema as schema
use Rattle.serde_json.specs.Data.{object as tree_object, Members}
use Rattle.serde_json.specs.Written.{compact_text}
use Rattle.json_defs.specs.Form.{Form, Row, hex_number, byte_string, named_byte, list, option, row, members, members_read, without, is_object}

-- an object of these rows alone
abbrev pub object : {V : Type 0} → (V → List Row) → Form V
object rows = record {
  tree = λ v. tree_object (members (rows v));
  reads = λ v t. is_object (members_read (rows v)) t;
}

-- a key that may stand in a header and in a transaction. Its value is not looked at.
abbrev pub free_key : List ℕ
free_key = codes "hash"

abbrev pub script_rows : schema.Script → List Row
script_rows s =
    row (codes "args") byte_string s.args
    ∷ row (codes "code_hash") byte_string s.code_hash
    ∷ row (codes "hash_type") (named_byte (codes "data") (codes "type")) s.hash_type
    ∷ []

unfoldable pub script : Form schema.Script
script = object script_rows

abbrev pub out_point_rows : schema.OutPoint → List Row
out_point_rows o =
    row (codes "index") hex_number o.index
    ∷ row (codes "tx_hash") byte_string o.tx_hash
    ∷ []

unfoldable pub out_point : Form schema.OutPoint
out_point = object out_point_rows

abbrev pub cell_input_rows : schema.CellInput → List Row
cell_input_rows i =
    row (codes "previous_output") out_point i.previous_output
    ∷ row (codes "since") hex_number i.since
    ∷ []

unfoldable pub cell_input : Form schema.CellInput
cell_input = object cell_input_rows

abbrev pub cell_dep_rows : schema.CellDep → List Row
cell_dep_rows d =
    row (codes "dep_type") (named_byte (codes "code") (codes "dep_group")) d.dep_type
    ∷ row (codes "out_point") out_point d.out_point
    ∷ []

unfoldable pub cell_dep : Form schema.CellDep
cell_dep = object cell_dep_rows

abbrev pub cell_output_rows : schema.CellOutput → List Row
cell_output_rows o =
    row (codes "capacity") hex_number o.capacity
    ∷ row (codes "lock") script o.lock
    ∷ row (codes "type") (option script) o.type_script
    ∷ []

unfoldable pub cell_output : Form schema.CellOutput
cell_output = object cell_output_rows

abbrev pub transaction_rows : schema.Transaction → List Row
transaction_rows t =
    row (codes "cell_deps") (list cell_dep) t.raw.cell_deps
    ∷ row (codes "header_deps") (list byte_string) t.raw.header_deps
    ∷ row (codes "inputs") (list cell_input) t.raw.inputs
    ∷ row (codes "outputs") (list cell_output) t.raw.outputs
    ∷ row (codes "outputs_data") (list byte_string) t.raw.outputs_data
    ∷ row (codes "version") hex_number t.raw.version
    ∷ row (codes "witnesses") (list byte_string) t.witnesses
    ∷ []

unfoldable pub transaction : Form schema.Transaction
transaction = record {
  tree = λ t. tree_object (members (transaction_rows t));
  reads = λ t d. is_object (λ ms. members_read (transaction_rows t) (without free_key ms)) d;
}

-- The uncles' hash stands at `uncles_hash`, and may be read at `extra_hash` in its place. Each goes where its key belongs.
abbrev pub header_rows : List Row → List Row → schema.Header → List Row
header_rows at_extra_hash at_uncles_hash h =
    row (codes "compact_target") hex_number h.compact_target
    ∷ row (codes "dao") byte_string h.dao
    ∷ row (codes "epoch") hex_number h.epoch
    ∷ (at_extra_hash
    ++ (row (codes "nonce") hex_number h.nonce
    ∷ row (codes "number") hex_number h.number
    ∷ row (codes "parent_hash") byte_string h.parent_hash
    ∷ row (codes "proposals_hash") byte_string h.proposals_hash
    ∷ row (codes "timestamp") hex_number h.timestamp
    ∷ row (codes "transactions_root") byte_string h.transactions_root
    ∷ (at_uncles_hash
    ++ (row (codes "version") hex_number h.version
    ∷ []))))

abbrev pub usual_header_rows : schema.Header → List Row
usual_header_rows h = header_rows [] (row (codes "uncles_hash") byte_string h.uncles_hash ∷ []) h

abbrev pub other_header_rows : schema.Header → List Row
other_header_rows h = header_rows (row (codes "extra_hash") byte_string h.uncles_hash ∷ []) [] h

abbrev pub header_read : schema.Header → Members → Bool
header_read h ms = members_read (usual_header_rows h) ms || members_read (other_header_rows h) ms

unfoldable pub header : Form schema.Header
header = record {
  tree = λ h. tree_object (members (usual_header_rows h));
  reads = λ h d. is_object (λ ms. header_read h (without free_key ms)) d;
}

abbrev pub uncle_rows : schema.UncleBlock → List Row
uncle_rows u =
    row (codes "header") header u.header
    ∷ row (codes "proposals") (list byte_string) u.proposals
    ∷ []

unfoldable pub uncle : Form schema.UncleBlock
uncle = object uncle_rows

abbrev pub block_rows : schema.Block → List Row
block_rows b =
    row (codes "header") header b.header
    ∷ row (codes "proposals") (list byte_string) b.proposals
    ∷ row (codes "transactions") (list transaction) b.transactions
    ∷ row (codes "uncles") (list uncle) b.uncles
    ∷ []

unfoldable pub block : Form schema.Block
block = object block_rows

-- what the first witness of a cellbase holds
abbrev pub cellbase_witness_rows : schema.CellbaseWitness → List Row
cellbase_witness_rows w =
    row (codes "lock") script w.lock
    ∷ row (codes "message") byte_string w.message
    ∷ []

unfoldable pub cellbase_witness : Form schema.CellbaseWitness
cellbase_witness = object cellbase_witness_rows

-- the compact text of a value
abbrev pub text_of : {V : Type 0} → Form V → V → List ℕ
text_of form v = compact_text (form.tree v)
