-- A specification in JSON (docs/FORMATS.md, A specification as JSON): the table of rows by which it is written and read.
use Rattle.std.specs.Prelude.{ℕ, List, [], ◌∷◌, ◌++◌, codes, ◌==◌, ◌&&◌, ◌||◌, if◌then◌else◌}
use Rattle.std.specs.Fmt.{decimal}
use Rattle.chain_defs.specs.Specification.{Specification, keeps_s6}
use Rattle.chain_defs.specs.Epochs.{value_number, value_index, value_length}
use Rattle.json_defs.specs.Form.{Form, Row, row, hex_number, byte_string, is_text}
use Rattle.json_defs.specs.Blocks.{object}

-- Epochs as they are written by hand: `4`, or `1 1/3`, which has the index over the length after the number.
unfoldable pub span_text : ℕ → List ℕ
span_text value =
    if value_length value == 0 then decimal (value_number value)
    else decimal (value_number value) ++ codes " " ++ decimal (value_index value) ++ codes "/" ++ decimal (value_length value)

-- An epoch value: a number, or the text by hand of one that is well formed and has nothing above it, as S6 asks.
unfoldable pub epochs : Form ℕ
epochs = record {
  tree = hex_number.tree;
  reads = λ value t. hex_number.reads value t || (keeps_s6 value && is_text (span_text value) t);
}

abbrev pub specification_rows : Specification → List Row
specification_rows s =
    row (codes "compact_target") hex_number s.compact_target
    ∷ row (codes "dao_code_hash") byte_string s.dao_code_hash
    ∷ row (codes "epoch_length") hex_number s.epoch_length
    ∷ row (codes "halving_interval") hex_number s.halving_interval
    ∷ row (codes "maturity") epochs s.maturity
    ∷ row (codes "max_block_bytes") hex_number s.max_block_bytes
    ∷ row (codes "max_cycles") hex_number s.max_cycles
    ∷ row (codes "max_proposals") hex_number s.max_proposals
    ∷ row (codes "primary_reward") hex_number s.primary_reward
    ∷ row (codes "secondary_reward") hex_number s.secondary_reward
    ∷ row (codes "w_close") hex_number s.w_close
    ∷ row (codes "w_far") hex_number s.w_far
    ∷ []

unfoldable pub specification : Form Specification
specification = object specification_rows
