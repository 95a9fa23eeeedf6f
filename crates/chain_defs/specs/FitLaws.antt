-- What of canonical values fits the bytes of a row, in words.
use Rattle.std.specs.Prelude.{◌≡◌, ℕ, ◌^◌, ◌<◌, List, length, flat_map, Some, slice_get, IsTrue}
use Rattle.chain_defs.specs.Kept.{block_at}
use Rattle.chain_defs.specs.Schema.{Block, block, Transaction, CellInput, OutPoint}
use Rattle.chain_defs.specs.CkbHash.{ckbhash}
use Rattle.chain_defs.specs.Cell.{Cell}
use Rattle.chain_defs.specs.Row.{row_of, IsOutputOf}
use Rattle.chain_defs.specs.Fits.{FitsRow}

-- A block is one of the schema: some bytes encode it.
abbrev pub IsCanonical : Block → Type 0
IsCanonical b = IsTrue (block.encoding b).fits

-- Each of these blocks is.
abbrev pub AreCanonical : List Block → Type 0
AreCanonical blocks = (place : ℕ) (b : Block) → block_at blocks place ≡ Some b → IsCanonical b

-- the inputs of a block's transactions, in their order
abbrev pub inputs_of : Block → List CellInput
inputs_of b = flat_map (λ t. t.raw.inputs) b.transactions

-- Law: a hash has 32 bytes.
abbrev pub HashesHave32 : Type 0
HashesHave32 = (message : List ℕ) → length (ckbhash message) ≡ 32

-- Law: an output of a canonical block has a row that fits, where the place of the block does.
abbrev pub RowsOfOutputsFit : Type 0
RowsOfOutputsFit = (b : Block) (place : ℕ) (o : OutPoint) (cell : Cell) → IsCanonical b → place < 2 ^ 32 → IsOutputOf b o cell → FitsRow (o, row_of place cell)

-- Law: each out-point that an input of a canonical block names fits.
abbrev pub InputsFit : Type 0
InputsFit = (b : Block) (place index : ℕ) (t : Transaction) (input : CellInput) → IsCanonical b → slice_get b.transactions place ≡ Some t
    → slice_get t.raw.inputs index ≡ Some input → (length input.previous_output.tx_hash ≡ 32) × (input.previous_output.index < 2 ^ 32)

-- Law: the transactions of a canonical block are so few that four bytes count them, and so are all their inputs.
abbrev pub TransactionsAreFew : Type 0
TransactionsAreFew = (b : Block) → IsCanonical b → length b.transactions < 2 ^ 32

abbrev pub InputsAreFew : Type 0
InputsAreFew = (b : Block) → IsCanonical b → length (inputs_of b) < 2 ^ 32
