-- What contracts see of a copy of an old cell.
use Rattle.std.specs.Prelude.{◌≡◌, ℕ, List, Option, Some, slice_get, IsSomeAnd}
use Rattle.std.specs.Option.{option_map, option_and_then}
use Rattle.chain_defs.specs.Shape.{decoded}
use Rattle.chain_defs.specs.Schema.{OutPoint, CellOutput, cell_output, Transaction, Block}
use Rattle.chain_tree.specs.Told.{Stored}
use Rattle.chain_defs.specs.Cell.{Cell, data_of}
use Rattle.chain_defs.specs.Row.{Row, row_of, IsOutputOf}

-- an out-point with its row, and the bytes of the output and of its data
pub record ResolvedValue : Type 0 where
  pub out_point : OutPoint
  pub row : Row
  pub output : List ℕ
  pub content : List ℕ

-- a transaction with what it resolves to: the cells of its inputs and of its deps, and the places of its header deps
pub record ResolvedTxValue : Type 0 where
  pub tx : Transaction
  pub hash : List ℕ
  pub inputs : List ResolvedValue
  pub deps : List ResolvedValue
  pub headers : List ℕ

-- The bytes are those of a cell: the encoding of its output, and its data.
pub record IsCopyOf (cell : Cell) (copy : ResolvedValue) : Type 0 where
  pub output : decoded cell_output copy.output ≡ Some cell.output
  pub content : copy.content ≡ cell.content

-- the output at an index of the transaction at a place of a block, with its data
abbrev pub output_in : Block → ℕ → ℕ → Option (CellOutput × List ℕ)
output_in b place index =
    option_and_then (λ t. option_map (λ output. (output, data_of t index)) (slice_get t.raw.outputs index)) (slice_get b.transactions place)

-- there is an output, and the bytes are those of it and of its data
abbrev pub CopiesOutput : Option (CellOutput × List ℕ) → ResolvedValue → Type 0
CopiesOutput found copy = IsSomeAnd found (λ it. (decoded cell_output copy.output ≡ Some it.0) × (copy.content ≡ it.1))

-- Among kept blocks a row names an output: the cell is that output of the block at the row's place, and the row is its.
pub record NamesOutput (stored : List Stored) (o : OutPoint) (row : Row) (cell : Cell) : Type 0 where
  pub made : Stored
  pub there : slice_get stored row.block ≡ Some made
  pub output : IsOutputOf made.block o cell
  pub its_row : row ≡ row_of row.block cell
