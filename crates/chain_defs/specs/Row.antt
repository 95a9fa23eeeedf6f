-- The row of a live cell: what a node keeps of it in memory and on the disk, beside its out-point (docs/STORE.md, "A row").
use Rattle.std.specs.Prelude.{◌≡◌, ◌↔◌, ℕ, List, length, Option, Some, None, slice_get, slice_index}
use Rattle.std.specs.Option.{option_map}
use Rattle.std.specs.List.{Contains, AllPairs}
use Rattle.std.specs.declared.cmp.Ordering.{Ordering}
use Rattle.std.specs.declared.cmp.Ordering.TheVariants.{Less}
use Rattle.std.specs.Ordering.{nat_cmp, ordering_then}
use Rattle.std.specs.Cmp.Lexicographic.{slice_cmp}
use Rattle.chain_defs.specs.Schema.{OutPoint, Transaction, Block}
use Rattle.chain_defs.specs.Hashes.{transaction_hash}
use Rattle.chain_defs.specs.Branch.{branch, branch_places}
use Rattle.chain_defs.specs.Cell.{Cell, script_hash, data_hash, occupied_by, data_of}
use Rattle.chain_defs.specs.Events.{Event, Makes, Spends, last_naming, live_cell}

pub record Row : Type 0 where
  -- the place of the block that made the cell among the kept blocks, and of the transaction in that block
  pub block : ℕ
  pub transaction : ℕ
  -- shannons
  pub capacity : ℕ
  pub occupied : ℕ
  pub lock_hash : List ℕ
  pub type_hash : Option (List ℕ)
  pub data_hash : List ℕ
  pub data_len : ℕ

-- the row of a cell that the block at a place made
abbrev pub row_of : ℕ → Cell → Row
row_of place cell = record {
  block = place;
  transaction = cell.transaction;
  capacity = cell.output.capacity;
  occupied = occupied_by cell.output cell.content;
  lock_hash = script_hash cell.output.lock;
  type_hash = option_map script_hash cell.output.type_script;
  data_hash = data_hash cell.content;
  data_len = length cell.content;
}

-- ---- The rows of a branch

-- the row of a cell on the branch of a place: its block is the one of its height
abbrev pub row_on : List Block → ℕ → Cell → Row
row_on kept place cell = row_of (slice_index (branch_places kept place) cell.height) cell

-- The rows of a branch: one for each live cell.
unfoldable pub live_row : List Block → ℕ → OutPoint → Option Row
live_row kept place o = option_map (row_on kept place) (live_cell (branch kept place) o)

-- the row that an event of the block at a place leaves
abbrev pub row_left : ℕ → Event → Option Row
row_left place (Makes o cell) = Some (row_of place cell)
row_left place (Spends o) = None

abbrev pub row_or : ℕ → Option Row → Option Event → Option Row
row_or place before None = before
row_or place before (Some event) = row_left place event

-- The row of an out-point after events of the block at a place: what the last of them that names it left, and what was there where none does.
unfoldable pub row_after : ℕ → List Event → (OutPoint → Option Row) → OutPoint → Option Row
row_after place events before o = row_or place (before o) (last_naming o events)

-- ---- Rows in order

-- Out-points in order: by the bytes of the hash, and then by the index as a number.
abbrev pub out_point_cmp : OutPoint → OutPoint → Ordering
out_point_cmp one other = ordering_then (slice_cmp nat_cmp one.tx_hash other.tx_hash) (nat_cmp one.index other.index)

-- Rows in rising order of their out-points, no two of one.
abbrev pub IsRising : List (OutPoint × Row) → Type 0
IsRising rows = AllPairs (λ one other. out_point_cmp one.0 other.0 ≡ Less) rows

-- just the rows that there are, in rising order
pub record ListsRows (rows : OutPoint → Option Row) (list : List (OutPoint × Row)) : Type 0 where
  pub rising : IsRising list
  pub each : (o : OutPoint) (row : Row) → Contains list (o, row) ↔ (rows o ≡ Some row)

-- ---- Outputs that rows name

-- A cell is an output of a block at a height: of the transaction at its place there, with this out-point.
pub record IsOutputOf (b : Block) (o : OutPoint) (cell : Cell) : Type 0 where
  pub t : Transaction
  pub there : slice_get b.transactions cell.transaction ≡ Some t
  pub hash : transaction_hash t ≡ o.tx_hash
  pub output : slice_get t.raw.outputs o.index ≡ Some cell.output
  pub content : data_of t o.index ≡ cell.content
