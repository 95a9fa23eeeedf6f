-- What is found for a query, and the line of a live cell by its row.
use Rattle.std.specs.Prelude.{◌≡◌, ℕ, ℤ, Bool, List, Option, Some, None}
use Rattle.std.specs.Str.{bytes_eq}
use Rattle.chain_defs.specs.Cell.{Cell, occupied_by}
use Rattle.chain_defs.specs.Row.{Row, row_of}
use Rattle.chain_defs.specs.Schema.{OutPoint}
use Rattle.chain_defs.specs.Tip.{best_branch}
use Rattle.chain_defs.specs.Events.{live_cell}
use Rattle.cell_state.specs.Copies.{IsCopyOf}
use Rattle.verdict_defs.specs.Chain.{Chain}
use Rattle.supply_defs.specs.Laws.{supply_balance, occupied_balance}
use Rattle.node_store.specs.Queries.{LiveValue, FetchedValue}
use Rattle.report_defs.specs.Text.{cell_line}

abbrev pub row_line : Row → ℕ → List ℕ
row_line row height = cell_line row.capacity row.occupied height row.lock_hash row.type_hash row.data_hash row.data_len

-- nothing where there is no cell, and else its row and its height
abbrev pub IsCellFound : Option Cell → Option LiveValue → Type 0
IsCellFound live None = live ≡ None
IsCellFound live (Some found) = (cell : Cell) × (live ≡ Some cell) × (found.row ≡ row_of found.row.block cell) × (found.height ≡ cell.height)

-- a cell that is live on the best branch
abbrev pub IsLiveIn : Chain → Cell → Type 0
IsLiveIn chain cell = (o : OutPoint) × (live_cell (best_branch chain.blocks) o ≡ Some cell)

-- the capacities of a cell that was copied, its bytes, and its height
pub record IsCopied (cell : Cell) (found : FetchedValue) : Type 0 where
  pub copy : IsCopyOf cell found.copy
  pub capacity : found.copy.row.capacity ≡ cell.output.capacity
  pub occupied : found.copy.row.occupied ≡ occupied_by cell.output cell.content
  pub height : found.height ≡ cell.height

abbrev pub IsCopyFound : Option Cell → Option FetchedValue → Type 0
IsCopyFound live None = live ≡ None
IsCopyFound live (Some found) = (cell : Cell) × (live ≡ Some cell) × IsCopied cell found

-- what is left of the DAO field of a chain's tip: of what was issued, and of what live cells occupy
abbrev pub balances_of : Chain → ℤ × ℤ
balances_of chain = (supply_balance chain.spec (best_branch chain.blocks), occupied_balance (best_branch chain.blocks))

-- whether the lock of a listed row has a hash
abbrev pub is_of : List ℕ → OutPoint × Row → Bool
is_of lock listed = bytes_eq listed.1.lock_hash lock
