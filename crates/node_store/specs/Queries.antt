-- What queries answer of a node's chain.
use Rattle.std.specs.Prelude.{◌≡◌, ℕ, List, Option, Some, None}
use Rattle.chain_defs.specs.Shape.{encoded, IsEncoding}
use Rattle.chain_defs.specs.Schema.{OutPoint, Block, block, header}
use Rattle.chain_defs.specs.Kept.{block_at, block_hash}
use Rattle.chain_defs.specs.Tip.{tip_place, best_branch}
use Rattle.chain_defs.specs.Cell.{Cell}
use Rattle.chain_defs.specs.Events.{live_cell}
use Rattle.chain_defs.specs.Row.{Row, row_on}
use Rattle.cell_state.specs.Copies.{ResolvedValue, IsCopyOf}

-- a header, and the hash of its block
pub record HeaderValue : Type 0 where
  pub hash : List ℕ
  pub bytes : List ℕ

-- the row of a live cell, and the height of the block that made it
pub record LiveValue : Type 0 where
  pub row : Row
  pub height : ℕ

-- a copy of a live cell, and the height of the block that made it
pub record FetchedValue : Type 0 where
  pub copy : ResolvedValue
  pub height : ℕ

-- what is answered for a height of the best branch: the header of its block, and none where it has no block there
abbrev pub IsHeaderAt : List Block → ℕ → Option HeaderValue → Type 0
IsHeaderAt kept height None = block_at (best_branch kept) height ≡ None
IsHeaderAt kept height (Some told) =
    (b : Block) × (block_at (best_branch kept) height ≡ Some b) × (told.hash ≡ block_hash b) × (told.bytes ≡ encoded header b.header)

-- what is answered of the block there: its encoding
abbrev pub IsBlockAt : List Block → ℕ → Option (List ℕ) → Type 0
IsBlockAt kept height None = block_at (best_branch kept) height ≡ None
IsBlockAt kept height (Some bytes) = (b : Block) × (block_at (best_branch kept) height ≡ Some b) × IsEncoding block bytes b

-- A cell is live with an out-point on the best branch, and this is its row there.
pub record IsLiveRow (kept : List Block) (o : OutPoint) (cell : Cell) (row : Row) : Type 0 where
  pub tip : ℕ
  pub is_tip : tip_place kept ≡ Some tip
  pub live : live_cell (best_branch kept) o ≡ Some cell
  pub its_row : row ≡ row_on kept tip cell

-- what is answered for an out-point: its live cell, and none where no cell is live with it
abbrev pub IsLiveCell : List Block → OutPoint → Option LiveValue → Type 0
IsLiveCell kept o None = live_cell (best_branch kept) o ≡ None
IsLiveCell kept o (Some told) = (cell : Cell) × IsLiveRow kept o cell told.row × (told.height ≡ cell.height)

-- and with its copy
abbrev pub IsFetched : List Block → OutPoint → Option FetchedValue → Type 0
IsFetched kept o None = live_cell (best_branch kept) o ≡ None
IsFetched kept o (Some told) =
    (cell : Cell) × IsLiveRow kept o cell told.copy.row × IsCopyOf cell told.copy × (told.height ≡ cell.height)
