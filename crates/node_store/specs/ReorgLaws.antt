-- What a move over a chain that has joined may suppose, in words.
use Rattle.std.specs.Prelude.{◌≡◌, ℕ, ◌<◌, ◌≤◌, List, length, map, take, Some, IsTrue}
use Rattle.std.specs.List.{All}
use Rattle.chain_defs.specs.Schema.{OutPoint, Block}
use Rattle.chain_defs.specs.Kept.{block_at, parent_place}
use Rattle.chain_defs.specs.Branch.{branch}
use Rattle.chain_defs.specs.Cell.{Cell, holds_its_own}
use Rattle.chain_defs.specs.Events.{live_cell}
use Rattle.chain_defs.specs.Row.{Row, live_row}
use Rattle.chain_tree.specs.Told.{Stored, blocks_of}
use Rattle.chain_defs.specs.Fits.{FitsExt}
use Rattle.chain_defs.specs.FitLaws.{IsCanonical, AreCanonical}
use Rattle.verdict_defs.specs.Ext.{ext_of}
use Rattle.verdict_defs.specs.Chain.{Chain, chain_of_genesis, chain_after}
use Rattle.verdict_defs.specs.Laws.{MayJoin}
use Rattle.disk_defs.specs.Snapshot.{Snapshot, IsOfBlocks}
use Rattle.store_defs.specs.Store.{IsJoined, AreJoined, StandsFor}
use Rattle.outside.specs.Image.{Image}
use Rattle.cell_state.specs.Moves.{EachCanBeTakenBack}

-- ---- Canonical blocks

-- Law: the blocks of a chain are canonical with the genesis alone, and where they are so, they are after any item.
abbrev pub KeptAreCanonical : Type 0
KeptAreCanonical = ((specification genesis : List ℕ) → AreCanonical (chain_of_genesis specification genesis).blocks)
    × ((chain : Chain) (item : List ℕ) → AreCanonical chain.blocks → AreCanonical (chain_after chain item).blocks)

-- Law: those of a chain for which an image stands are.
abbrev pub StoredAreCanonical : Type 0
StoredAreCanonical = (chain : Chain) (image : Image) → StandsFor chain image → AreCanonical chain.blocks

-- ---- Exts

-- The own ext of each block after the genesis fits its bytes.
abbrev pub OwnExtsFit : Chain → Type 0
OwnExtsFit chain = (place parent : ℕ) (b : Block) → block_at chain.blocks place ≡ Some b → parent_place chain.blocks place ≡ Some parent
    → FitsExt (ext_of chain.spec (take place chain.blocks) parent b)

-- Law: over canonical blocks the ext of a canonical block that may join fits its bytes.
abbrev pub ExtsFit : Type 0
ExtsFit = (chain : Chain) (b : Block) (may : MayJoin chain.spec chain.blocks b) → AreCanonical chain.blocks → IsCanonical b
    → FitsExt (ext_of chain.spec chain.blocks may.parent b)

-- Law: so do the own exts of a chain that has joined.
abbrev pub JoinedExtsFit : Type 0
JoinedExtsFit = (chain : Chain) → IsJoined chain → AreCanonical chain.blocks → OwnExtsFit chain

-- Law: where a chain of canonical blocks has joined, and its own exts stand beside its blocks, each block that has a parent can be taken back.
abbrev pub JoinedCanBeTakenBack : Type 0
JoinedCanBeTakenBack = (chain : Chain) (stored : List Stored) → blocks_of stored ≡ chain.blocks → AreJoined chain (map (λ it. it.ext) stored)
    → AreCanonical chain.blocks → EachCanBeTakenBack stored

-- ---- Rows

-- Law: where a chain of canonical blocks has joined, each live cell of a branch holds what it occupies.
abbrev pub CellsHoldTheirOwn : Type 0
CellsHoldTheirOwn = (chain : Chain) (place : ℕ) (o : OutPoint) (cell : Cell) → IsJoined chain → AreCanonical chain.blocks → place < length chain.blocks
    → live_cell (branch chain.blocks place) o ≡ Some cell → IsTrue (holds_its_own cell.output cell.content)

-- A row is one of so many kept blocks, and what it occupies is within its capacity.
pub record IsKeptRow (kept : ℕ) (row : Row) : Type 0 where
  pub block : row.block < kept
  pub occupied : row.occupied ≤ row.capacity

-- Law: so each row of a branch is one of the chain's blocks, and occupies at most its capacity,
abbrev pub RowsAreKept : Type 0
RowsAreKept = (chain : Chain) (place : ℕ) (o : OutPoint) (row : Row) → IsJoined chain → AreCanonical chain.blocks → place < length chain.blocks
    → live_row chain.blocks place o ≡ Some row → IsKeptRow (length chain.blocks) row

-- and each row of a snapshot of the chain's blocks.
abbrev pub SnapshotRowsAreKept : Type 0
SnapshotRowsAreKept = (chain : Chain) (s : Snapshot) → IsJoined chain → AreCanonical chain.blocks → IsOfBlocks chain.blocks s
    → All (λ it. IsKeptRow (length chain.blocks) it.1) s.rows
