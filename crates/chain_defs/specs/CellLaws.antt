-- What events and cells are for, in words (docs/RULES.md, "Cells").
use Rattle.std.specs.Prelude.{◌≡◌, ◌↔◌, ℕ, ◌<◌, ◌⊎◌, Bool, false, List, [], ◌∷◌, ◌++◌, length, Option, Some, is_some, if◌then◌else◌, IsTrue, slice_get}
use Rattle.std.specs.List.{Contains, count_by, list_any}
use Rattle.chain_defs.specs.Schema.{OutPoint, CellInput, Transaction, Block}
use Rattle.chain_defs.specs.Kept.{IsKept, place_of, block_at}
use Rattle.chain_defs.specs.Branch.{branch}
use Rattle.chain_defs.specs.Cell.{Cell}
use Rattle.chain_defs.specs.Events.{Event, Makes, Spends, events_of_block, events, names, cell_after, live_cell, cell_seen}
use Rattle.chain_defs.specs.Fit.{AllFit, none_live}
use Rattle.chain_defs.specs.Row.{Row, live_row, row_after, row_left, IsOutputOf}

-- ---- What blocks make and spend

-- a transaction of a block after its first one has an input with an out-point
pub record IsInputOf (b : Block) (o : OutPoint) : Type 0 where
  pub place : ℕ
  pub later : 0 < place
  pub t : Transaction
  pub there : slice_get b.transactions place ≡ Some t
  pub index : ℕ
  pub input : CellInput
  pub is_input : slice_get t.raw.inputs index ≡ Some input
  pub out_point : input.previous_output ≡ o

-- Law: a branch makes just the outputs of its blocks.
abbrev pub MakesAreOutputs : Type 0
MakesAreOutputs = (blocks : List Block) (o : OutPoint) (cell : Cell)
    → Contains (events blocks) (Makes o cell) ↔ ((b : Block) × (block_at blocks cell.height ≡ Some b) × IsOutputOf b o cell)

-- Law: it spends just the inputs of its blocks but those of the genesis and of each first transaction.
abbrev pub SpendsAreInputs : Type 0
SpendsAreInputs = (blocks : List Block) (o : OutPoint)
    → Contains (events blocks) (Spends o) ↔ ((height : ℕ) × (b : Block) × (0 < height) × (block_at blocks height ≡ Some b) × IsInputOf b o)

-- ---- Live by counting

abbrev pub makes : OutPoint → Event → Bool
makes o (Makes other cell) = names o (Makes other cell)
makes o (Spends other) = false

abbrev pub spends : OutPoint → Event → Bool
spends o (Makes other cell) = false
spends o (Spends other) = names o (Spends other)

-- Law: where each event fits what is live before it, a cell is live exactly where more makes than spends name it.
abbrev pub LivesByCounting : Type 0
LivesByCounting = (events : List Event) (o : OutPoint) → AllFit events none_live
    → IsTrue (is_some (cell_after events o)) ↔ (count_by (spends o) events < count_by (makes o) events)

-- ---- A block's events

-- rows with one event of the block at a place applied
abbrev pub with_event : ℕ → Event → (OutPoint → Option Row) → OutPoint → Option Row
with_event place event rows o = if names o event then row_left place event else rows o

-- with events applied one after the other
abbrev pub with_events : ℕ → List Event → (OutPoint → Option Row) → OutPoint → Option Row
with_events place [] rows = rows
with_events place (event ∷ later) rows = with_events place later (with_event place event rows)

-- Law: the rows after events are the rows before with the events applied in their order. What no event names stays.
abbrev pub AppliesInOrder : Type 0
AppliesInOrder = (place : ℕ) (events : List Event) (rows : OutPoint → Option Row) (o : OutPoint)
    → (row_after place events rows o ≡ with_events place events rows o)
    × (list_any (names o) events ≡ false → row_after place events rows o ≡ rows o)

-- Law: the rows of a branch with one block more are those of its parent with the block's events applied.
abbrev pub GrowsByABlock : Type 0
GrowsByABlock = (kept : List Block) (b : Block) (parent : ℕ) (o : OutPoint) → IsKept (kept ++ b ∷ [])
    → place_of kept b.header.parent_hash ≡ Some parent
    → live_row (kept ++ b ∷ []) (length kept) o ≡ row_after (length kept) (events_of_block (length (branch kept parent)) b) (live_row kept parent) o

-- ---- Cells are outputs

-- Law: a live cell is an output, with its out-point, of the block at its height.
abbrev pub CellsAreOutputs : Type 0
CellsAreOutputs = (blocks : List Block) (o : OutPoint) (cell : Cell) → live_cell blocks o ≡ Some cell
    → (b : Block) × (block_at blocks cell.height ≡ Some b) × IsOutputOf b o cell

-- Law: so is a cell that a transaction of a block on the branch sees, or it is an output of a transaction before it in that block.
abbrev pub SeenCellsAreOutputs : Type 0
SeenCellsAreOutputs = (blocks : List Block) (b : Block) (place : ℕ) (o : OutPoint) (cell : Cell) → cell_seen blocks b place o ≡ Some cell
    → ((made : Block) × (block_at blocks cell.height ≡ Some made) × IsOutputOf made o cell)
    ⊎ ((cell.height ≡ length blocks) × (cell.transaction < place) × IsOutputOf b o cell)
