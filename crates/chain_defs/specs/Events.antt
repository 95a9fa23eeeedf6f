-- What the blocks of a branch make and spend, as a list, and the cells that are live after it (docs/RULES.md, "Cells"). A branch begins
-- with the genesis and has one block a height.
use Rattle.std.specs.Prelude.{ℕ, ◌+◌, Bool, ◌&&◌, ◌||◌, ◌==◌, List, [], ◌∷◌, ◌++◌, map, length, take, Option, Some, None, if◌then◌else◌}
use Rattle.std.specs.List.{range_with_len}
use Rattle.std.specs.Str.{bytes_eq}
use Rattle.chain_defs.specs.Schema.{OutPoint, CellOutput, Transaction, Block}
use Rattle.chain_defs.specs.Hashes.{transaction_hash}
use Rattle.chain_defs.specs.Cell.{Cell, data_of}

-- A transaction makes a cell with an out-point, or spends the cell with it.
pub data Event : Type 0 where
  Makes : OutPoint → Cell → Event
  Spends : OutPoint → Event

-- the out-points of a transaction's outputs
abbrev pub made_out_points : Transaction → List OutPoint
made_out_points t = map (λ index. record { tx_hash = transaction_hash t; index = index }) (range_with_len 0 (length t.raw.outputs))

-- ---- The events of a branch

-- the makes of the outputs from an index on
abbrev pub makes_from : ℕ → List CellOutput → Transaction → ℕ → ℕ → List Event
makes_from index [] t height place = []
makes_from index (output ∷ outputs) t height place =
    Makes (record { tx_hash = transaction_hash t; index = index }) (record { output = output; content = data_of t index; height = height; transaction = place })
    ∷ makes_from (index + 1) outputs t height place

-- the makes of a transaction: one for each output, in order
abbrev pub makes_of : Transaction → ℕ → ℕ → List Event
makes_of t height place = makes_from 0 t.raw.outputs t height place

-- the spends of a transaction: one for each input, in order
abbrev pub spends_of : Transaction → List Event
spends_of t = map (λ input. Spends input.previous_output) t.raw.inputs

-- What a transaction does at a height, at a place in its block: it spends, and then makes. The genesis spends nothing, nor does a cellbase.
abbrev pub events_of : Transaction → ℕ → ℕ → List Event
events_of t height place = (if (height == 0) || (place == 0) then [] else spends_of t) ++ makes_of t height place

-- what transactions do one after the other, the first of them at a place
abbrev pub events_from : ℕ → List Transaction → ℕ → List Event
events_from place [] height = []
events_from place (t ∷ later) height = events_of t height place ++ events_from (place + 1) later height

-- what the block at a height does
unfoldable pub events_of_block : ℕ → Block → List Event
events_of_block height b = events_from 0 b.transactions height

-- what blocks do one after the other, the first of them at a height
abbrev pub events_of_blocks : ℕ → List Block → List Event
events_of_blocks height [] = []
events_of_blocks height (b ∷ later) = events_of_block height b ++ events_of_blocks (height + 1) later

-- what a branch does, genesis to its last block
unfoldable pub events : List Block → List Event
events branch = events_of_blocks 0 branch

-- ---- Live cells

abbrev pub same_out_point : OutPoint → OutPoint → Bool
same_out_point one other = bytes_eq one.tx_hash other.tx_hash && (one.index == other.index)

abbrev pub out_point_of : Event → OutPoint
out_point_of (Makes o cell) = o
out_point_of (Spends o) = o

abbrev pub names : OutPoint → Event → Bool
names o event = same_out_point (out_point_of event) o

-- the last of the events that names an out-point
unfoldable pub last_naming : OutPoint → List Event → Option Event
last_naming o [] = None
last_naming o (event ∷ later) = elim (last_naming o later) [
  | Some last ↦ Some last
  | None ↦ if names o event then Some event else None
]

-- the cell that an event leaves: a make its cell, a spend none
abbrev pub cell_left : Option Event → Option Cell
cell_left None = None
cell_left (Some (Makes o cell)) = Some cell
cell_left (Some (Spends o)) = None

-- The live cell with an out-point after events: what the last of them that names it left.
unfoldable pub cell_after : List Event → OutPoint → Option Cell
cell_after events o = cell_left (last_naming o events)

-- the live cell with an out-point on a branch
abbrev pub live_cell : List Block → OutPoint → Option Cell
live_cell branch o = cell_after (events branch) o

-- The cell that transaction `place` of a block on the branch sees: the live one after those before it.
abbrev pub cell_seen : List Block → Block → ℕ → OutPoint → Option Cell
cell_seen branch b place o = cell_after (events branch ++ events_from 0 (take place b.transactions) (length branch)) o
