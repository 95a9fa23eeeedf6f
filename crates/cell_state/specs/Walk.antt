-- The events of a block that are still to come, as a list.
use Rattle.std.specs.Prelude.{◌≡◌, ℕ, ◌+◌, Bool, ◌||◌, ◌==◌, List, [], ◌∷◌, ◌++◌, drop, Option, Some, None, slice_get, if◌then◌else◌}
use Rattle.chain_defs.specs.Schema.{Transaction}
use Rattle.chain_defs.specs.Cell.{Cell}
use Rattle.chain_defs.specs.Events.{Event, Makes, Spends, spends_of, events_of, events_from}
use Rattle.cell_state.specs.declared.made.Made.{Made}
use Rattle.cell_state.specs.declared.events.Event as walked
use Rattle.cell_state.specs.declared.events.Event.TheVariants as variants

-- a height of the block: rows do not depend on which it is, but that the genesis spends nothing
abbrev pub height_of : Bool → ℕ
height_of genesis = if genesis then 0 else 1

-- the spends of a transaction, where it has any: the genesis spends nothing, nor does a cellbase
abbrev pub spends_at : Transaction → ℕ → ℕ → List Event
spends_at t height place = if (height == 0) || (place == 0) then [] else spends_of t

abbrev pub made_cell : ℕ → Made → Cell
made_cell height made = record { output = made.output; content = made.content.now; height = height; transaction = made.place }

abbrev pub value_of : ℕ → walked.Event → Event
value_of height (variants.Makes o made) = Makes o (made_cell height made)
value_of height (variants.Spends o) = Spends o

-- the events of a transaction from an index on, and those of the transactions after it
abbrev pub left_at : Option Transaction → List Transaction → ℕ → ℕ → ℕ → List Event
left_at None later height place index = []
left_at (Some t) later height place index = drop index (events_of t height place) ++ events_from (place + 1) later height

-- the events of the transactions from a place on, but for as many of the first
unfoldable pub events_left : List Transaction → ℕ → ℕ → ℕ → List Event
events_left transactions height place index = left_at (slice_get transactions place) (drop (place + 1) transactions) height place index

-- the first of the events, where there is one
abbrev pub IsNext : List Event → Option walked.Event → List Event → Type 0
IsNext left None later = left ≡ []
IsNext left (Some event) later = (height : ℕ) × (left ≡ value_of height event ∷ later)
