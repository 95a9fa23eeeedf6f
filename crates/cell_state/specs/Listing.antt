-- The rows of slots as a list.
use Rattle.std.specs.Prelude.{ℕ, List, [], ◌∷◌}
use Rattle.chain_defs.specs.Schema.{OutPoint}
use Rattle.chain_defs.specs.Row.{Row}
use Rattle.cell_state.specs.declared.slots.Slot.{Slot}
use Rattle.cell_state.specs.declared.slots.Slot.TheVariants.{Live, Spent, Added, Gone}

-- the out-point of a key
abbrev pub out_point_by : List ℕ × ℕ → OutPoint
out_point_by key = record { tx_hash = key.0; index = key.1 }

-- a slot's row first, where it is live as it was before a block
abbrev pub with_row : List ℕ × ℕ → Slot → List (OutPoint × Row) → List (OutPoint × Row)
with_row key (Live row) later = (out_point_by key, row) ∷ later
with_row key (Spent row) later = later
with_row key Added later = later
with_row key Gone later = later

-- the rows that are live, in the order of the slots
abbrev pub listed : List ((List ℕ × ℕ) × Slot) → List (OutPoint × Row)
listed [] = []
listed (entry ∷ later) = with_row entry.0 entry.1 (listed later)
