-- What taking a block back does at an out-point, pass by pass.
use Rattle.std.specs.Prelude.{◌≡◌, ℕ, Bool, List, [], ◌∷◌, Option, Some, None, is_some, if◌then◌else◌}
use Rattle.chain_defs.specs.Schema.{OutPoint}
use Rattle.chain_defs.specs.Events.{same_out_point}
use Rattle.chain_defs.specs.Row.{Row}
use Rattle.cell_state.specs.declared.slots.Slot.{Slot}
use Rattle.cell_state.specs.declared.slots.Slot.TheVariants.{Live, Spent, Added, Gone}
use Rattle.cell_state.specs.Slots.{StateValue, at, is_live}

-- a slot after a change for each element of a list that passes a test, in their order
abbrev pub passed : {A : Type 0} → (A → Bool) → (A → Option Slot → Option Slot) → List A → Option Slot → Option Slot
passed test change [] slot = slot
passed test change (first ∷ later) slot = passed test change later (if test first then change first slot else slot)

-- a row is that of an out-point
abbrev pub is_at : OutPoint → OutPoint × Row → Bool
is_at o one = same_out_point one.0 o

-- a row is written where a slot is
abbrev pub row_written : OutPoint × Row → Option Slot → Option Slot
row_written one None = None
row_written one (Some slot) = Some (Live one.1)

-- the rows are there just where the slots are live
abbrev pub AreThere : (OutPoint → Option Row) → StateValue → Type 0
AreThere rows state = (o : OutPoint) → is_some (rows o) ≡ is_live (at state o)
