-- What stands at the out-points.
use Rattle.std.specs.Prelude.{◌≡◌, ℕ, Bool, true, false, ◌&&◌, nat_eq, List, length, Option, Some, None}
use Rattle.std.specs.Option.{option_map}
use Rattle.std.specs.Map.{lookup}
use Rattle.std.specs.Str.{bytes_eq}
use Rattle.chain_defs.specs.Schema.{OutPoint}
use Rattle.chain_defs.specs.Row.{Row}
use Rattle.cell_state.specs.declared.slots.Slot.{Slot}
use Rattle.cell_state.specs.declared.slots.Slot.TheVariants.{Live, Spent, Added, Gone}

-- A slot for each of some keys, in any order, and how many more fit without an allocation.
pub record StateValue : Type 0 where
  pub entries : List ((List ℕ × ℕ) × Slot)
  pub spare : ℕ

-- the most slots and spare places together: 2^50
unfoldable pub most : ℕ
most = 1125899906842624

-- the key of an out-point, and whether two keys are the same
abbrev pub key_of : OutPoint → List ℕ × ℕ
key_of o = (o.tx_hash, o.index)

abbrev pub same_key : List ℕ × ℕ → List ℕ × ℕ → Bool
same_key one other = bytes_eq one.0 other.0 && nat_eq one.1 other.1

-- the row from before the block
abbrev pub row_before : Option Slot → Option Row
row_before None = None
row_before (Some (Live row)) = Some row
row_before (Some (Spent row)) = Some row
row_before (Some Added) = None
row_before (Some Gone) = None

-- the slot at an out-point
abbrev pub at : StateValue → OutPoint → Option Slot
at state o = lookup (same_key (key_of o)) state.entries

-- The rows, as a function from out-points.
abbrev pub rows : StateValue → OutPoint → Option Row
rows state o = row_before (at state o)

-- how many there are
abbrev pub count : StateValue → ℕ
count state = length state.entries

-- a cell is live
abbrev pub is_live : Option Slot → Bool
is_live None = false
is_live (Some (Live row)) = true
is_live (Some (Spent row)) = false
is_live (Some Added) = true
is_live (Some Gone) = false

-- the slot of a row, where no block is being applied
abbrev pub settled : Option Row → Option Slot
settled row = option_map Live row

abbrev pub AreSettled : StateValue → Type 0
AreSettled state = (o : OutPoint) → at state o ≡ settled (rows state o)
