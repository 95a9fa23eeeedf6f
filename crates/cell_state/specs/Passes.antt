-- What the passes over a block's events do at an out-point.
use Rattle.std.specs.Prelude.{◌≡◌, ℕ, suc, true, false, List, [], ◌∷◌, Option, Some, None, IsSome}
use Rattle.chain_defs.specs.Schema.{OutPoint}
use Rattle.chain_defs.specs.Cell.{Cell}
use Rattle.chain_defs.specs.Events.{Event, Makes, Spends, last_naming}
use Rattle.chain_defs.specs.Fit.{live_by}
use Rattle.chain_defs.specs.Row.{Row, row_of, row_after}
use Rattle.cell_state.specs.declared.slots.Slot.{Slot}
use Rattle.cell_state.specs.declared.slots.Slot.TheVariants.{Live, Spent, Added, Gone}
use Rattle.cell_state.specs.Slots.{StateValue, at, row_before, is_live, settled}

-- how many of the events are makes
abbrev pub makes_in : List Event → ℕ
makes_in [] = 0
makes_in (Makes o cell ∷ later) = suc (makes_in later)
makes_in (Spends o ∷ later) = makes_in later

-- ---- Marks

abbrev pub spent_mark : Option Slot → Option Slot
spent_mark None = None
spent_mark (Some (Live row)) = Some (Spent row)
spent_mark (Some (Spent row)) = Some (Spent row)
spent_mark (Some Added) = Some Gone
spent_mark (Some Gone) = Some Gone

abbrev pub made_mark : Option Slot → Option Slot
made_mark None = Some Added
made_mark (Some (Live row)) = Some (Live row)
made_mark (Some (Spent row)) = Some (Live row)
made_mark (Some Added) = Some Added
made_mark (Some Gone) = Some Added

-- After events the slots say what is live, and keep the rows from before.
abbrev pub AreMarked : List Event → StateValue → StateValue → Type 0
AreMarked events old new = (o : OutPoint) → is_live (at new o) ≡ live_by (last_naming o events) (is_live (at old o))

abbrev pub unmarked : Option Slot → Option Slot
unmarked slot = settled (row_before slot)

abbrev pub unmarked_by : Option Event → Option Slot → Option Slot
unmarked_by None slot = slot
unmarked_by (Some event) slot = unmarked slot

-- ---- Rows

abbrev pub settled_made : Row → Option Slot → Option Slot
settled_made row None = None
settled_made row (Some (Live before)) = Some (Live row)
settled_made row (Some (Spent before)) = None
settled_made row (Some Added) = Some (Live row)
settled_made row (Some Gone) = None

abbrev pub settled_spent : Option Slot → Option Slot
settled_spent None = None
settled_spent (Some (Live row)) = Some (Live row)
settled_spent (Some (Spent row)) = None
settled_spent (Some Added) = Some Added
settled_spent (Some Gone) = None

-- What events leave of a slot, by the last of them that names it: nothing of one that is not live, the row of one that was made last.
pub record Settles (place : ℕ) (last : Option Event) (old new : Option Slot) : Type 0 where
  pub unnamed : last ≡ None → new ≡ old
  pub live : is_live new ≡ is_live old
  pub gone : IsSome last → is_live old ≡ false → new ≡ None
  pub made : (o : OutPoint) (cell : Cell) → last ≡ Some (Makes o cell) → is_live old ≡ true → new ≡ Some (Live (row_of place cell))

-- The slots have the rows after events.
abbrev pub HaveRowsAfter : ℕ → List Event → StateValue → StateValue → Type 0
HaveRowsAfter place events old new = (rows : OutPoint → Option Row) → ((o : OutPoint) → at old o ≡ settled (rows o)) → (o : OutPoint) → at new o ≡ settled (row_after place events rows o)
