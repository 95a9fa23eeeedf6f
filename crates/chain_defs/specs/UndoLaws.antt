-- What the rows that a block spends, and taking it back, are for.
use Rattle.std.specs.Prelude.{◌≡◌, ◌↔◌, ℕ, Bool, true, false, List, Option, Some, None, IsTrue}
use Rattle.std.specs.List.{Contains, AllPairs, find}
use Rattle.chain_defs.specs.Schema.{OutPoint}
use Rattle.chain_defs.specs.Events.{Event, Makes, Spends, same_out_point, names}
use Rattle.chain_defs.specs.Row.{Row, row_after}
use Rattle.chain_defs.specs.Fit.{are_live, AllFit}
use Rattle.chain_defs.specs.Undo.{spent_of, undone, first_clash}

-- there is an event, and it spends
abbrev pub is_spend : Option Event → Bool
is_spend None = false
is_spend (Some (Makes o cell)) = false
is_spend (Some (Spends o)) = true

-- the rows of some that events spend: no out-point twice, and a row exactly where the first event that names its out-point spends it
pub record AreSpentOf (events : List Event) (rows : OutPoint → Option Row) (spent : List (OutPoint × Row)) : Type 0 where
  pub once : AllPairs (λ one other. same_out_point one.0 other.0 ≡ false) spent
  pub each : (o : OutPoint) (row : Row) → Contains spent (o, row) ↔ ((rows o ≡ Some row) × IsTrue (is_spend (find (names o) events)))

-- Law: those in the order of spending are.
abbrev pub SpendsRowsOnce : Type 0
SpendsRowsOnce = (events : List Event) (rows : OutPoint → Option Row) → AreSpentOf events rows (spent_of events rows)

-- rows before events that fit them, with the rows that the events spend, and the rows after them, made by the block at some place
pub record ComesBefore (events : List Event) (spent : List (OutPoint × Row)) (after before : OutPoint → Option Row) : Type 0 where
  pub place : ℕ
  pub fit : AllFit events (are_live before)
  pub spent_is : spent ≡ spent_of events before
  pub after_is : (o : OutPoint) → after o ≡ row_after place events before o

-- Law: events that fit can be taken back, and leave the rows that were before them, also where they make and spend a cell, or spend an out-point
-- and make it again.
abbrev pub TakesBack : Type 0
TakesBack = (events : List Event) (spent : List (OutPoint × Row)) (after before : OutPoint → Option Row) → ComesBefore events spent after before
    → (first_clash events spent after ≡ None) × ((o : OutPoint) → undone events spent after o ≡ before o)
