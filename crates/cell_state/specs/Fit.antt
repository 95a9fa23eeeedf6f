-- What is odd about events of which one does not fit (docs/RULES.md, "Cells").
use Rattle.std.specs.Prelude.{◌≡◌, Bool, false, List, ◌∷◌, ◌++◌}
use Rattle.chain_defs.specs.Schema.{OutPoint}
use Rattle.chain_defs.specs.Events.{Event, Makes, Spends}
use Rattle.chain_defs.specs.Fit.{fits, live_after, AllFit}
use Rattle.cell_state.specs.declared.odd.Odd.{Odd}
use Rattle.cell_state.specs.declared.odd.Odd.TheVariants.{NotLive, Live}

-- of an event that does not fit
abbrev pub odd_of : Event → Odd
odd_of (Makes o cell) = Live o
odd_of (Spends o) = NotLive o

-- What is odd is the first of the events that does not fit.
pub record IsFirstOdd (events : List Event) (live : OutPoint → Bool) (odd : Odd) : Type 0 where
  pub earlier : List Event
  pub event : Event
  pub later : List Event
  pub parts : events ≡ earlier ++ event ∷ later
  pub fit : AllFit earlier live
  pub unfit : fits (live_after earlier live) event ≡ false
  pub cause : odd ≡ odd_of event
