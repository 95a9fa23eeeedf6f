-- The live cells as a finite list (docs/RULES.md, "Cells").
use Rattle.std.specs.Prelude.{◌≡◌, ◌↔◌, List, [], ◌∷◌, map, Some, None}
use Rattle.std.specs.List.{Contains, IsDistinct}
use Rattle.chain_defs.specs.Schema.{OutPoint}
use Rattle.chain_defs.specs.Cell.{Cell}
use Rattle.chain_defs.specs.Events.{Event, Makes, Spends, same_out_point, last_naming, cell_after}

-- The live cells after events, each with its out-point: of each make that no later event names, its cell, in the order of the makes.
unfoldable pub live_cells : List Event → List (OutPoint × Cell)
live_cells [] = []
live_cells (Makes o cell ∷ later) = elim (last_naming o later) [
  | None ↦ (o, cell) ∷ live_cells later
  | Some last ↦ live_cells later
]
live_cells (Spends o ∷ later) = live_cells later

-- Law: a cell is listed exactly where it is live after the events.
abbrev pub ListsJustTheLive : Type 0
ListsJustTheLive = (events : List Event) (o : OutPoint) (cell : Cell) → Contains (live_cells events) (o, cell) ↔ (cell_after events o ≡ Some cell)

-- Law: no out-point is listed twice.
abbrev pub ListsEachOnce : Type 0
ListsEachOnce = (events : List Event) → IsDistinct same_out_point (map (λ (listed : OutPoint × Cell). listed.0) (live_cells events))
