use Rattle.std.proofs.Common.{◌≡◌, drop}
use Rattle.std.specs.List.{list_all}
use Rattle.cell_state.specs.Moves.{is_below}
use Rattle.cell_state.proofs.taking_back.are_below.Given as goal

abbrev pub invariant-rows : goal.invariant-rows
invariant-rows l = list_all (is_below l.place) l.rows ≡ list_all (is_below l.place) (drop l.row-index l.rows)
