use Rattle.std.proofs.Common.{◌≡◌, ◌-◌, map}
use Rattle.std.specs.Prelude.{is_some}
use Rattle.std.specs.List.{list_any, range_with_len}
use Rattle.cell_state.proofs.cells.is_none_live.Given as goal

abbrev pub invariant-indexes : goal.invariant-indexes
invariant-indexes g l =
    list_any (λ o. is_some (g.C.Cells.rows l.cells o)) (map (λ index. record { tx_hash = l.hash; index = index }) (range_with_len 0 l.count))
    ≡ list_any (λ o. is_some (g.C.Cells.rows l.cells o)) (map (λ index. record { tx_hash = l.hash; index = index }) (range_with_len l.i (l.count - l.i)))
