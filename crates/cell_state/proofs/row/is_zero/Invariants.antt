use Rattle.std.proofs.Common.{◌≡◌, drop}
use Rattle.std.specs.Prelude.{◌==◌}
use Rattle.std.specs.List.{list_all}
use Rattle.cell_state.proofs.row.is_zero.Given as goal

abbrev pub invariant-bytes : goal.invariant-bytes
invariant-bytes l = list_all (λ b. b == 0) l.bytes ≡ list_all (λ b. b == 0) (drop l.byte-index l.bytes)
