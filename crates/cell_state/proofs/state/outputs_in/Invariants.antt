use Rattle.std.proofs.Common.{◌≡◌, ◌*◌, ◌≤◌, length, take}
use Rattle.std.specs.List.{sum_by}
use Rattle.cell_state.proofs.state.outputs_in.Given as goal

abbrev pub invariant-loop-place : goal.invariant-loop-place
invariant-loop-place l = (l.count ≡ sum_by (λ t. length t.raw.outputs) (take l.place l.block.transactions)) × (l.count ≤ 1073741824 * l.place)
