use Rattle.std.proofs.Common.{◌≡◌, ◌*◌, ◌≤◌, ◌^◌, ◌-◌, take}
use Rattle.std.specs.Prelude.{sum_by}
use Rattle.block_judge.proofs.transactions.freed_with.Given as goal

abbrev pub invariant-inputs : goal.invariant-inputs
invariant-inputs l = (l.freed ≡ sum_by (λ input. input.row.occupied) (take l.i l.inputs)) × (l.freed ≤ l.i * (2 ^ 64 - 1))
