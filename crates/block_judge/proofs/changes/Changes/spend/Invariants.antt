use Rattle.std.proofs.Common.{◌≡◌, ℕ, Option, take}
use Rattle.chain_defs.specs.Schema.{OutPoint}
use Rattle.chain_defs.specs.Row.{Row, row_after}
use Rattle.block_judge.specs.Changes.{with_changes}
use Rattle.block_judge.proofs.ChangeLemmas.{spends}
use Rattle.block_judge.proofs.changes.Changes.spend.Given as goal

-- the rows stand after the spends of the inputs before the i-th
abbrev pub invariant-inputs : goal.invariant-inputs
invariant-inputs l = (e : ℕ) (rows : OutPoint → Option Row) (o : OutPoint)
    → with_changes l.self rows o ≡ row_after e (spends (take l.i l.raw.inputs)) (with_changes l.initial.self rows) o
