use Rattle.std.proofs.Common.{◌≡◌, ℕ, Option, take}
use Rattle.chain_defs.specs.Schema.{OutPoint}
use Rattle.chain_defs.specs.Events.{makes_from}
use Rattle.chain_defs.specs.Row.{Row, row_after}
use Rattle.block_judge.specs.Changes.{with_changes}
use Rattle.block_judge.proofs.changes.Changes.make.Given as goal

-- the rows stand after the makes of the outputs before the i-th
abbrev pub invariant-outputs : goal.invariant-outputs
invariant-outputs l = (height : ℕ) (rows : OutPoint → Option Row) (o : OutPoint)
    → with_changes l.self rows o ≡ row_after l.e (makes_from 0 (take l.i l.raw.outputs) l.tx height l.place) (with_changes l.initial.self rows) o
