use Rattle.std.proofs.Common.{◌≡◌, ◌+◌, drop}
use Rattle.rv_text.specs.Reading.{space_at}
use Rattle.rv_text.proofs.read.space_at.Given as goal

abbrev pub invariant-loop-at : goal.invariant-loop-at
invariant-loop-at l = space_at l.line ≡ l.at + space_at (drop l.at l.line)
