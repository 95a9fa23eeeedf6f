use Rattle.std.proofs.Common.{◌≡◌, ◌+◌, drop}
use Rattle.rv_text.specs.Reading.{line_end}
use Rattle.rv_text.proofs.assembly.line_end.Given as goal

abbrev pub invariant-loop-at : goal.invariant-loop-at
invariant-loop-at l = line_end l.text ≡ l.at + line_end (drop l.at l.text)
