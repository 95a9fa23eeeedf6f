use Rattle.std.proofs.Common.{◌≡◌, drop}
use Rattle.rv_text.specs.Reading.{from_digit}
use Rattle.rv_text.proofs.read.from_digit.Given as goal

abbrev pub invariant-loop-at : goal.invariant-loop-at
invariant-loop-at l = from_digit l.text ≡ from_digit (drop l.at l.text)
