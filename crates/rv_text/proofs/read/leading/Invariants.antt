use Rattle.std.proofs.Common.{◌≡◌, ◌<◌, drop}
use Rattle.rv_text.specs.Reading.{leading}
use Rattle.rv_text.proofs.read.leading.Given as goal

abbrev pub invariant-loop-at : goal.invariant-loop-at
invariant-loop-at l = (leading 0 l.text ≡ leading l.number (drop l.at l.text)) × (l.number < 100000000)
