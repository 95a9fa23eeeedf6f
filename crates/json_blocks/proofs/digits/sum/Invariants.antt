use Rattle.std.proofs.Common.{◌≡◌, ◌<◌, drop}
use Rattle.json_blocks.specs.Digits.{value_after}
use Rattle.json_blocks.proofs.DigitLemmas.{limit}
use Rattle.json_blocks.proofs.digits.sum.Given as goal

-- the number so far, and the digits that are left
abbrev pub invariant-digits : goal.invariant-digits
invariant-digits l = (l.n < limit l.digit-index) × (value_after l.n (drop l.digit-index l.«digits») ≡ value_after 0 l.«digits»)
