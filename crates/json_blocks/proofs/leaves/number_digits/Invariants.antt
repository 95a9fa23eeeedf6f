use Rattle.std.proofs.Common.{◌≡◌, ◌≤◌, length, drop, false}
use Rattle.std.specs.Fmt.{digits_onto, digits}
use Rattle.json_blocks.proofs.leaves.number_digits.Given as goal

abbrev pub invariant-loop-i : goal.invariant-loop-i
invariant-loop-i l = (l.i ≤ 64) × (length l.text ≡ 64) × (digits_onto l.i 16 false l.rest (drop l.i l.text) ≡ digits 16 false l.n)

abbrev pub decreases-loop-i : goal.decreases-loop-i
decreases-loop-i l = l.i
