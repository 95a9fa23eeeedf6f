use Rattle.std.proofs.Common.{◌≡◌, ◌*◌, ◌++◌, drop}
use Rattle.json_blocks.specs.Digits.{pairs_of}
use Rattle.json_blocks.proofs.digits.pairs.Given as goal

-- the bytes so far, and those of the digits that are left
abbrev pub invariant-pairs : goal.invariant-pairs
invariant-pairs l = l.bytes.items ++ pairs_of (drop (2 * l.i) l.«digits») ≡ pairs_of l.«digits»
