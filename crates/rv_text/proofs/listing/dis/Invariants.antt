use Rattle.std.proofs.Common.{◌≡◌, ℕ, ◌+◌, ◌-◌, ◌≤◌, ◌++◌, length, drop}
use Rattle.machine_defs.specs.Listing.{dis, lines_from}
use Rattle.rv_text.proofs.listing.dis.Given as goal

abbrev pub invariant-loop-at : goal.invariant-loop-at
invariant-loop-at l =
    (at_most : l.at ≤ length l.code) × (most : ℕ) × (length l.code ≤ l.at + most)
    × (dis l.code ≡ l.text.items ++ lines_from most l.at (drop l.at l.code))

abbrev pub decreases-loop-at : goal.decreases-loop-at
decreases-loop-at l = length l.code - l.at
