use Rattle.std.proofs.Common.{◌≡◌, ℕ, ◌+◌, ◌<◌, false, List, get_or}
use Rattle.std.specs.Str.{bytes_eq}
use Rattle.sorted_keys.proofs.distinct.are_distinct.Given as goal

-- of those before the i-th no two that stand side by side are equal
abbrev pub invariant-later : goal.invariant-later
invariant-later g l = (k : ℕ) (d : List ℕ) → k + 1 < l.i → bytes_eq (get_or l.keys k d) (get_or l.keys (k + 1) d) ≡ false
