use Rattle.std.proofs.Common.{◌≡◌, ℕ, ◌≤◌, true, List, length, drop}
use Rattle.std.specs.Str.{bytes_eq}
use Rattle.std.specs.HashSet.{contains}
use Rattle.chain_defs.specs.Hashes.{are_distinct}
use Rattle.chain_defs.proofs.DistinctLemmas.{has}
use Rattle.block_judge.proofs.cellbase.are_hashes_distinct.Given as goal

-- the hashes from the i-th on are distinct, and are those that were seen
abbrev pub invariant-later : goal.invariant-later
invariant-later l =
    (l.i ≤ length l.hashes)
    × (are_distinct (drop l.i l.hashes) ≡ true)
    × ((q : List ℕ) → contains bytes_eq l.seen q ≡ has (drop l.i l.hashes) q)
