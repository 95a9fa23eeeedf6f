use Rattle.std.proofs.Common.{◌≡◌, ℕ, ◌||◌, List, take}
use Rattle.std.specs.Str.{bytes_eq}
use Rattle.std.specs.HashSet.{contains}
use Rattle.rewards.proofs.StartLemmas.{among}
use Rattle.rewards.proofs.committed.add_all.Given as goal

-- those before the i-th were added
abbrev pub invariant-ids : goal.invariant-ids
invariant-ids l = (id : List ℕ) → contains bytes_eq l.committed id ≡ (contains bytes_eq l.fn.committed id || among (take l.i l.ids) id)
