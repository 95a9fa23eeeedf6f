use Rattle.std.proofs.Common.{◌≡◌, ℕ, ◌&&◌, List, take}
use Rattle.std.specs.Str.{bytes_eq}
use Rattle.std.specs.HashSet.{contains}
use Rattle.rewards.proofs.StartLemmas.{among}
use Rattle.rewards.proofs.committed.wanted_of.Given as goal

-- those before the i-th that are committed
abbrev pub invariant-ids : goal.invariant-ids
invariant-ids l = (id : List ℕ) → among l.wanted.items id ≡ (among (take l.i l.ids) id && contains bytes_eq l.committed id)
