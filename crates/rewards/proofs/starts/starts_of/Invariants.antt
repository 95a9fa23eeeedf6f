use Rattle.std.proofs.Common.{◌≡◌, ℕ, cond, List, take, Some, None}
use Rattle.std.specs.List.{list_any}
use Rattle.std.specs.Str.{bytes_eq}
use Rattle.std.specs.HashMap.{get}
use Rattle.rewards.proofs.starts.starts_of.Given as goal

-- those before the i-th have the start 0
abbrev pub invariant-ids : goal.invariant-ids
invariant-ids l = (id : List ℕ) → get bytes_eq l.starts id ≡ cond (list_any (λ other. bytes_eq other id) (take l.i l.ids)) (Some 0) None
