use Rattle.std.proofs.Common.{◌≡◌, ℕ, cond, List, take}
use Rattle.std.specs.List.{list_any}
use Rattle.std.specs.Option.{option_map}
use Rattle.std.specs.Str.{bytes_eq}
use Rattle.std.specs.HashMap.{get}
use Rattle.rewards.proofs.starts.move_to.Given as goal

-- those before the i-th were moved
abbrev pub invariant-ids : goal.invariant-ids
invariant-ids l = (id : List ℕ) → get bytes_eq l.starts id
    ≡ cond (list_any (λ other. bytes_eq other id) (take l.i l.ids)) (option_map (λ _. l.start) (get bytes_eq l.fn.starts id)) (get bytes_eq l.fn.starts id)
