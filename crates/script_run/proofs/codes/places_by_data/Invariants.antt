use Rattle.std.proofs.Common.{◌≡◌, ℕ, ◌-◌, List, length, drop}
use Rattle.std.specs.HashMap.{get}
use Rattle.std.specs.Str.{bytes_eq}
use Rattle.script_run.specs.Locating.{first_with_data}
use Rattle.script_run.proofs.codes.places_by_data.Given as goal

abbrev pub invariant-deps : goal.invariant-deps
invariant-deps l = (hash : List ℕ) → get bytes_eq l.places hash ≡ first_with_data hash (length l.deps - l.done) (drop (length l.deps - l.done) l.deps)
