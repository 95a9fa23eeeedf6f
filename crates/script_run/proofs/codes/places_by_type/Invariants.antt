use Rattle.std.proofs.Common.{◌≡◌, ℕ, ◌-◌, List, length, drop}
use Rattle.std.specs.HashMap.{get}
use Rattle.std.specs.Str.{bytes_eq}
use Rattle.script_run.specs.Locating.{typed_with}
use Rattle.script_run.proofs.codes.places_by_type.Given as goal

abbrev pub invariant-deps : goal.invariant-deps
invariant-deps l = (hash : List ℕ) → get bytes_eq l.places hash ≡ typed_with l.second hash (length l.deps - l.done) (drop (length l.deps - l.done) l.deps)
