use Rattle.std.proofs.Common.{◌≡◌, drop}
use Rattle.std.specs.Prelude.{nat_lt}
use Rattle.std.specs.List.{list_all}
use Rattle.script_run.proofs.fitting.unkept.Given as goal

abbrev pub invariant-places : goal.invariant-places
invariant-places l = list_all (λ place. nat_lt place l.kept) l.places ≡ list_all (λ place. nat_lt place l.kept) (drop l.place-index l.places)
