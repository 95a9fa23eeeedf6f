use Rattle.std.proofs.Common.{arith}
use Rattle.std.proofs.lemmas.Option.{slice_get_past, slice_get-get_or}
use Rattle.script_run.proofs.LookLemmas.{none-there, of-dep}
use Rattle.script_run.proofs.items.header_of_dep.Goals as goal

pub returns-then-i-places-clause-found : goal.returns-then-i-places-clause-found
returns-then-i-places-clause-found c headers length shown zip = none-there _ _ c.args.places.now shown c.args.i zip (slice_get_past c.args.places.now c.args.i (omega arith))

pub returns-clause-found : goal.returns-clause-found
returns-clause-found c headers length shown zip = of-dep headers length c.args.part c.args.places.now shown c.args.i _ zip (slice_get-get_or c.args.places.now c.args.i 0 (omega arith))

pub returns-clause-kept : goal.returns-clause-kept
returns-clause-kept c kept all = all c.args.i 0 (omega arith)
