use Rattle.supply_defs.proofs.Start.{starts-with-its-outputs}
use Rattle.supply_defs.proofs.Small.{sums-are-small, starts-small}
use Rattle.supply_defs.proofs.sums.Goals as goal

pub returns : goal.returns
returns c = record { starts_with_its_outputs = starts-with-its-outputs; sums_are_small = sums-are-small; starts_small = starts-small }
