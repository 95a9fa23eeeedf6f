use Rattle.std.proofs.Common.{rules}
use Rattle.epochs.proofs.epoch_values.well_formed.Goals as goal

pub returns-then-e : goal.returns-then-e
returns-then-e c = search rules
