use Rattle.std.proofs.Common.{rules}
use Rattle.epochs.proofs.epoch_values.field.Goals as goal

pub returns-clause-value : goal.returns-clause-value
returns-clause-value c = search rules

pub returns-clause-well_formed : goal.returns-clause-well_formed
returns-clause-well_formed c = search rules

pub returns-clause-index : goal.returns-clause-index
returns-clause-index c = search rules

pub returns-clause-length : goal.returns-clause-length
returns-clause-length c = search rules
