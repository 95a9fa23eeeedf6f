use Rattle.std.proofs.Common.{rules}
use Rattle.epochs.proofs.epoch_values.span_over.Goals as goal

pub returns : goal.returns
returns c = search rules
