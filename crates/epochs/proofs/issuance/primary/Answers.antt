use Rattle.std.proofs.Common.{rules}
use Rattle.epochs.proofs.issuance.primary.Goals as goal

pub returns : goal.returns
returns c = search rules
