use Rattle.chain_defs.proofs.TimeNumbers.{halved-away}
use Rattle.std.proofs.Common.{sym}
use Rattle.epochs.proofs.issuance.halved.Goals as goal

pub returns-else-halvings-lt64 : goal.returns-else-halvings-lt64
returns-else-halvings-lt64 c = sym (halved-away _ 64 _ c.ranges.reward.fits c.if-halvings-lt64.false)
