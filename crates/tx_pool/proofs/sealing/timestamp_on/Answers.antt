use Rattle.std.proofs.Common.{ap, ◌∙◌}
use Rattle.pool_defs.specs.Start.{next_timestamp}
use Rattle.tx_pool.proofs.sealing.timestamp_on.Goals as goal

pub returns : goal.returns
returns c kept indexes = c.timestamp_after.ensures ∙ ap next_timestamp (c.median.ensures.of_blocks kept indexes)
