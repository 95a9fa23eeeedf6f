use Rattle.std.proofs.Common.{rules}
use Rattle.dao_math.proofs.movement.miner_share.Goals as goal

pub returns : goal.returns
returns c = search rules
