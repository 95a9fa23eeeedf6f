use Rattle.std.proofs.Common.{rules}
use Rattle.dao_math.proofs.movement.next_rate.Goals as goal

pub returns : goal.returns
returns c = search rules
