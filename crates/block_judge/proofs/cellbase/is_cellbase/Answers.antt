use Rattle.std.proofs.Common.{rules}
use Rattle.block_judge.proofs.cellbase.is_cellbase.Goals as goal

pub returns : goal.returns
returns c = search rules
