use Rattle.std.proofs.Common.{rules}
use Rattle.block_judge.proofs.spent.push_row.Goals as goal

pub returns-in_ok-push : goal.returns-in_ok-push
returns-in_ok-push c = search rules
