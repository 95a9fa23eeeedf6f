use Rattle.std.proofs.Common.{rules}
use Rattle.block_rules.proofs.rules.has_few_uncles.Goals as goal

pub returns : goal.returns
returns c = search rules
