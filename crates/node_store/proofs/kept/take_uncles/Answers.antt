use Rattle.std.proofs.Common.{rules}
use Rattle.node_store.proofs.kept.take_uncles.Goals as goal

pub returns : goal.returns
returns c = search rules
