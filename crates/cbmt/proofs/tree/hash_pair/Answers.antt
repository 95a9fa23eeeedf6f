use Rattle.std.proofs.Common.{rules}
use Rattle.cbmt.proofs.tree.hash_pair.Goals as goal

pub returns : goal.returns
returns c = search rules
