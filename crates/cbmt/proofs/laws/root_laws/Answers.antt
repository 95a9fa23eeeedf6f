use Rattle.chain_defs.proofs.RootLaws.{node-inner, node-leaf}
use Rattle.cbmt.proofs.laws.root_laws.Goals as goal

pub returns-clause-inner : goal.returns-clause-inner
returns-clause-inner c = node-inner

pub returns-clause-outer : goal.returns-clause-outer
returns-clause-outer c = node-leaf
