use Rattle.chain_defs.proofs.BranchLaws.{branches-are-branches}
use Rattle.chain_defs.proofs.ForkLaws.{distance-is-off-the-fork}
use Rattle.chain_defs.proofs.chain.branch_laws.Goals as goal

pub returns-clause-are_branches : goal.returns-clause-are_branches
returns-clause-are_branches c = branches-are-branches

pub returns-clause-off_the_fork : goal.returns-clause-off_the_fork
returns-clause-off_the_fork c = distance-is-off-the-fork
