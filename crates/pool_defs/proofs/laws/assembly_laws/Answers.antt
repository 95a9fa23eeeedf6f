use Rattle.pool_defs.proofs.AssemblyLaws.{lines-stay, transactions-keep, commits-stand}
use Rattle.pool_defs.proofs.laws.assembly_laws.Goals as goal

pub returns-clause-lines_stay : goal.returns-clause-lines_stay
returns-clause-lines_stay c = lines-stay

pub returns-clause-transactions_keep_their_rules : goal.returns-clause-transactions_keep_their_rules
returns-clause-transactions_keep_their_rules c = transactions-keep

pub returns-clause-commits_stand : goal.returns-clause-commits_stand
returns-clause-commits_stand c = commits-stand
