use Rattle.pool_defs.proofs.JoiningLaws.{breaks-few, unbroken-joins}
use Rattle.pool_defs.proofs.laws.joining_laws.Goals as goal

pub returns-clause-breaks_few : goal.returns-clause-breaks_few
returns-clause-breaks_few c = breaks-few

pub returns-clause-unbroken_joins : goal.returns-clause-unbroken_joins
returns-clause-unbroken_joins c = unbroken-joins
