use Rattle.chain_defs.proofs.FirstLemmas.{finds_the_first, finds_none}
use Rattle.chain_defs.proofs.first.first_failing_laws.Goals as goal

pub returns-clause-finds_the_first : goal.returns-clause-finds_the_first
returns-clause-finds_the_first c = finds_the_first

pub returns-clause-finds_none : goal.returns-clause-finds_none
returns-clause-finds_none c = finds_none
