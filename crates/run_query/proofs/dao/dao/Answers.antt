use Rattle.outside.proofs.Endings.{no_answer, handed}
use Rattle.run_store.proofs.DamageLemmas.{none_then, said_as}
use Rattle.run_query.proofs.dao.dao.Goals as goal

-- ---- Damage that was found

pub returns-in-Err-clause-damage : goal.returns-in-Err-clause-damage
returns-in-Err-clause-damage g c = said_as c.in-Err.ensures.damage (handed _ _)

pub returns-in-Some-clause-damage : goal.returns-in-Some-clause-damage
returns-in-Some-clause-damage g c = none_then c.in-Ok.ensures.damage (no_answer _ _)

pub returns-in-None-clause-damage : goal.returns-in-None-clause-damage
returns-in-None-clause-damage g c = none_then c.in-Ok.ensures.damage (no_answer _ _)
