use Rattle.rule_defs.proofs.DaoLaws.{rates-never-fall, stays-rated}
use Rattle.rule_defs.proofs.reward.dao_laws.Goals as goal

pub returns-clause-rates_never_fall : goal.returns-clause-rates_never_fall
returns-clause-rates_never_fall c = rates-never-fall

pub returns-clause-stays_rated : goal.returns-clause-stays_rated
returns-clause-stays_rated c = stays-rated
