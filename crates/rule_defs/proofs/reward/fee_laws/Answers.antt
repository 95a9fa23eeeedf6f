use Rattle.std.proofs.Common.{drop}
use Rattle.rule_defs.proofs.FeeLaws.{fees-paid, ids-paid}
use Rattle.rule_defs.proofs.reward.fee_laws.Goals as goal

pub returns-clause-pays_its_fees : goal.returns-clause-pays_its_fees
returns-clause-pays_its_fees c = λ spec branch b. (fees-paid spec branch b 1 (drop 1 b.transactions), ids-paid spec branch b 1 (drop 1 b.transactions))
