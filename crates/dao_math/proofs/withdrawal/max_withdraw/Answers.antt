use Rattle.std.proofs.Common.{arith, rules}
use Rattle.std.proofs.lemmas.Grind.{common_steps}
use Rattle.chain_defs.proofs.Withdrawals.{counted-capacity-kept}
use Rattle.dao_math.proofs.withdrawal.max_withdraw.Goals as goal

pub returns-clause-kept : goal.returns-clause-kept
returns-clause-kept c = λ grown.
    let law = counted-capacity-kept _ _ _ _ c.requires.occupied c.requires.rate grown in
    grind (arith, common_steps, law)

pub returns-clause-counted : goal.returns-clause-counted
returns-clause-counted c = search rules
