use Rattle.tx_rules.proofs.withdrawals.names_deposits.Goals as goal

pub returns-clause-undamaged : goal.returns-clause-undamaged
returns-clause-undamaged c stored rows site is each are damage same =
    c.all_withdraw_well.ensures.undamaged stored rows site is each are c.in-Err.damage c.in-Err.is
