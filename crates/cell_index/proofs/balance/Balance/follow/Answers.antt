use Rattle.cell_index.proofs.balance.Balance.follow.Goals as goal

pub returns-clause-stands : goal.returns-clause-stands
returns-clause-stands g c lock stored tells indexes can is = c.moved.ensures.stands lock stored tells indexes can is

pub returns-clause-undamaged : goal.returns-clause-undamaged
returns-clause-undamaged g c lock stored tells indexes can is = c.moved.ensures.undamaged lock stored tells indexes can is
