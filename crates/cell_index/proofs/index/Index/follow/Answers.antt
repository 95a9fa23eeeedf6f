use Rattle.cell_index.proofs.index.Index.follow.Goals as goal

pub returns-clause-stands : goal.returns-clause-stands
returns-clause-stands g c stored tells indexes can stands = c.moved.ensures.stands tt stored tells indexes can stands

pub returns-clause-undamaged : goal.returns-clause-undamaged
returns-clause-undamaged g c stored tells indexes can stands = c.moved.ensures.undamaged tt stored tells indexes can stands
