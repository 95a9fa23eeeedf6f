use Rattle.outside.proofs.Endings.{handed, no_answer}
use Rattle.rewards.proofs.starts.move_at.Goals as goal

pub returns-in-Err-clause-undamaged : goal.returns-in-Err-clause-undamaged
returns-in-Err-clause-undamaged g c stored tells damage same = c.in-Err.ensures.undamaged stored tells damage (handed c.in-Err.stop _ same)

pub returns-clause-undamaged : goal.returns-clause-undamaged
returns-clause-undamaged g c stored tells damage same = no_answer _ _ same
