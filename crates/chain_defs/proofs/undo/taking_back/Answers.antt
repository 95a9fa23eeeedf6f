use Rattle.chain_defs.proofs.BackLaws.{takes-back}
use Rattle.chain_defs.proofs.undo.taking_back.Goals as goal

pub returns : goal.returns
returns c = record { identity = takes-back }
