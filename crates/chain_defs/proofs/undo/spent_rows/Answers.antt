use Rattle.chain_defs.proofs.SpentLaws.{spends-rows-once}
use Rattle.chain_defs.proofs.undo.spent_rows.Goals as goal

pub returns : goal.returns
returns c = record { once = spends-rows-once }
