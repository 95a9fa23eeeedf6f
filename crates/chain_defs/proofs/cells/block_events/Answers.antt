use Rattle.chain_defs.proofs.EventLaws.{makes-are-outputs, spends-are-inputs}
use Rattle.chain_defs.proofs.cells.block_events.Goals as goal

pub returns : goal.returns
returns c = record { makes = makes-are-outputs; spends = spends-are-inputs }
