use Rattle.chain_defs.proofs.CountingLaws.{lives-by-counting}
use Rattle.chain_defs.proofs.OutputLaws.{cells-are-outputs, seen-cells-are-outputs}
use Rattle.chain_defs.proofs.cells.live_cells.Goals as goal

pub returns : goal.returns
returns c = record { by_counting = lives-by-counting; are_outputs = cells-are-outputs; seen_are_outputs = seen-cells-are-outputs }
