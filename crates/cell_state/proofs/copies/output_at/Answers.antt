use Rattle.std.proofs.Common.{rules}
use Rattle.cell_state.proofs.copies.output_at.Goals as goal

pub returns : goal.returns
returns c = search rules
