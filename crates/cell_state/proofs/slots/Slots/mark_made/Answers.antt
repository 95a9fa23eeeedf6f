use Rattle.std.proofs.Common.{rules}
use Rattle.cell_state.proofs.slots.Slots.mark_made.Goals as goal

pub returns-clause-ok : goal.returns-clause-ok
returns-clause-ok c = search rules
