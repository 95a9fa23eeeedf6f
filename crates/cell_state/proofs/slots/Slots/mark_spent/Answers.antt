use Rattle.std.proofs.Common.{rules}
use Rattle.cell_state.proofs.slots.Slots.mark_spent.Goals as goal

pub returns-clause-at : goal.returns-clause-at
returns-clause-at c = search rules
