use Rattle.std.proofs.Common.{None, ◌∙◌}
use Rattle.cell_state.specs.Slots.{key_of}
use Rattle.cell_state.proofs.SlotLemmas.{written-same}
use Rattle.cell_state.proofs.slots.Slots.remove.Goals as goal

pub returns-clause-at : goal.returns-clause-at
returns-clause-at c other =
    c.remove.ensures.updates.0 (key_of other) ∙ written-same None _ _ _ _ other c.self.view_is c.o.view_is
