use Rattle.std.proofs.Common.{Some, IsSome, Option, ◌∙◌, sym, subst}
use Rattle.cell_state.specs.Slots.{key_of}
use Rattle.cell_state.specs.declared.slots.Slot.{Slot}
use Rattle.cell_state.proofs.SlotLemmas.{at-same, written-same}
use Rattle.cell_state.proofs.slots.Slots.set.Goals as goal

pub returns-clause-at : goal.returns-clause-at
returns-clause-at c other =
    let found = at-same _ _ _ _ c.self.view_is c.o.view_is in
    ((c.get_mut.follows.holds c.args.slot).3 (subst (λ (f : Option Slot). IsSome f) (sym found) c.requires)).0 (key_of other)
    ∙ written-same (Some c.args.slot) _ _ _ _ other c.self.view_is c.o.view_is
