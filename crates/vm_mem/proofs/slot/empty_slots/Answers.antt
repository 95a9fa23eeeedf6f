use Rattle.std.proofs.Common.{ap, refl, rules, set}
use Rattle.vm_mem.specs.declared.slot.Slot.{Slot}
use Rattle.vm_mem.proofs.Slotted.{are-empty}
use Rattle.vm_mem.proofs.slot.empty_slots.Goals as goal

pub returns : goal.returns
returns c =
    let first : Slot = record { at = 2; length = c.index_mut.result.now.length; kept = c.index_mut.result.now.kept } in
    are-empty _ _ _ first c.requires.some c.requires.even
    (ap (λ slots. set slots 0 first) (c.in_ok-slots.ensures.items_if_clones_equal (λ y same. search rules))) refl refl
