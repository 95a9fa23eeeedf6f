use Rattle.vm_mem.proofs.Slotted.{new-holding}
use Rattle.vm_mem.proofs.memory.Memory.new.Goals as goal

pub invariant_of-result : goal.invariant_of-result
invariant_of-result c = new-holding _ _ c.in_ok-paged.ensures.memory c.in_ok-slots.ensures
