use Rattle.vm_mem.proofs.memory.Memory.slot.Goals as goal

pub returns : goal.returns
returns c same = rw (← c.self.view_is) (c.slot.ensures same _ c.self.invariant)
