use Rattle.vm_mem.proofs.Slotted.{stores-holding}
use Rattle.vm_mem.proofs.memory.Memory.copy_in.Goals as goal

pub invariant_of-self : goal.invariant_of-self
invariant_of-self c =
    stores-holding c.self.inside.paged.memory c.copy_in.new.self.memory c.args.at c.args.bytes.now
    c.self.inside.slots c.copy_in.result c.copy_in.ensures.stores c.self.invariant
