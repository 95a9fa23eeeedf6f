use Rattle.machine_defs.specs.Memory.{byte_count, bytes_of}
use Rattle.vm_mem.proofs.Slotted.{stores-holding}
use Rattle.vm_mem.proofs.memory.Memory.store.Goals as goal

pub invariant_of-self : goal.invariant_of-self
invariant_of-self c =
    stores-holding c.self.inside.paged.memory c.store.new.self.memory c.args.at (bytes_of (byte_count c.args.width) c.args.value)
    c.self.inside.slots c.store.result c.store.ensures.stores c.self.invariant
