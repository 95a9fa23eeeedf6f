use Rattle.std.proofs.Common.{arith, rules}
use Rattle.machine_defs.specs.Memory.{memory_size}
use Rattle.vm_mem.proofs.Starts.{number-at}
use Rattle.vm_mem.proofs.pages.Pages.read_u32.Goals as goal

pub returns-clause-number : goal.returns-clause-number
unfolding memory_size
returns-clause-number c = rw (c.read_u32.ensures.number, c.deref.ensures.value)
    (number-at c.self.inside.bytes.items c.self.inside.starts.items c.self.inside.dirty.items c.args.at c.index.result.now 4 c.args.self.now c.self.invariant c.index.ensures (search rules) (search rules) c.self.view_is)

pub returns-clause-low_half : goal.returns-clause-low_half
unfolding memory_size
returns-clause-low_half c = rw (c.read_u32.ensures.low_half, c.deref.ensures.value)
    (number-at c.self.inside.bytes.items c.self.inside.starts.items c.self.inside.dirty.items c.args.at c.index.result.now 2 c.args.self.now c.self.invariant c.index.ensures (search rules) (omega arith) c.self.view_is)
