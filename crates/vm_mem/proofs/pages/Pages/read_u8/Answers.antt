use Rattle.std.proofs.Common.{rules}
use Rattle.machine_defs.specs.Memory.{memory_size}
use Rattle.vm_mem.proofs.Starts.{number-at}
use Rattle.vm_mem.proofs.pages.Pages.read_u8.Goals as goal

pub returns : goal.returns
unfolding memory_size
returns c = rw (c.read_u8.ensures, c.deref.ensures.value)
    (number-at c.self.inside.bytes.items c.self.inside.starts.items c.self.inside.dirty.items c.args.at c.index.result.now 1 c.args.self.now c.self.invariant c.index.ensures (search rules) (search rules) c.self.view_is)
