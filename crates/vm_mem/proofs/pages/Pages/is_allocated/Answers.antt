use Rattle.vm_mem.proofs.Starts.{allocated-is}
use Rattle.vm_mem.proofs.pages.Pages.is_allocated.Goals as goal

pub returns : goal.returns
returns c = rw (← c.self.view_is) (allocated-is c.self.inside.bytes.items c.self.inside.starts.items c.self.inside.dirty.items c.args.page c.index.result.now c.self.invariant c.index.ensures c.requires)
