use Rattle.vm_mem.proofs.WithinPage.{ready-store}
use Rattle.vm_mem.proofs.paged.Paged.write_ready.Goals as goal

pub returns-clause-store : goal.returns-clause-store
returns-clause-store c =
    let ready = rw (← c.self.view_is) at c.requires.ready in
    rw (← c.self.view_is, c.write_page.ensures) (ready-store _ c.args.at c.args.bytes.now c.self.invariant c.requires.some ready)
