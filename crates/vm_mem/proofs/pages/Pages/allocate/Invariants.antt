use Rattle.vm_mem.proofs.Making.{Making}
use Rattle.vm_mem.proofs.pages.Pages.allocate.Given as goal

abbrev pub invariant-loop-page : goal.invariant-loop-page
invariant-loop-page l = Making l.fn.self l.self l.first l.page
