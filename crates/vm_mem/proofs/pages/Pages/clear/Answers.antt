use Rattle.std.proofs.Common.{rules}
use Rattle.vm_mem.proofs.Cleared.{clear-more}
use Rattle.vm_mem.proofs.pages.Pages.clear.Goals as goal

pub loop-cleared-preserved : goal.loop-cleared-preserved
loop-cleared-preserved c = (
  clear-more c.args.self.now c.loop-cleared.self c.clear_page.new.self c.args.at c.loop-cleared.cleared c.min-size.result
      c.loop-cleared.invariant.0 c.clear_page.ensures,
  search rules,
)
