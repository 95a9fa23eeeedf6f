use Rattle.std.proofs.Common.{◌+◌, ◌∙◌, rules, arith}
use Rattle.std.proofs.lemmas.Bool.{false≢true}
use Rattle.vm_mem.proofs.Making.{making-none, making-more, making-all, made-of, only-more, only-under}
use Rattle.vm_mem.proofs.pages.Pages.allocate.Goals as goal

pub loop-page-init : goal.loop-page-init
loop-page-init c = making-none c.args.self.now _

pub returns-in_err-allocate_page-clause-bytes : goal.returns-in_err-allocate_page-clause-bytes
returns-in_err-allocate_page-clause-bytes c = c.allocate_page.ensures.bytes ∙ c.loop-page.invariant.bytes

pub returns-in_err-allocate_page-clause-pages_kept : goal.returns-in_err-allocate_page-clause-pages_kept
returns-in_err-allocate_page-clause-pages_kept c page was = c.allocate_page.ensures.pages_kept page (c.loop-page.invariant.pages_kept page was)

pub returns-in_err-allocate_page-clause-needs_no_memory : goal.returns-in_err-allocate_page-clause-needs_no_memory
returns-in_err-allocate_page-clause-needs_no_memory c all = absurd (false≢true (c.in_err-allocate_page.ensures.needs_no_memory (c.loop-page.invariant.pages_kept c.loop-page.page
    (made-of c.args.self.now c.args.at c.args.count c.loop-page.page (search rules) (search rules) (search rules) all))))

pub returns-in_err-allocate_page-clause-pages_added : goal.returns-in_err-allocate_page-clause-pages_added
returns-in_err-allocate_page-clause-pages_added c = only-under c.args.self.now c.allocate_page.new.self c.args.at c.args.count (c.loop-page.page + 1)
    (only-more c.args.self.now c.loop-page.self c.allocate_page.new.self _ _ c.loop-page.invariant.pages_added (search rules) c.allocate_page.ensures.pages_added)
    (search rules) (search rules)

pub loop-page-preserved : goal.loop-page-preserved
loop-page-preserved c = making-more c.args.self.now c.loop-page.self c.allocate_page.new.self _ _ c.loop-page.invariant c.allocate_page.ensures.bytes
    c.allocate_page.ensures.pages_kept c.in_ok-allocate_page.ensures.allocated
    (only-more c.args.self.now c.loop-page.self c.allocate_page.new.self _ _ c.loop-page.invariant.pages_added (search rules) c.allocate_page.ensures.pages_added)

pub returns-clause-bytes : goal.returns-clause-bytes
returns-clause-bytes c = c.loop-page.invariant.bytes

pub returns-clause-allocated : goal.returns-clause-allocated
returns-clause-allocated c = making-all c.args.self.now c.loop-page.self c.args.at c.args.count c.loop-page.page c.loop-page.invariant (omega (arith, c.loop-page-test.false))

pub returns-clause-pages_added : goal.returns-clause-pages_added
returns-clause-pages_added c = only-under c.args.self.now c.loop-page.self c.args.at c.args.count c.loop-page.page c.loop-page.invariant.pages_added
    (search rules) (search rules)

pub returns-clause-pages_kept : goal.returns-clause-pages_kept
returns-clause-pages_kept c = c.loop-page.invariant.pages_kept
