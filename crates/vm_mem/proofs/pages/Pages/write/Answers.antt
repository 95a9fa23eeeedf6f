use Rattle.std.proofs.Common.{◌+◌, ◌≤◌, ap, length, rules, arith}
use Rattle.vm_mem.proofs.Overwriting.{written-none, written-more, written-all}
use Rattle.vm_mem.proofs.pages.Pages.write.Goals as goal

pub loop-done-init : goal.loop-done-init
loop-done-init c = (written-none c.args.self.now c.args.at c.args.bytes.now, omega arith)

pub write_page-requires-clause-allocated : goal.write_page-requires-clause-allocated
write_page-requires-clause-allocated c =
    rw (ap (λ pages. pages.allocated) c.loop-done.invariant.0) (c.requires.allocated c.loop-done.done c.loop-done-test.true)

pub loop-done-preserved : goal.loop-done-preserved
loop-done-preserved c =
    let fits : c.loop-done.done + c.min-size.result ≤ length c.args.bytes.now = search rules in (
      written-more c.args.self.now c.loop-done.self c.write_page.new.self c.args.at c.loop-done.done c.min-size.result c.args.bytes.now
          fits c.loop-done.invariant.0 c.write_page.ensures,
      fits,
    )

pub returns : goal.returns
returns c = written-all c.args.self.now c.loop-done.self c.args.at c.loop-done.done c.args.bytes.now (search rules) c.loop-done.invariant.0
