use Rattle.std.proofs.Common.{◌≢◌, ◌%◌, sym, subst}
use Rattle.vm_mem.proofs.WithinPage.{page-of-kind, fetch-data, fetch-short, fetch-long}
use Rattle.vm_mem.proofs.paged.Paged.fetch_in_page.Goals as goal

pub returns-in-Data : goal.returns-in-Data
returns-in-Data c = rw (← c.self.view_is) (sym (fetch-data _ c.args.at
    (page-of-kind _ c.args.at 4 _ _ c.self.invariant c.requires.memory c.requires.within c.index.ensures c.in-Data.is)))

pub returns-then-word-eq3 : goal.returns-then-word-eq3
returns-then-word-eq3 c = rw (← c.self.view_is, c.read_u32-word.ensures.number) (sym (fetch-long _ c.args.at
    (page-of-kind _ c.args.at 4 _ _ c.self.invariant c.requires.memory c.requires.within c.index.ensures c.in-Code.is)
    (rw c.read_u32-word.ensures.number at c.if-word-eq3.true)))

pub returns-else-word-eq3 : goal.returns-else-word-eq3
returns-else-word-eq3 c = rw (← c.self.view_is, c.read_u32-word.ensures.low_half) (sym (fetch-short _ c.args.at
    (page-of-kind _ c.args.at 4 _ _ c.self.invariant c.requires.memory c.requires.within c.index.ensures c.in-Code.is)
    (subst (λ word. word % 4 ≢ 3) c.read_u32-word.ensures.number c.if-word-eq3.false)))
