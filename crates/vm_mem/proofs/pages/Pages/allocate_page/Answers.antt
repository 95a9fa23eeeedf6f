use Rattle.std.proofs.Common.{◌+◌, ◌∙◌, ap, rules}
use Rattle.machine_defs.specs.Memory.{page_size}
use Rattle.vm_mem.specs.Pages.{Pages}
use Rattle.vm_mem.proofs.Starts.{grown-by, makes, makes-added, makes-allocated, makes-bytes, makes-kept, makes-placed, none-is-not, some-is-allocated}
use Rattle.vm_mem.proofs.pages.Pages.allocate_page.Goals as goal

pub returns-in_err-resize-clause-needs_no_memory : goal.returns-in_err-resize-clause-needs_no_memory
returns-in_err-resize-clause-needs_no_memory c = rw (← c.self.view_is) (λ allocated. absurd
    (none-is-not c.self.inside.bytes.items c.self.inside.starts.items c.self.inside.dirty.items c.args.page c.index.result.now c.self.invariant c.index.ensures c.requires c.if-index-eq0.true allocated))

pub invariant_of-self-then-index-eq0 : goal.invariant_of-self-then-index-eq0
invariant_of-self-then-index-eq0 c = makes-placed c.self.inside.bytes.items c.resize.new.self.items c.self.inside.starts.items c.self.inside.dirty.items c.args.page c.len-start.result (makes c.self.inside.bytes.items c.resize.new.self.items c.self.inside.starts.items c.self.inside.dirty.items c.args.page c.len-start.result c.index.result.now c.self.invariant c.index.ensures c.requires c.if-index-eq0.true
    (grown-by c.self.inside.bytes.items c.resize.new.self.items (c.len-start.result + page_size) c.self.inside.bytes.len (search rules) (search rules) c.in_ok-resize.ensures.items) (search rules))

pub returns-in_ok-resize-clause-bytes : goal.returns-in_ok-resize-clause-bytes
returns-in_ok-resize-clause-bytes c = makes-bytes c.self.inside.bytes.items c.resize.new.self.items c.self.inside.starts.items c.self.inside.dirty.items c.args.page c.len-start.result (makes c.self.inside.bytes.items c.resize.new.self.items c.self.inside.starts.items c.self.inside.dirty.items c.args.page c.len-start.result c.index.result.now c.self.invariant c.index.ensures c.requires c.if-index-eq0.true
    (grown-by c.self.inside.bytes.items c.resize.new.self.items (c.len-start.result + page_size) c.self.inside.bytes.len (search rules) (search rules) c.in_ok-resize.ensures.items) (search rules)) ∙ ap (λ (pages : Pages). pages.bytes) c.self.view_is

pub returns-in_ok-resize-clause-allocated : goal.returns-in_ok-resize-clause-allocated
returns-in_ok-resize-clause-allocated c = makes-allocated c.self.inside.bytes.items c.resize.new.self.items c.self.inside.starts.items c.self.inside.dirty.items c.args.page c.len-start.result (makes c.self.inside.bytes.items c.resize.new.self.items c.self.inside.starts.items c.self.inside.dirty.items c.args.page c.len-start.result c.index.result.now c.self.invariant c.index.ensures c.requires c.if-index-eq0.true
    (grown-by c.self.inside.bytes.items c.resize.new.self.items (c.len-start.result + page_size) c.self.inside.bytes.len (search rules) (search rules) c.in_ok-resize.ensures.items) (search rules))

pub returns-in_ok-resize-clause-pages_kept : goal.returns-in_ok-resize-clause-pages_kept
returns-in_ok-resize-clause-pages_kept c = rw (← c.self.view_is) (makes-kept c.self.inside.bytes.items c.resize.new.self.items c.self.inside.starts.items c.self.inside.dirty.items c.args.page c.len-start.result (makes c.self.inside.bytes.items c.resize.new.self.items c.self.inside.starts.items c.self.inside.dirty.items c.args.page c.len-start.result c.index.result.now c.self.invariant c.index.ensures c.requires c.if-index-eq0.true
    (grown-by c.self.inside.bytes.items c.resize.new.self.items (c.len-start.result + page_size) c.self.inside.bytes.len (search rules) (search rules) c.in_ok-resize.ensures.items) (search rules)))

pub returns-in_ok-resize-clause-pages_added : goal.returns-in_ok-resize-clause-pages_added
returns-in_ok-resize-clause-pages_added c = rw (← c.self.view_is) (makes-added c.self.inside.bytes.items c.resize.new.self.items c.self.inside.starts.items c.self.inside.dirty.items c.args.page c.len-start.result (makes c.self.inside.bytes.items c.resize.new.self.items c.self.inside.starts.items c.self.inside.dirty.items c.args.page c.len-start.result c.index.result.now c.self.invariant c.index.ensures c.requires c.if-index-eq0.true
    (grown-by c.self.inside.bytes.items c.resize.new.self.items (c.len-start.result + page_size) c.self.inside.bytes.len (search rules) (search rules) c.in_ok-resize.ensures.items) (search rules)))

pub returns-else-index-eq0-clause-allocated : goal.returns-else-index-eq0-clause-allocated
returns-else-index-eq0-clause-allocated c = rw (← c.self.view_is)
    (some-is-allocated c.self.inside.bytes.items c.self.inside.starts.items c.self.inside.dirty.items c.args.page c.index.result.now c.self.invariant c.index.ensures c.requires c.if-index-eq0.false)
