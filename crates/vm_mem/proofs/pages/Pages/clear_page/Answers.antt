use Rattle.std.proofs.Common.{◌∙◌, ◌+◌, ◌/◌, ◌%◌, nat_lt, length, replicate, ap}
use Rattle.std.specs.Vec.{with_items}
use Rattle.std.proofs.lemmas.List.{with_items_is}
use Rattle.machine_defs.specs.Memory.{overwritten, page_size}
use Rattle.vm_mem.proofs.Placed.{page-below}
use Rattle.vm_mem.proofs.Starts.{clean-is, clean-placed, cleared-marked, edits-dirty, placed-edited, write-placed}
use Rattle.vm_mem.proofs.pages.Pages.clear_page.Goals as goal

pub invariant_of-self : goal.invariant_of-self
invariant_of-self c =
    let e = (edits-dirty c.self.inside.bytes.items (with_items c.self.inside.bytes c.overwrite_with_zeros.new.bytes).items c.self.inside.starts.items c.self.inside.dirty.items c.args.at c.index-then-index.result.now c.args.count c.index.result.now
    c.self.invariant c.index-then-index.ensures c.index.ensures c.if-index.true c.requires.memory c.requires.within
    (with_items_is c.self.inside.bytes c.overwrite_with_zeros.new.bytes (c.overwrite_with_zeros.auto.bytes ∙ c.deref_mut.ensures.len)
    ∙ c.overwrite_with_zeros.ensures ∙ ap (λ bytes. overwritten bytes (c.index-then-index.result.now + c.args.at % page_size) (replicate c.args.count 0)) c.deref_mut.ensures.value)) in
    placed-edited c.self.inside.bytes.items (with_items c.self.inside.bytes c.overwrite_with_zeros.new.bytes).items c.self.inside.starts.items c.self.inside.dirty.items (c.args.at / page_size) (c.args.at % page_size) (replicate c.args.count 0) (nat_lt c.args.count page_size) e
    (cleared-marked c.self.inside.bytes.items (with_items c.self.inside.bytes c.overwrite_with_zeros.new.bytes).items c.self.inside.starts.items c.self.inside.dirty.items (c.args.at / page_size) (c.args.at % page_size) c.args.count e c.requires.within)

pub returns-then-index : goal.returns-then-index
returns-then-index c = write-placed c.self.inside.bytes.items (with_items c.self.inside.bytes c.overwrite_with_zeros.new.bytes).items c.self.inside.starts.items c.self.inside.dirty.items c.args.at (replicate c.args.count 0) c.args.self.now
    (edits-dirty c.self.inside.bytes.items (with_items c.self.inside.bytes c.overwrite_with_zeros.new.bytes).items c.self.inside.starts.items c.self.inside.dirty.items c.args.at c.index-then-index.result.now c.args.count c.index.result.now
    c.self.invariant c.index-then-index.ensures c.index.ensures c.if-index.true c.requires.memory c.requires.within
    (with_items_is c.self.inside.bytes c.overwrite_with_zeros.new.bytes (c.overwrite_with_zeros.auto.bytes ∙ c.deref_mut.ensures.len)
    ∙ c.overwrite_with_zeros.ensures ∙ ap (λ bytes. overwritten bytes (c.index-then-index.result.now + c.args.at % page_size) (replicate c.args.count 0)) c.deref_mut.ensures.value)) c.requires.memory c.self.view_is

pub returns-else-index : goal.returns-else-index
returns-else-index c = clean-placed c.self.inside.bytes.items c.self.inside.starts.items c.self.inside.dirty.items c.args.at c.args.count c.args.self.now c.self.invariant c.requires.memory
    (rw (← c.self.invariant.count) (page-below c.args.at (length c.self.inside.starts.items) c.self.invariant.count c.requires.memory)) c.requires.within
    (clean-is c.self.inside.dirty.items c.args.at c.index.result.now c.self.invariant.marks c.requires.memory c.index.ensures c.if-index.false) c.self.view_is
