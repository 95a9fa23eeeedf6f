use Rattle.std.proofs.Common.{◌∙◌, ◌+◌, ◌/◌, ◌%◌, true, ap}
use Rattle.std.specs.Vec.{with_items}
use Rattle.std.proofs.lemmas.List.{with_items_is}
use Rattle.machine_defs.specs.Memory.{overwritten, page_size}
use Rattle.vm_mem.proofs.Starts.{edited-marked, edits-allocated, placed-edited, write-placed}
use Rattle.vm_mem.proofs.pages.Pages.write_page.Goals as goal

pub invariant_of-self : goal.invariant_of-self
invariant_of-self c =
    let e = (edits-allocated c.self.inside.bytes.items (with_items c.self.inside.bytes c.overwrite.new.bytes).items c.self.inside.starts.items c.self.inside.dirty.items c.args.at c.index.result.now c.args.bytes.now c.args.self.now
    c.self.invariant c.index.ensures c.requires.memory c.requires.within c.requires.allocated c.self.view_is
    (with_items_is c.self.inside.bytes c.overwrite.new.bytes (c.overwrite.auto.bytes ∙ c.deref_mut.ensures.len)
    ∙ c.overwrite.ensures ∙ ap (λ bytes. overwritten bytes (c.index.result.now + c.args.at % page_size) c.args.bytes.now) c.deref_mut.ensures.value)) in
    placed-edited c.self.inside.bytes.items (with_items c.self.inside.bytes c.overwrite.new.bytes).items c.self.inside.starts.items c.self.inside.dirty.items (c.args.at / page_size) (c.args.at % page_size) c.args.bytes.now true e
    (edited-marked c.self.inside.bytes.items (with_items c.self.inside.bytes c.overwrite.new.bytes).items c.self.inside.starts.items c.self.inside.dirty.items (c.args.at / page_size) (c.args.at % page_size) c.args.bytes.now e)

pub returns : goal.returns
returns c = write-placed c.self.inside.bytes.items (with_items c.self.inside.bytes c.overwrite.new.bytes).items c.self.inside.starts.items c.self.inside.dirty.items c.args.at c.args.bytes.now c.args.self.now
    (edits-allocated c.self.inside.bytes.items (with_items c.self.inside.bytes c.overwrite.new.bytes).items c.self.inside.starts.items c.self.inside.dirty.items c.args.at c.index.result.now c.args.bytes.now c.args.self.now
    c.self.invariant c.index.ensures c.requires.memory c.requires.within c.requires.allocated c.self.view_is
    (with_items_is c.self.inside.bytes c.overwrite.new.bytes (c.overwrite.auto.bytes ∙ c.deref_mut.ensures.len)
    ∙ c.overwrite.ensures ∙ ap (λ bytes. overwritten bytes (c.index.result.now + c.args.at % page_size) c.args.bytes.now) c.deref_mut.ensures.value)) c.requires.memory c.self.view_is
