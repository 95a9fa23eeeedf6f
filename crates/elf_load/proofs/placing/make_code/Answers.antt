use Rattle.std.proofs.Common.{◌*◌, ◌∙◌, sym, refl}
use Rattle.machine_defs.specs.Memory.{page_size}
use Rattle.elf_load.proofs.InMemory.{done-ok, set_code-ok, unrefused}
use Rattle.elf_load.proofs.placing.make_code.Goals as goal

pub unwrap-requires : goal.unwrap-requires
unwrap-requires c =
    let ok = set_code-ok c.args.memory.now.memory c.args.segment.now (page_size * c.first_page.result) c.page_span-pages.result c.first_page.result
    c.page_span-pages.ensures.within c.requires.no_code (sym c.can_run.ensures ∙ c.if-can_run.true) refl c.first_page.ensures c.page_span-pages.ensures.span in
    unrefused c.set_code.result _ _ c.set_code.ensures.fault ok

pub returns-then-can_run-clause-code : goal.returns-then-can_run-clause-code
returns-then-can_run-clause-code c =
    let ok = set_code-ok c.args.memory.now.memory c.args.segment.now (page_size * c.first_page.result) c.page_span-pages.result c.first_page.result
    c.page_span-pages.ensures.within c.requires.no_code (sym c.can_run.ensures ∙ c.if-can_run.true) refl c.first_page.ensures c.page_span-pages.ensures.span in
    done-ok c.set_code.result _ _ c.set_code.new.self.memory (unrefused c.set_code.result _ _ c.set_code.ensures.fault ok) c.set_code.ensures.code ok
