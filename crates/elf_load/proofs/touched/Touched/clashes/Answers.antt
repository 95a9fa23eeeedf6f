use Rattle.std.proofs.Common.{◌+◌, ◌≤◌, ◌≡◌, subst, ◌∙◌, slice_range}
use Rattle.std.specs.List.{list_any}
use Rattle.machine_defs.specs.Memory.{page_count}
use Rattle.machine_defs.specs.Elf.{can_run, first_page, page_span}
use Rattle.elf_load.specs.Judging.{is_closed}
use Rattle.elf_load.proofs.Touching.{marked-clashes}
use Rattle.elf_load.proofs.touched.Touched.clashes.Goals as goal

pub returns : goal.returns
returns c earlier marks =
    let table = c.args.self.now.kinds in
    let s = c.args.segment.now in
    let within = subst (λ n. first_page s + n ≤ page_count) c.page_span.ensures.span c.page_span.ensures.within in
    let closed : c.has_closed.result ≡ list_any (is_closed (can_run s)) (slice_range table (first_page s) (first_page s + page_span s)) =
    rw (← c.first_page-first.ensures, ← c.page_span.ensures.span, ← c.can_run.ensures) c.has_closed.ensures in
    closed ∙ marked-clashes table earlier s marks within
