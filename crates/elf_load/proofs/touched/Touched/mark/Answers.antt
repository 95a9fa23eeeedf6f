use Rattle.std.proofs.Common.{◌+◌, ◌≤◌, subst}
use Rattle.machine_defs.specs.Memory.{page_count}
use Rattle.machine_defs.specs.Elf.{first_page}
use Rattle.elf_load.proofs.Touching.{marks-more}
use Rattle.elf_load.proofs.touched.Touched.mark.Goals as goal

pub returns : goal.returns
returns c earlier marks none =
    let within = subst (λ n. first_page c.args.segment.now + n ≤ page_count) c.page_span.ensures.span c.page_span.ensures.within in
    marks-more c.args.self.now.kinds c.mark_pages.new.kinds earlier c.args.segment.now marks within none cc
