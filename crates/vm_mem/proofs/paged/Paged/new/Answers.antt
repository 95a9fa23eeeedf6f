use Rattle.std.proofs.Common.{◌≡◌, replicate, refl, ap, ◌∙◌, rules, length}
use Rattle.machine_defs.specs.declared.memory.PageKind.TheVariants.{Data}
use Rattle.machine_defs.specs.Memory.{new_memory, page_count}
use Rattle.vm_mem.proofs.Zeros.{count-is}
use Rattle.vm_mem.proofs.paged.Paged.new.Goals as goal

pub invariant_of-result : goal.invariant_of-result
unfolding page_count
invariant_of-result c =
    let len : length c.in_ok-kinds.kinds.items ≡ 1024 = search rules in
    len

pub returns-clause-memory : goal.returns-clause-memory
unfolding new_memory
returns-clause-memory c =
    let kinds = c.in_ok-kinds.ensures.items_if_clones_equal (λ y same. search rules) ∙ ap (λ n. replicate n Data) (count-is 1024 (search rules) (search rules)) in
    rw (c.in_ok-pages.ensures.bytes, kinds) refl
