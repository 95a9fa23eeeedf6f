use Rattle.std.proofs.Common.{◌≡◌, ◌∙◌, ℕ, Bool, false, ap, replicate, rules}
use Rattle.machine_defs.specs.Memory.{page_count, page_size}
use Rattle.vm_mem.proofs.Starts.{new-contents, new-placed}
use Rattle.vm_mem.proofs.Zeros.{count-is, new-bytes, new-made}
use Rattle.vm_mem.proofs.pages.Pages.new.Goals as goal

pub invariant_of-result : goal.invariant_of-result
invariant_of-result c =
    let bytes : c.in_ok-bytes.bytes.items ≡ replicate {A = ℕ} page_size 0 = c.in_ok-bytes.ensures.items_if_clones_equal (λ y same. search rules) in
    let starts : c.in_ok-starts.starts.items ≡ replicate {A = ℕ} page_count 0 =
    c.in_ok-starts.ensures.items_if_clones_equal (λ y same. search rules) ∙ ap (λ n. replicate {A = ℕ} n 0) (count-is 1024 (search rules) (search rules)) in
    let dirty : c.in_ok-dirty.dirty.items ≡ replicate {A = Bool} page_count false =
    c.in_ok-dirty.ensures.items_if_clones_equal (λ y same. search rules) ∙ ap (λ n. replicate {A = Bool} n false) (count-is 1024 (search rules) (search rules)) in
    new-placed c.in_ok-bytes.bytes.items c.in_ok-starts.starts.items c.in_ok-dirty.dirty.items bytes starts dirty

pub returns-clause-bytes : goal.returns-clause-bytes
returns-clause-bytes c =
    let starts : c.in_ok-starts.starts.items ≡ replicate {A = ℕ} page_count 0 =
    c.in_ok-starts.ensures.items_if_clones_equal (λ y same. search rules) ∙ ap (λ n. replicate {A = ℕ} n 0) (count-is 1024 (search rules) (search rules)) in
    new-bytes _ (new-contents c.in_ok-bytes.bytes.items c.in_ok-starts.starts.items starts)

pub returns-clause-allocated : goal.returns-clause-allocated
returns-clause-allocated c =
    let starts : c.in_ok-starts.starts.items ≡ replicate {A = ℕ} page_count 0 =
    c.in_ok-starts.ensures.items_if_clones_equal (λ y same. search rules) ∙ ap (λ n. replicate {A = ℕ} n 0) (count-is 1024 (search rules) (search rules)) in
    new-made _ (new-contents c.in_ok-bytes.bytes.items c.in_ok-starts.starts.items starts)
