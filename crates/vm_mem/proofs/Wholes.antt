-- The bytes of a page, allocated or not.
use Rattle.std.proofs.Common.{◌≡◌, ℕ, true, ◌==◌, List, length, replicate, refl, sym, inl, inr}
use Rattle.std.proofs.lemmas.List.{length-replicate}
use Rattle.machine_defs.specs.Memory.{page_size}
use Rattle.vm_mem.specs.Pages.{IsPage, whole}

pub whole-empty : (page : List ℕ) → true ≡ (length page == 0) → whole page ≡ replicate page_size 0
unfolding whole
whole-empty page h = rw (sym h) refl

pub length-whole : (page : List ℕ) → IsPage page → length (whole page) ≡ page_size
unfolding whole
length-whole page is = elim is [
  | inl none ↦ rw none (length-replicate {A = ℕ} page_size 0)
  | inr full ↦ rw (full) full
]
