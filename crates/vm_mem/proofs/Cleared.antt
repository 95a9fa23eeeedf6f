-- Bytes that are made zero, in pages that are allocated and in others.
use Rattle.std.proofs.Common.{◌≡◌, ℕ, ◌+◌, ◌-◌, ◌/◌, ◌%◌, ◌<◌, ◌≤◌, Bool, true, false, nat_lt, List, [], length, set, replicate, get_or, map, refl, sym, ◌∙◌, ap, subst, arith}
use Rattle.std.specs.List.{concat}
use Rattle.std.proofs.Math.ListN.{drop_of_length-le}
use Rattle.std.proofs.lemmas.Bool.Decides.{nat_tests}
use Rattle.std.proofs.lemmas.List.{append-nil, drop-replicate, length-replicate, map-set, take-replicate}
use Rattle.machine_defs.specs.Memory.{page_size, memory_size, overwritten}
use Rattle.vm_mem.specs.Pages.{IsMarked, whole, is_allocated, Pages, pages_of, written}
use Rattle.vm_mem.proofs.Edited.{AreSound, length-overwritten, same-pages, through-same, whole-zeros}
use Rattle.machine_defs.proofs.Overwritten.{overwritten-more}
use Rattle.vm_mem.proofs.Paging.{write-concat}
use Rattle.vm_mem.proofs.Placed.{below-wholes, page-at, page-below, place-is, wholes}
use Rattle.vm_mem.proofs.Zeros.{replicate-add}

zeros-over-zeros : (n at count : ℕ) → at + count ≤ n → overwritten {X = ℕ} (replicate n 0) at (replicate count 0) ≡ replicate n 0
zeros-over-zeros n at count h =
    let rest : at + count + (n - (at + count)) ≡ n = omega (arith, h) in
    rw (
      length-replicate {A = ℕ} count 0,
      take-replicate {X = ℕ} at n 0 (omega (arith, h)),
      drop-replicate {X = ℕ} (at + count) n 0,
      replicate-add {X = ℕ} at count 0,
      replicate-add {X = ℕ} (at + count) (n - (at + count)) 0,
      rest,
    )
    refl

pub length-cleared : (page new : List ℕ) (at count : ℕ) → length page ≡ page_size → at + count ≤ page_size
    → new ≡ overwritten page at (replicate count 0) → length new ≡ page_size
length-cleared page new at count full h edit =
    let room : at + length (replicate {A = ℕ} count 0) ≤ length page = rw (length-replicate {A = ℕ} count 0, full) h in
    rw edit (length-overwritten page at (replicate count 0) room ∙ full)

-- more zeros after those that were written
pub clear-more : (old now new : Pages) (at cleared size : ℕ) → now ≡ written old at (replicate cleared 0)
    → new ≡ written now (at + cleared) (replicate size 0) → new ≡ written old at (replicate (cleared + size) 0)
clear-more old now new at cleared size before after =
    let more = overwritten-more old.bytes at (replicate cleared 0) (replicate size 0) in
    let joined : overwritten (overwritten old.bytes at (replicate cleared 0)) (at + cleared) (replicate size 0) ≡ overwritten old.bytes at (replicate (cleared + size) 0) =
    subst (λ n. overwritten (overwritten old.bytes at (replicate cleared 0)) (at + n) (replicate size 0) ≡ overwritten old.bytes at (replicate (cleared + size) 0))
    (length-replicate {A = ℕ} cleared 0) (more ∙ ap (overwritten old.bytes at) (replicate-add {X = ℕ} cleared size 0)) in
    rw (after, before) (ap (λ b. record old { bytes = b }) joined)

-- a page that is not dirty
pub clear-clean : (page : List ℕ) (at count : ℕ) → whole page ≡ replicate page_size 0 → at + count ≤ page_size
    → whole page ≡ overwritten (whole page) at (replicate count 0)
clear-clean page at count zeros h = rw zeros (sym (zeros-over-zeros page_size at count h))

-- a page that was cleared whole is zero
pub clear-marked : (page new : List ℕ) (at count : ℕ) (dirty : Bool) → length page ≡ page_size → at + count ≤ page_size
    → new ≡ overwritten page at (replicate count 0) → dirty ≡ nat_lt count page_size → IsMarked dirty new
clear-marked page new at count true full h edit part = length-cleared page new at count full h edit
clear-marked page new at count false full h edit part =
    let all : count ≡ page_size = grind (arith, nat_tests, part, h) in
    let start : at ≡ 0 = omega (arith, all, h) in
    let past : length page ≤ 0 + length (replicate {A = ℕ} page_size 0) = rw (length-replicate {A = ℕ} page_size 0, full) (omega arith) in
    whole-zeros new (edit ∙ rw (start, all, drop_of_length-le page {i = 0 + length (replicate {A = ℕ} page_size 0)} past) (append-nil (replicate page_size 0)))

-- a page among the others
pub clear-pages : {X : Type 0} (f : X → List ℕ) (pages : List X) (page new : X) (at : ℕ) (bytes : List ℕ) (paged : Pages) → AreSound f pages
    → page ≡ get_or pages (at / page_size) page → at < memory_size → at % page_size + length bytes ≤ page_size
    → length (f new) ≡ length (f page) → whole (f new) ≡ overwritten (whole (f page)) (at % page_size) bytes → pages_of (map f pages) ≡ paged
    → pages_of (map f (set pages (at / page_size) new)) ≡ written paged at bytes
clear-pages f pages page new at bytes paged all is h le size edit view =
    let i = at / page_size in
    let o = at % page_size in
    let below = page-below at (length pages) all.0 h in
    let old : get_or (map whole (map f pages)) i [] ≡ whole (f page) = page-at f pages page i is below in
    let e = write-concat page_size (map whole (map f pages)) i o bytes (wholes f pages all.1) (below-wholes f pages i below) le in
    let e' : overwritten (concat (map whole (map f pages))) at bytes ≡ concat (set (map whole (map f pages)) i (overwritten (get_or (map whole (map f pages)) i []) o bytes)) =
    subst (λ a. overwritten (concat (map whole (map f pages))) a bytes ≡ concat (set (map whole (map f pages)) i (overwritten (get_or (map whole (map f pages)) i []) o bytes))) (place-is at) e in
    let zeros : concat (map whole (map f (set pages i new))) ≡ overwritten (concat (map whole (map f pages))) at bytes =
    rw (e', old, map-set f pages i new, map-set whole (map f pages) i (f new), edit) refl in
    let allocated : map is_allocated (map f (set pages i new)) ≡ map is_allocated (map f pages) =
    through-same f is_allocated pages page new i is below (ap (λ n. nat_lt 0 n) size) in
    rw (← view) (same-pages (map f pages) (map f (set pages i new)) at bytes zeros allocated)
