-- A page by its place among those that hold memory, and what its bytes are of the whole.
use Rattle.std.proofs.Common.{◌≡◌, ℕ, suc, ◌+◌, ◌*◌, ◌/◌, ◌%◌, ◌<◌, ◌≤◌, List, [], ◌∷◌, length, get_or, slice_range, map, sym, ◌∙◌, ap, subst, arith}
use Rattle.std.specs.List.{concat, All}
use Rattle.std.proofs.lemmas.List.{get_or-map, length-map}
use Rattle.machine_defs.specs.Memory.{page_size, page_count, memory_size, number_of}
use Rattle.vm_mem.specs.Pages.{IsPage, whole}
use Rattle.vm_mem.proofs.Paging.{AreOfLength, range-concat}
use Rattle.vm_mem.proofs.Wholes.{length-whole}

pub wholes : {X : Type 0} (f : X → List ℕ) (pages : List X) → All (λ page. IsPage (f page)) pages
    → AreOfLength page_size (map whole (map f pages))
wholes f [] all = tt
wholes f (page ∷ pages) all = (length-whole (f page) (all 0 page (omega arith)), wholes f pages (λ k d h. all (suc k) d (omega (arith, h))))

pub page-at : {X : Type 0} (f : X → List ℕ) (pages : List X) (page : X) (i : ℕ) → page ≡ get_or pages i page → i < length pages
    → get_or (map whole (map f pages)) i [] ≡ whole (f page)
page-at f pages page i is h =
    get_or-map whole (map f pages) i [] [] (rw (length-map pages f) h)
    ∙ ap whole (get_or-map f pages i page [] h ∙ ap f (sym is))

-- the page of an address is one of them
pub page-below : (at pages : ℕ) → pages ≡ page_count → at < memory_size → at / page_size < pages
unfolding memory_size
page-below at pages is h =
    let count : pages ≡ 1024 = unfold page_count in is in
    omega (arith, count, h)

pub place-is : (at : ℕ) → page_size * (at / page_size) + at % page_size ≡ at
place-is at = omega arith

pub below-wholes : {X : Type 0} (f : X → List ℕ) (pages : List X) (i : ℕ) → i < length pages → i < length (map whole (map f pages))
below-wholes f pages i h = rw (length-map (map f pages) whole, length-map pages f) h

-- a range within a page
pub range-page : {X : Type 0} (f : X → List ℕ) (pages : List X) (page : X) (at count : ℕ)
    → (length pages ≡ page_count) × All (λ page. IsPage (f page)) pages
    → page ≡ get_or pages (at / page_size) page → at < memory_size → at % page_size + count ≤ page_size
    → slice_range (concat (map whole (map f pages))) at (at + count) ≡ slice_range (whole (f page)) (at % page_size) (at % page_size + count)
range-page f pages page at count all is h le =
    let below = page-below at (length pages) all.0 h in
    let e = range-concat page_size (map whole (map f pages)) (at / page_size) (at % page_size) count (wholes f pages all.1)
    (below-wholes f pages (at / page_size) below) le in
    let e' : slice_range (concat (map whole (map f pages))) at (at + count) ≡ slice_range (get_or (map whole (map f pages)) (at / page_size) []) (at % page_size) (at % page_size + count) =
    subst (λ a. slice_range (concat (map whole (map f pages))) a (a + count) ≡ slice_range (get_or (map whole (map f pages)) (at / page_size) []) (at % page_size) (at % page_size + count)) (place-is at) e in
    e' ∙ ap (λ bytes. slice_range bytes (at % page_size) (at % page_size + count)) (page-at f pages page (at / page_size) is below)

pub number-page : {X : Type 0} (f : X → List ℕ) (pages : List X) (page : X) (at count : ℕ)
    → (length pages ≡ page_count) × All (λ page. IsPage (f page)) pages
    → page ≡ get_or pages (at / page_size) page → at < memory_size → at % page_size + count ≤ page_size
    → number_of (slice_range (concat (map whole (map f pages))) at (at + count)) ≡ number_of (slice_range (whole (f page)) (at % page_size) (at % page_size + count))
number-page f pages page at count all is h le = ap number_of (range-page f pages page at count all is h le)
