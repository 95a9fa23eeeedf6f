-- A page that is made, or written, among the pages of memory.
use Rattle.std.proofs.Common.{◌≡◌, ℕ, ◌+◌, ◌/◌, ◌%◌, ◌<◌, ◌≤◌, Bool, true, false, ◌==◌, List, [], ◌++◌, length, take, drop, set, replicate, get_or, map, ◌⊎◌, refl, sym, ◌∙◌, ap, subst, arith, inl, inr, length-set}
use Rattle.std.specs.List.{concat, All}
use Rattle.std.proofs.lemmas.List.{get_or-map, length-map, map-set, set-get_or, get_or-set_same, get_or-set_other, length-append, length-take-le, length-drop}
use Rattle.std.proofs.lemmas.List.Elements.{All-set}
use Rattle.std.proofs.lemmas.Bool.{cases_eq}
use Rattle.machine_defs.specs.Memory.{page_size, page_count, memory_size, overwritten}
use Rattle.vm_mem.specs.Pages.{IsPage, IsAllocated, IsMarked, whole, is_allocated, Pages, pages_of, written}
use Rattle.vm_mem.proofs.Paging.{write-concat}
use Rattle.vm_mem.proofs.Placed.{wholes, below-wholes, page-below, place-is}
use Rattle.vm_mem.proofs.Wholes.{whole-empty}

abbrev pub AreSound : {X : Type 0} → (X → List ℕ) → List X → Type 0
AreSound f pages = (length pages ≡ page_count) × All (λ page. IsPage (f page)) pages

-- what a function of a page's bytes gives at its place
pub through : {X B : Type 0} (f : X → List ℕ) (g : List ℕ → B) (pages : List X) (page : X) (i : ℕ) (e : B)
    → page ≡ get_or pages i page → i < length pages → get_or (map g (map f pages)) i e ≡ g (f page)
through f g pages page i e is h =
    get_or-map g (map f pages) i [] e (rw (length-map pages f) h)
    ∙ ap g (get_or-map f pages i page [] h ∙ ap f (sym is))

-- a new page at its place, where the function gives what it gave
pub through-same : {X B : Type 0} (f : X → List ℕ) (g : List ℕ → B) (pages : List X) (page new : X) (i : ℕ)
    → page ≡ get_or pages i page → i < length pages → g (f new) ≡ g (f page) → map g (map f (set pages i new)) ≡ map g (map f pages)
through-same f g pages page new i is h same =
    rw (map-set f pages i new, map-set g (map f pages) i (f new), same, ← through f g pages page i (g (f page)) is h)
    (set-get_or (map g (map f pages)) i (g (f page)))

pub sound : {X : Type 0} (f : X → List ℕ) (pages : List X) (new : X) (i : ℕ) → AreSound f pages → IsPage (f new) → AreSound f (set pages i new)
sound f pages new i all is = (length-set pages i new ∙ all.0, All-set (λ page. IsPage (f page)) pages i new is all.1)

pub whole-zeros : (page : List ℕ) → page ≡ replicate page_size 0 → whole page ≡ replicate page_size 0
unfolding whole
whole-zeros page is = rw is refl

-- a new page keeps the marks right
pub marked : {X : Type 0} (f : X → List ℕ) (d : X → Bool) (pages : List X) (new : X) (i : ℕ) → All (λ page. IsMarked (d page) (f page)) pages
    → IsMarked (d new) (f new) → All (λ page. IsMarked (d page) (f page)) (set pages i new)
marked f d pages new i all is = All-set (λ page. IsMarked (d page) (f page)) pages i new is all

-- a page is allocated
pub make-bytes : {X : Type 0} (f : X → List ℕ) (pages : List X) (page new : X) (i : ℕ) → page ≡ get_or pages i page → i < length pages
    → true ≡ (length (f page) == 0) → f new ≡ replicate page_size 0
    → concat (map whole (map f (set pages i new))) ≡ concat (map whole (map f pages))
make-bytes f pages page new i is h empty zeros =
    ap concat (through-same f whole pages page new i is h (whole-zeros (f new) zeros ∙ sym (whole-empty (f page) empty)))

pub make-made : {X : Type 0} (f : X → List ℕ) (pages : List X) (new : X) (i : ℕ) → f new ≡ replicate page_size 0
    → map is_allocated (map f (set pages i new)) ≡ set (map is_allocated (map f pages)) i true
make-made f pages new i zeros =
    let allocated : is_allocated (f new) ≡ true = rw zeros refl in
    rw (map-set f pages i new, map-set is_allocated (map f pages) i (f new), allocated) refl

pub make-is-made : {X : Type 0} (f : X → List ℕ) (pages : List X) (new : X) (i : ℕ) → i < length pages → f new ≡ replicate page_size 0
    → IsAllocated (map is_allocated (map f (set pages i new))) i
make-is-made f pages new i h zeros =
    rw (make-made f pages new i zeros)
    (get_or-set_same (map is_allocated (map f pages)) i true false (rw (length-map (map f pages) is_allocated, length-map pages f) h))

pub make-stays : {X : Type 0} (f : X → List ℕ) (pages : List X) (new : X) (i : ℕ) → i < length pages → f new ≡ replicate page_size 0
    → (other : ℕ) → IsAllocated (map is_allocated (map f pages)) other → IsAllocated (map is_allocated (map f (set pages i new))) other
make-stays f pages new i h zeros other allocated =
    elim (cases_eq other i) [
      | inl same ↦ rw same (make-is-made f pages new i h zeros)
      | inr apart ↦ rw (make-made f pages new i zeros, get_or-set_other (map is_allocated (map f pages)) i other true false apart) allocated
    ]

pub make-only : {X : Type 0} (f : X → List ℕ) (pages : List X) (new : X) (i : ℕ) → f new ≡ replicate page_size 0
    → (other : ℕ) → IsAllocated (map is_allocated (map f (set pages i new))) other → IsAllocated (map is_allocated (map f pages)) other ⊎ (other ≡ i)
make-only f pages new i zeros other allocated =
    elim (cases_eq other i) [
      | inl same ↦ inr same
      | inr apart ↦ inl (sym (ap (λ m. get_or m other false) (make-made f pages new i zeros)
          ∙ get_or-set_other (map is_allocated (map f pages)) i other true false apart) ∙ allocated)
    ]

-- a page is written
pub length-overwritten : (page : List ℕ) (o : ℕ) (bytes : List ℕ) → o + length bytes ≤ length page → length (overwritten page o bytes) ≡ length page
length-overwritten page o bytes h =
    rw (
      length-append (take o page ++ bytes) (drop (o + length bytes) page),
      length-append (take o page) bytes,
      length-take-le o page (omega (arith, h)),
      length-drop (o + length bytes) page,
    )
    (omega (arith, h))

pub whole-full : (page : List ℕ) → length page ≡ page_size → whole page ≡ page
unfolding whole
whole-full page h = rw h refl

pub written-is-page : (page new : List ℕ) (o : ℕ) (bytes : List ℕ) → length page ≡ page_size → o + length bytes ≤ page_size
    → new ≡ overwritten page o bytes → length new ≡ page_size
written-is-page page new o bytes full h is = rw is (length-overwritten page o bytes (rw full h) ∙ full)

pub write-bytes : {X : Type 0} (f : X → List ℕ) (pages : List X) (page new : X) (at : ℕ) (bytes : List ℕ) → AreSound f pages
    → page ≡ get_or pages (at / page_size) page → at < memory_size → at % page_size + length bytes ≤ page_size
    → length (f page) ≡ page_size → f new ≡ overwritten (f page) (at % page_size) bytes
    → concat (map whole (map f (set pages (at / page_size) new))) ≡ overwritten (concat (map whole (map f pages))) at bytes
write-bytes f pages page new at bytes all is h le full edit =
    let i = at / page_size in
    let o = at % page_size in
    let below = page-below at (length pages) all.0 h in
    let whole-new : whole (f new) ≡ overwritten (f page) o bytes =
    whole-full (f new) (written-is-page (f page) (f new) o bytes full le edit) ∙ edit in
    let old : get_or (map whole (map f pages)) i [] ≡ f page = through f whole pages page i [] is below ∙ whole-full (f page) full in
    let e = write-concat page_size (map whole (map f pages)) i o bytes (wholes f pages all.1) (below-wholes f pages i below) le in
    let e' : overwritten (concat (map whole (map f pages))) at bytes ≡ concat (set (map whole (map f pages)) i (overwritten (get_or (map whole (map f pages)) i []) o bytes)) =
    subst (λ a. overwritten (concat (map whole (map f pages))) a bytes ≡ concat (set (map whole (map f pages)) i (overwritten (get_or (map whole (map f pages)) i []) o bytes))) (place-is at) e in
    rw (e', old, map-set f pages i new, map-set whole (map f pages) i (f new), whole-new) refl

pub write-made : {X : Type 0} (f : X → List ℕ) (pages : List X) (page new : X) (i : ℕ) → page ≡ get_or pages i page → i < length pages
    → length (f page) ≡ page_size → length (f new) ≡ page_size
    → map is_allocated (map f (set pages i new)) ≡ map is_allocated (map f pages)
write-made f pages page new i is h full full' =
    through-same f is_allocated pages page new i is h (rw (full, full') refl)

pub same-pages : (contents contents' : List (List ℕ)) (at : ℕ) (bytes : List ℕ)
    → concat (map whole contents') ≡ overwritten (concat (map whole contents)) at bytes → map is_allocated contents' ≡ map is_allocated contents
    → pages_of contents' ≡ written (pages_of contents) at bytes
same-pages contents contents' at bytes b m = rw (b, m) refl

pub write-pages : {X : Type 0} (f : X → List ℕ) (pages : List X) (page new : X) (at : ℕ) (bytes : List ℕ) (paged : Pages) → AreSound f pages
    → page ≡ get_or pages (at / page_size) page → at < memory_size → at % page_size + length bytes ≤ page_size
    → length (f page) ≡ page_size → f new ≡ overwritten (f page) (at % page_size) bytes → pages_of (map f pages) ≡ paged
    → pages_of (map f (set pages (at / page_size) new)) ≡ written paged at bytes
write-pages f pages page new at bytes paged all is h le full edit view =
    let below = page-below at (length pages) all.0 h in
    let full' = written-is-page (f page) (f new) (at % page_size) bytes full le edit in
    rw (← view) (same-pages (map f pages) (map f (set pages (at / page_size) new)) at bytes
    (write-bytes f pages page new at bytes all is h le full edit)
    (write-made f pages page new (at / page_size) is below full full'))
