-- The pages that are allocated for the segments of a file, one after another.
use Rattle.std.proofs.Common.{◌≡◌, ◌⊎◌, ℕ, Bool, List, [], ◌∷◌, inl, inr, subst}
use Rattle.machine_defs.specs.Elf.{Segment, segments}
use Rattle.vm_mem.specs.Pages.{AreAllocated, IsAllocated, ReachesPage}
use Rattle.elf_load.specs.Placing.{Allocates, HoldsBytes}

-- a range of allocated pages has each page under it
under-range : (allocated : List Bool) (page at count : ℕ) → AreAllocated allocated at count → ReachesPage page at count → IsAllocated allocated page
under-range allocated page at count all under = subst (λ p. IsAllocated allocated p) under.2 (all under.0 under.1)

-- the bytes of one segment were copied
pub allocates-one : (old copied new : List Bool) (s : Segment) (at count : ℕ) → at ≡ s.address → count ≡ s.file_size → AreAllocated copied at count
    → ((page : ℕ) → IsAllocated old page → IsAllocated copied page)
    → ((page : ℕ) → IsAllocated copied page → IsAllocated old page ⊎ ReachesPage page at count) → new ≡ copied → Allocates (s ∷ []) old new
allocates-one old copied new s at count place size all kept added same page =
    rw (same, ← place, ← size) (
      λ allocated. elim (added page allocated) [
        | inl before ↦ inl before
        | inr under ↦ inr (inl under)
      ],
      λ has. elim has [
        | inl before ↦ kept page before
        | inr (inl under) ↦ under-range copied page at count all under
        | inr (inr none) ↦ absurd none
      ],
    )

-- and then those of others
allocates-more : (old new last : List Bool) (s : Segment) (others : List Segment) → Allocates (s ∷ []) old new → Allocates others new last
    → Allocates (s ∷ others) old last
allocates-more old new last s others one more page = (
  λ allocated. elim ((more page).0 allocated) [
    | inl before ↦ elim ((one page).0 before) [
      | inl first ↦ inl first
      | inr (inl under) ↦ inr (inl under)
      | inr (inr none) ↦ absurd none
    ]
    | inr holds ↦ inr (inr holds)
  ],
  λ has. elim has [
    | inl before ↦ (more page).1 (inl ((one page).1 (inl before)))
    | inr (inl under) ↦ (more page).1 (inl ((one page).1 (inr (inl under))))
    | inr (inr holds) ↦ (more page).1 (inr holds)
  ],
)

-- how far the pages of a file are allocated: with what is left of it, they are those of the file
abbrev pub Allocating : List ℕ → List Segment → List Bool → List Bool → Type 0
Allocating file rest old now = (last : List Bool) → Allocates rest now last → Allocates (segments file) old last

pub allocating-more : (file : List ℕ) (s : Segment) (rest : List Segment) (old now new : List Bool) → Allocating file (s ∷ rest) old now
    → Allocates (s ∷ []) now new → Allocating file rest old new
allocating-more file s rest old now new allocating one = λ last more. allocating last (allocates-more now new last s rest one more)

pub allocating-all : (file : List ℕ) (old now : List Bool) → Allocating file [] old now → Allocates (segments file) old now
allocating-all file old now allocating = allocating now (λ page. (λ allocated. inl allocated, λ has. elim has [ inl before ↦ before | inr none ↦ absurd none ]))
