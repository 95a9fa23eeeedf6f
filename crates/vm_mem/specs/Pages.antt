-- Pages that take memory only once they are stored to: the bytes of such a page, or none.
use Rattle.std.specs.Prelude.{◌≡◌, ℕ, ◌+◌, ◌/◌, ◌%◌, ◌<◌, ◌≤◌, ◌==◌, nat_lt, Bool, true, false, IsTrue, slice_index_or, slice_range, List, [], length, map, replicate, if◌then◌else◌, ◌⊎◌}
use Rattle.std.specs.List.{concat}
use Rattle.machine_defs.specs.Memory.{page_count, page_size, overwritten}

-- all bytes one after another, and which pages are allocated
pub record Pages : Type 0 where
  pub bytes : List ℕ
  pub allocated : List Bool

-- a page that was never stored to is zero
unfoldable pub whole : List ℕ → List ℕ
whole page = if length page == 0 then replicate page_size 0 else page

abbrev pub is_allocated : List ℕ → Bool
is_allocated page = nat_lt 0 (length page)

abbrev pub IsPage : List ℕ → Type 0
IsPage page = (length page ≡ 0) ⊎ (length page ≡ page_size)

-- A page that is dirty is allocated, and any other is zero.
abbrev pub IsMarked : Bool → List ℕ → Type 0
IsMarked true page = length page ≡ page_size
IsMarked false page = whole page ≡ replicate page_size 0

-- the bytes of a page, by where they begin among all; it has none of its own where that is 0
unfoldable pub page_at : List ℕ → ℕ → List ℕ
page_at bytes start = if start == 0 then [] else slice_range bytes start (start + page_size)

-- Where the bytes of pages begin, and which pages are dirty: first stand the zeros of each page that is not allocated, and any
-- other has bytes of its own.
pub record ArePlaced (bytes starts : List ℕ) (dirty : List Bool) : Type 0 where
  pub count : length starts ≡ page_count
  pub marks : length dirty ≡ page_count
  pub zeros : slice_range bytes 0 page_size ≡ replicate page_size 0
  pub sized : length bytes % page_size ≡ 0
  pub aligned : (page : ℕ) → slice_index_or starts page 0 % page_size ≡ 0
  pub inside : (page : ℕ) → slice_index_or starts page 0 + page_size ≤ length bytes
  pub own : (page other : ℕ) → slice_index_or starts page 0 ≡ slice_index_or starts other 0 → (slice_index_or starts page 0 ≡ 0) ⊎ (page ≡ other)
  pub marked : (page : ℕ) → page < page_count → IsMarked (slice_index_or dirty page false) (page_at bytes (slice_index_or starts page 0))

abbrev pub pages_of : List (List ℕ) → Pages
pages_of contents = record { bytes = concat (map whole contents); allocated = map is_allocated contents }

abbrev pub written : Pages → ℕ → List ℕ → Pages
written pages at bytes = record pages { bytes = overwritten pages.bytes at bytes }

-- a page is allocated, and so are the pages of a range of bytes
abbrev pub IsAllocated : List Bool → ℕ → Type 0
IsAllocated allocated page = IsTrue (slice_index_or allocated page false)

abbrev pub AreAllocated : List Bool → ℕ → ℕ → Type 0
AreAllocated allocated at count = (i : ℕ) → i < count → IsAllocated allocated ((at + i) / page_size)

-- a byte of a range lies in the page
abbrev pub ReachesPage : ℕ → ℕ → ℕ → Type 0
ReachesPage page at count = (i : ℕ) × (i < count) × ((at + i) / page_size ≡ page)
