-- Accesses within one page, whose kind is the one that counts.
use Rattle.std.proofs.Common.{◌≡◌, ◌≢◌, ℕ, suc, ◌+◌, ◌-◌, ◌/◌, ◌%◌, ◌==◌, ◌<◌, ◌≤◌, false, List, [], ◌∷◌, length, get_or, slice_range, Ok, Err, refl, sym, ◌∙◌, ap, arith}
use Rattle.std.proofs.lemmas.List.{drop_more}
use Rattle.machine_defs.specs.declared.memory.PageKind.{PageKind}
use Rattle.machine_defs.specs.declared.memory.PageKind.TheVariants.{Data, Code}
use Rattle.machine_defs.specs.declared.memory.MemFault.TheVariants.{RunData}
use Rattle.machine_defs.specs.Memory.{Memory, page_size, page_count, memory_size, number_of, overwritten, is_out_of_range, kinds_under, store, fetch, fetch_pair}
use Rattle.vm_mem.specs.Paged.{PagedMemory, IsReady}
use Rattle.machine_defs.proofs.Numbers.{halves-4}
use Rattle.vm_mem.proofs.Placed.{page-below}

-- `count` bytes from an address on lie in one page of memory, of a kind
pub record IsWithinPage (memory : Memory) (at count : ℕ) (kind : PageKind) : Type 0 where
  pub pages : length memory.kinds ≡ page_count
  pub inside : at < memory_size
  pub within : at % page_size + count ≤ page_size
  pub kind_is : kind ≡ get_or memory.kinds (at / page_size) kind

in-range : (at count : ℕ) → at < memory_size → at % page_size + count ≤ page_size → is_out_of_range at count ≡ false
unfolding is_out_of_range memory_size
in-range at count inside within = grind (arith, inside, within)

one-item : {X : Type 0} (xs : List X) (i : ℕ) (x : X) → i < length xs → x ≡ get_or xs i x → slice_range xs i (i + 1) ≡ x ∷ []
one-item xs i x below is =
    let one : i + 1 - i ≡ suc 0 = omega arith in
    rw (one, drop_more xs i x below, ← is) refl

one-kind : (memory : Memory) (at count : ℕ) (kind : PageKind) → IsWithinPage memory at count kind → 0 < count → kinds_under memory at count ≡ kind ∷ []
unfolding kinds_under
one-kind memory at count kind w some =
    let more : (count == 0) ≡ false = grind (arith, some) in
    let last : (at + count - 1) / page_size ≡ at / page_size = omega (arith, some, w.within) in
    rw (more, last) (one-item memory.kinds (at / page_size) kind (page-below at (length memory.kinds) w.pages w.inside) w.kind_is)

pub page-of-kind : (memory : Memory) (at count : ℕ) (was kind : PageKind) → length memory.kinds ≡ page_count → at < memory_size
    → at % page_size + count ≤ page_size → was ≡ get_or memory.kinds (at / page_size) was → was ≡ kind → IsWithinPage memory at count kind
page-of-kind memory at count was kind pages inside within is same =
    record { pages = pages; inside = inside; within = within; kind_is = rw same at is }

store-data : (memory : Memory) (at : ℕ) (bytes : List ℕ) → IsWithinPage memory at (length bytes) Data → 0 < length bytes
    → store memory at bytes ≡ Ok (record memory { bytes = overwritten memory.bytes at bytes })
unfolding store
store-data memory at bytes w some = rw (in-range at (length bytes) w.inside w.within, one-kind memory at (length bytes) Data w some) refl

pub ready-store : (paged : PagedMemory) (at : ℕ) (bytes : List ℕ) → length paged.memory.kinds ≡ page_count → 0 < length bytes
    → IsReady paged at (length bytes)
    → store paged.memory at bytes ≡ Ok (record paged.memory { bytes = overwritten paged.memory.bytes at bytes })
ready-store paged at bytes pages some ready =
    store-data paged.memory at bytes record { pages = pages; inside = ready.inside; within = ready.within; kind_is = sym ready.data_page } some

pair-data : (memory : Memory) (at : ℕ) → IsWithinPage memory at 2 Data → fetch_pair memory at ≡ Err RunData
unfolding fetch_pair
pair-data memory at w = rw (in-range at 2 w.inside w.within, one-kind memory at 2 Data w (omega arith)) refl

pair-code : (memory : Memory) (at : ℕ) → IsWithinPage memory at 2 Code → fetch_pair memory at ≡ Ok (number_of (slice_range memory.bytes at (at + 2)))
unfolding fetch_pair
pair-code memory at w = rw (in-range at 2 w.inside w.within, one-kind memory at 2 Code w (omega arith)) refl

low-pair : (memory : Memory) (at : ℕ) (kind : PageKind) → IsWithinPage memory at 4 kind → IsWithinPage memory at 2 kind
low-pair memory at kind w = record { pages = w.pages; inside = w.inside; within = omega (arith, w.within); kind_is = w.kind_is }

high-pair : (memory : Memory) (at : ℕ) (kind : PageKind) → IsWithinPage memory at 4 kind → IsWithinPage memory (at + 2) 2 kind
unfolding memory_size
high-pair memory at kind w =
    let same : (at + 2) / page_size ≡ at / page_size = omega (arith, w.within) in
    record { pages = w.pages; inside = omega (arith, w.inside, w.within); within = omega (arith, w.within); kind_is = rw same w.kind_is }

pub fetch-data : (memory : Memory) (at : ℕ) → IsWithinPage memory at 4 Data → fetch memory at ≡ Err RunData
unfolding fetch
fetch-data memory at w = rw (pair-data memory at (low-pair memory at Data w)) refl

-- the low two bits of four bytes are those of the low two
low-bits : (xs : List ℕ) (at : ℕ) → number_of (slice_range xs at (at + 2)) % 4 ≡ number_of (slice_range xs at (at + 4)) % 4
low-bits xs at = omega (arith, halves-4 xs at)

pub fetch-short : (memory : Memory) (at : ℕ) → IsWithinPage memory at 4 Code → number_of (slice_range memory.bytes at (at + 4)) % 4 ≢ 3
    → fetch memory at ≡ Ok (number_of (slice_range memory.bytes at (at + 2)))
unfolding fetch
fetch-short memory at w short =
    let not3 : (number_of (slice_range memory.bytes at (at + 2)) % 4 == 3) ≡ false = rw (low-bits memory.bytes at) (grind (arith, short)) in
    rw (pair-code memory at (low-pair memory at Code w), not3) refl

pub fetch-long : (memory : Memory) (at : ℕ) → IsWithinPage memory at 4 Code → number_of (slice_range memory.bytes at (at + 4)) % 4 ≡ 3
    → fetch memory at ≡ Ok (number_of (slice_range memory.bytes at (at + 4)))
unfolding fetch
fetch-long memory at w long =
    let is3 : number_of (slice_range memory.bytes at (at + 2)) % 4 ≡ 3 = low-bits memory.bytes at ∙ long in
    let place : at + 2 + 2 ≡ at + 4 = omega arith in
    let high : fetch_pair memory (at + 2) ≡ Ok (number_of (slice_range memory.bytes (at + 2) (at + 4))) = rw (← place) (pair-code memory (at + 2) (high-pair memory at Code w)) in
    rw (pair-code memory at (low-pair memory at Code w), is3, high) (ap Ok (omega (arith, halves-4 memory.bytes at)))
