-- A segment's bytes and pages in memory.
use Rattle.std.proofs.Common.{◌≡◌, ℕ, ◌+◌, ◌-◌, ◌*◌, ◌/◌, ◌==◌, Bool, ◌<◌, ◌≤◌, true, false, List, ◌++◌, length, drop, replicate, IsOk, OnOk, ◌↔◌, get_or, slice_range, Result, Ok, Err, refl, sym, ◌∙◌, ap, subst, arith, inl, inr}
use Rattle.std.specs.List.{list_any}
use Rattle.std.proofs.lemmas.Bool.{cases_lt, false_from_ne_true, false≢true}
use Rattle.std.proofs.lemmas.Bool.Decides.{nat_tests}
use Rattle.std.proofs.lemmas.List.{length-drop, length-replicate, length-take}
use Rattle.machine_defs.specs.declared.memory.MemFault.{MemFault}
use Rattle.machine_defs.specs.declared.memory.PageKind.TheVariants.{Data}
use Rattle.machine_defs.specs.Memory.{Memory, is_code, is_out_of_range, kinds_under, memory_size, overwritten, page_count, page_size, set_code, store}
use Rattle.machine_defs.specs.Elf.{Segment, can_run, clashes, contents, first_page, is_inside, last_page, page_span, with_segment}
use Rattle.vm_mem.specs.Paged.{Stores}
use Rattle.vm_mem.specs.Pages.{AreAllocated}
use Rattle.elf_load.specs.Loads.{AllAllocated}
use Rattle.vm_mem.specs.declared.stop.MemStop.{MemStop}
use Rattle.vm_mem.specs.declared.stop.MemStop.TheVariants.{Fault, NoMemory}
use Rattle.elf_load.specs.Judging.{makes_code}
use Rattle.elf_load.specs.Placing.{HasCode, with_code, with_contents}
use Rattle.elf_load.proofs.Lists.{any-of_passes, any-weaker, passes-of_any}
use Rattle.elf_load.proofs.Touching.{clash-of_code, touches-from, touches-of_span, touches-parts}
use Rattle.machine_defs.proofs.Overwritten.{overwritten-more}

-- ---- ranges in memory

pub in-memory : (at count : ℕ) → is_out_of_range at count ≡ false → at + count ≤ 4194304
unfolding is_out_of_range memory_size
in-memory at count h = grind (arith, nat_tests)

pub in-memory_from : (at count : ℕ) → at + count ≤ 4194304 → is_out_of_range at count ≡ false
unfolding is_out_of_range memory_size
in-memory_from at count h = grind (arith, nat_tests)

pub ne-zero : (count : ℕ) → 0 < count → (count == 0) ≡ false
ne-zero count some = grind (arith, nat_tests)

pub is-zero : (count : ℕ) → count ≤ 0 → (count == 0) ≡ true
is-zero count none = grind (arith, nat_tests)

-- a page of code under a range of bytes
record Under (memory : Memory) (at count : ℕ) : Type 0 where
  page : ℕ
  some : 0 < count
  low : at / page_size ≤ page
  high : page ≤ (at + count - 1) / page_size
  inside : page < length memory.kinds
  code : is_code (get_or memory.kinds page Data) ≡ true

under-of_any : (memory : Memory) (at count : ℕ) → list_any is_code (kinds_under memory at count) ≡ true → Under memory at count
unfolding kinds_under
under-of_any memory at count any = elim (cases_lt 0 count) [
  | inl some ↦
      let found = passes-of_any is_code memory.kinds (at / page_size) ((at + count - 1) / page_size + 1) Data (rw (ne-zero count some) at any) in
      record { page = found.at; some = some; low = found.low; high = omega (arith, found.high); inside = found.inside; code = found.passes }
  | inr none ↦ absurd (false≢true (rw (is-zero count none) at any))
]

any-of_under : (memory : Memory) (at count : ℕ) → Under memory at count → list_any is_code (kinds_under memory at count) ≡ true
unfolding kinds_under
any-of_under memory at count u =
    rw (ne-zero count u.some)
    (any-of_passes is_code memory.kinds (at / page_size) ((at + count - 1) / page_size + 1) Data u.page u.low (let high = u.high in omega (arith, high)) u.inside u.code)

-- a part of a range of data is of data
pub no_code-part : (memory new : Memory) (at count at' count' : ℕ) → new.kinds ≡ memory.kinds → at ≤ at' → at' + count' ≤ at + count
    → list_any is_code (kinds_under memory at count) ≡ false → list_any is_code (kinds_under new at' count') ≡ false
no_code-part memory new at count at' count' same from to no_code =
    false_from_ne_true (list_any is_code (kinds_under new at' count')) (λ any.
    let u = under-of_any new at' count' any in
    let some = u.some in
    let low = u.low in
    let high = u.high in
    let wide : Under memory at count = record {
      page = u.page;
      some = omega (arith, some, from, to);
      low = omega (arith, low, from);
      high = omega (arith, high, to, some);
      inside = subst (λ kinds. u.page < length kinds) same u.inside;
      code = subst (λ kinds. is_code (get_or kinds u.page Data) ≡ true) same u.code;
    } in
    false≢true (sym no_code ∙ any-of_under memory at count wide))

-- where a segment does not clash, its pages are of data
pub no_code-under : (memory : Memory) (earlier : List Segment) (s : Segment) → HasCode memory earlier → list_any (clashes s) earlier ≡ false
    → list_any is_code (kinds_under memory s.address s.memory_size) ≡ false
unfolding first_page last_page
no_code-under memory earlier s has none =
    false_from_ne_true (list_any is_code (kinds_under memory s.address s.memory_size)) (λ any.
    let u = under-of_any memory s.address s.memory_size any in
    let touched = touches-from u.page s u.some u.low u.high in
    let code = sym (has.code u.page (subst (λ n. u.page < n) has.size u.inside)) ∙ u.code in
    false≢true (sym none ∙ any-weaker (makes_code u.page) (clashes s) earlier (λ e code. clash-of_code u.page s e touched code) code))

-- ---- the bytes of a segment

pub inside-file : (file : List ℕ) (offset count : ℕ) → is_inside file offset count ≡ true → offset + count ≤ length file
unfolding is_inside
inside-file file offset count h = grind (arith, nat_tests)

pub length-inside : (file : List ℕ) (offset count : ℕ) → is_inside file offset count ≡ true → length (slice_range file offset (offset + count)) ≡ count
length-inside file offset count h =
    let size = length-take (offset + count - offset) (drop offset file) in
    let size' = length-drop offset file in
    omega (arith, inside-file file offset count h, size, size')

-- a store to pages of data
pub store-ok : (memory : Memory) (at : ℕ) (bytes : List ℕ) (count : ℕ) → length bytes ≡ count → is_out_of_range at count ≡ false
    → list_any is_code (kinds_under memory at count) ≡ false → store memory at bytes ≡ Ok (record memory { bytes = overwritten memory.bytes at bytes })
unfolding store
store-ok memory at bytes count size in_memory no_code = rw (size, in_memory, no_code) refl

pub bytes-stored : (file : List ℕ) (memory : Memory) (s : Segment) (address : ℕ) (bytes : List ℕ) → is_inside file s.offset s.file_size ≡ true
    → s.file_size ≤ s.memory_size → is_out_of_range s.address s.memory_size ≡ false → list_any is_code (kinds_under memory s.address s.memory_size) ≡ false
    → address ≡ s.address → bytes ≡ slice_range file s.offset (s.offset + s.file_size)
    → store memory address bytes ≡ Ok (record memory { bytes = overwritten memory.bytes s.address (slice_range file s.offset (s.offset + s.file_size)) })
bytes-stored file memory s address bytes inside sizes in_memory no_code at is =
    let room = in-memory s.address s.memory_size in_memory in
    rw (at, is)
    (store-ok memory s.address (slice_range file s.offset (s.offset + s.file_size)) s.file_size (length-inside file s.offset s.file_size inside)
    (in-memory_from s.address s.file_size (omega (arith, room, sizes)))
    (no_code-part memory memory s.address s.memory_size s.address s.file_size refl (omega arith) (omega (arith, sizes)) no_code))

pub zeros-stored : (memory first : Memory) (s : Segment) (address size count : ℕ) → s.file_size ≤ s.memory_size
    → is_out_of_range s.address s.memory_size ≡ false → list_any is_code (kinds_under memory s.address s.memory_size) ≡ false
    → first.kinds ≡ memory.kinds → address ≡ s.address → size ≡ s.file_size → count ≡ s.memory_size - size
    → store first (address + size) (replicate count 0) ≡ Ok (record first { bytes = overwritten first.bytes (s.address + s.file_size) (replicate (s.memory_size - s.file_size) 0) })
zeros-stored memory first s address size count sizes in_memory no_code same at is rest =
    let room = in-memory s.address s.memory_size in_memory in
    rw (rest, at, is)
    (store-ok first (s.address + s.file_size) (replicate (s.memory_size - s.file_size) 0) (s.memory_size - s.file_size) (length-replicate {A = ℕ} (s.memory_size - s.file_size) 0)
    (in-memory_from (s.address + s.file_size) (s.memory_size - s.file_size) (omega (arith, room, sizes)))
    (no_code-part memory first s.address s.memory_size (s.address + s.file_size) (s.memory_size - s.file_size) same (omega arith) (omega (arith, sizes)) no_code))

-- what a store leaves, and a clearing, where the definition refuses nothing
pub stored-ok : (expected : Result Memory MemFault) (memory old new : Memory) → expected ≡ Ok memory → Stores expected old new (Ok tt) → new ≡ memory
stored-ok (Ok stored) memory old new ok stores = cc
stored-ok (Err fault) memory old new ok stores = absurd cc

pub stored-unrefused : (expected : Result Memory MemFault) (memory old new : Memory) (stop : MemStop) (fault : MemFault) → expected ≡ Ok memory → stop ≡ Fault fault
    → Stores expected old new (Err stop) → ⊥
stored-unrefused expected memory old new NoMemory fault ok is stores = cc
stored-unrefused (Ok stored) memory old new (Fault other) fault ok is stores = stores
stored-unrefused (Err fault') memory old new (Fault other) fault ok is stores = cc

pub unrefused : (result : Result (Unit {0}) MemFault) (expected : Result Memory MemFault) (memory : Memory)
    → ((fault : MemFault) → (result ≡ Err fault) ↔ (expected ≡ Err fault)) → expected ≡ Ok memory → IsOk result
unrefused (Ok done) expected memory refused ok = refl
unrefused (Err fault) expected memory refused ok = absurd (let err = (refused fault).0 refl in cc)

pub done-ok : (result : Result (Unit {0}) MemFault) (expected : Result Memory MemFault) (memory new : Memory) → IsOk result
    → OnOk result (Ok new ≡ expected) → expected ≡ Ok memory → new ≡ memory
done-ok (Ok done) expected memory new is leaves ok = cc
done-ok (Err fault) expected memory new is leaves ok = absurd (false≢true is)

pub bytes-made : (allocated : List Bool) (file : List ℕ) (s : Segment) (address : ℕ) (bytes : List ℕ) → AllAllocated allocated → is_inside file s.offset s.file_size ≡ true
    → s.file_size ≤ s.memory_size → is_out_of_range s.address s.memory_size ≡ false → address ≡ s.address
    → bytes ≡ slice_range file s.offset (s.offset + s.file_size) → AreAllocated allocated address (length bytes)
unfolding page_count
bytes-made allocated file s address bytes all inside sizes in_memory at is i below =
    let room = in-memory s.address s.memory_size in_memory in
    let size = ap length is ∙ length-inside file s.offset s.file_size inside in
    all ((address + i) / page_size) (omega (arith, room, sizes, size, below, at))

-- the zeros after the bytes
pub contents-stored : (file : List ℕ) (memory first : Memory) (s : Segment) (address size count : ℕ) (bytes : List ℕ) → is_inside file s.offset s.file_size ≡ true
    → s.file_size ≤ s.memory_size → is_out_of_range s.address s.memory_size ≡ false → list_any is_code (kinds_under memory s.address s.memory_size) ≡ false
    → address ≡ s.address → size ≡ s.file_size → count ≡ s.memory_size - size → bytes ≡ slice_range file s.offset (s.offset + s.file_size)
    → Stores (store memory address bytes) memory first (Ok tt) → store first (address + size) (replicate count 0) ≡ Ok (with_contents file memory s)
unfolding contents
contents-stored file memory first s address size count bytes inside sizes in_memory no_code at is rest slice stores =
    let of_file = slice_range file s.offset (s.offset + s.file_size) in
    let zeros = replicate (s.memory_size - s.file_size) 0 in
    let ok = bytes-stored file memory s address bytes inside sizes in_memory no_code at slice in
    let one : first ≡ record memory { bytes = overwritten memory.bytes s.address of_file } = stored-ok (store memory address bytes) _ memory first ok stores in
    let joined : overwritten (overwritten memory.bytes s.address of_file) (s.address + s.file_size) zeros ≡ overwritten memory.bytes s.address (of_file ++ zeros) =
    subst (λ n. overwritten (overwritten memory.bytes s.address of_file) (s.address + n) zeros ≡ overwritten memory.bytes s.address (of_file ++ zeros))
    (length-inside file s.offset s.file_size inside) (overwritten-more memory.bytes s.address of_file zeros) in
    zeros-stored memory first s address size count sizes in_memory no_code (ap (λ m. m.kinds) one) at is rest
    ∙ rw one (ap (λ b. Ok (record memory { bytes = b })) joined)

-- ---- the pages of a segment

pub segment-placed : (file : List ℕ) (memory : Memory) (s : Segment) → with_code (with_contents file memory s) s ≡ with_segment file memory s
unfolding with_segment
segment-placed file memory s = refl

last-under : (s : Segment) (page : ℕ) → page ≤ last_page s → page ≤ (s.address + s.memory_size - 1) / page_size
unfolding last_page
last-under s page h = h

-- the whole pages of a segment are those under its bytes
whole-pages : (memory : Memory) (s : Segment) → list_any is_code (kinds_under memory s.address s.memory_size) ≡ false
    → list_any is_code (kinds_under memory (page_size * first_page s) (page_size * page_span s)) ≡ false
unfolding first_page
whole-pages memory s no_code =
    false_from_ne_true (list_any is_code (kinds_under memory (page_size * first_page s) (page_size * page_span s))) (λ any.
    let u = under-of_any memory (page_size * first_page s) (page_size * page_span s) any in
    let some = u.some in
    let low = u.low in
    let high = u.high in
    let parts = touches-parts u.page s (touches-of_span u.page s (omega (arith, low)) (omega (arith, high, some))) in
    let wide : Under memory s.address s.memory_size = record {
      page = u.page;
      some = parts.0;
      low = parts.1;
      high = last-under s u.page parts.2;
      inside = u.inside;
      code = u.code;
    } in
    false≢true (sym no_code ∙ any-of_under memory s.address s.memory_size wide))

pub set_code-ok : (memory : Memory) (s : Segment) (at pages first : ℕ) → first_page s + pages ≤ page_count
    → list_any is_code (kinds_under memory s.address s.memory_size) ≡ false → can_run s ≡ true → at ≡ page_size * first → first ≡ first_page s → pages ≡ page_span s
    → set_code memory at pages ≡ Ok (with_code memory s)
unfolding set_code page_count
set_code-ok memory s at pages first within no_code run is first-is span =
    let room : first_page s + page_span s ≤ 1024 = subst (λ n. first_page s + n ≤ 1024) span within in
    let in_memory = in-memory_from (page_size * first_page s) (page_size * page_span s) (omega (arith, room)) in
    let place : page_size * first_page s / page_size ≡ first_page s = omega arith in
    rw (is, first-is, span, in_memory, whole-pages memory s no_code, place, run) refl
