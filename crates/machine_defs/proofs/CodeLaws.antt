-- Code stays as it is.
use Rattle.std.proofs.Common.{◌≡◌, ◌⊎◌, inl, inr, ℕ, zero, suc, ◌+◌, ◌-◌, ◌*◌, ◌/◌, ◌%◌, ◌==◌, ◌<◌, ◌≤◌, Bool, true, false, cond, List, [], ◌∷◌, ◌++◌, length, take, drop, replicate, get_or, slice_range, Option, Result, Ok, Err, refl, sym, ap, ◌∙◌, arith}
use Rattle.std.specs.List.{list_any, list_all}
use Rattle.std.proofs.lemmas.Bool.{cases_lt, false≢true}
use Rattle.std.proofs.lemmas.Bool.Decides.{nat_tests}
use Rattle.std.proofs.lemmas.List.{length-append, length-drop, length-replicate, length-take-le, get_or-append-add, get_or-drop, get_or-replicate, get_or-take, get_or_append_left}
use Rattle.std.proofs.lemmas.List.Folds.{list_any_at, list_all_at}
use Rattle.std.proofs.lemmas.List.Sums.{list_all-from_AllPass}
use Rattle.machine_defs.specs.declared.ins.Ins.{Ins}
use Rattle.machine_defs.specs.declared.memory.PageKind.{PageKind}
use Rattle.machine_defs.specs.declared.memory.PageKind.TheVariants.{Data, Code}
use Rattle.machine_defs.specs.declared.memory.MemFault.{MemFault}
use Rattle.machine_defs.specs.declared.memory.MemFault.TheVariants.{Range, WriteCode, RunData}
use Rattle.machine_defs.specs.Memory.{Memory, page_size, page_count, memory_size, number_of, overwritten, is_code, is_out_of_range, kinds_under, store, set_code, fetch_pair, with_high_pair, with_next_pair, fetch, new_memory}
use Rattle.machine_defs.specs.Code.{decoded, instruction_at, IsWhole, StoreKeepsCode, SetCodeKeepsCode}
use Rattle.machine_defs.proofs.Numbers.{number-2}

-- ---- a list that is written over

pub length-overwritten : {X : Type 0} (xs : List X) (at : ℕ) (ys : List X) → at + length ys ≤ length xs
    → length (overwritten xs at ys) ≡ length xs
length-overwritten xs at ys h =
    rw (
      length-append (take at xs ++ ys) (drop (at + length ys) xs),
      length-append (take at xs) ys,
      length-take-le at xs (omega (arith, h)),
      length-drop (at + length ys) xs,
    )
    (omega (arith, h))

-- an item before those that are written, and one after them
pub get_or-before : {X : Type 0} (xs : List X) (at : ℕ) (ys : List X) (i : ℕ) (d : X) → at ≤ length xs → i < at
    → get_or (overwritten xs at ys) i d ≡ get_or xs i d
get_or-before xs at ys i d h before =
    let front : length (take at xs) ≡ at = length-take-le at xs h in
    let start : length (take at xs ++ ys) ≡ at + length ys = length-append (take at xs) ys ∙ ap (λ n. n + length ys) front in
    get_or_append_left (take at xs ++ ys) (drop (at + length ys) xs) d i (omega (arith, start, before))
    ∙ get_or_append_left (take at xs) ys d i (omega (arith, front, before))
    ∙ get_or-take at xs i d before

pub get_or-after : {X : Type 0} (xs : List X) (at : ℕ) (ys : List X) (i : ℕ) (d : X) → at ≤ length xs → at + length ys ≤ i
    → get_or (overwritten xs at ys) i d ≡ get_or xs i d
get_or-after xs at ys i d h behind =
    let front : length (take at xs) ≡ at = length-take-le at xs h in
    let start : length (take at xs ++ ys) ≡ at + length ys = length-append (take at xs) ys ∙ ap (λ n. n + length ys) front in
    let place : length (take at xs ++ ys) + (i - (at + length ys)) ≡ i = omega (arith, start, behind) in
    let rest : at + length ys + (i - (at + length ys)) ≡ i = omega (arith, behind) in
    ap (λ n. get_or (overwritten xs at ys) n d) (sym place)
    ∙ get_or-append-add (take at xs ++ ys) (drop (at + length ys) xs) (i - (at + length ys)) d
    ∙ get_or-drop (at + length ys) xs (i - (at + length ys)) d
    ∙ ap (λ n. get_or xs n d) rest

-- one of those that are written
pub get_or-written : {X : Type 0} (xs : List X) (at : ℕ) (ys : List X) (i : ℕ) (d : X) → at ≤ length xs → at ≤ i → i < at + length ys
    → get_or (overwritten xs at ys) i d ≡ get_or ys (i - at) d
get_or-written xs at ys i d h low high =
    let front : length (take at xs) ≡ at = length-take-le at xs h in
    let start : length (take at xs ++ ys) ≡ at + length ys = length-append (take at xs) ys ∙ ap (λ n. n + length ys) front in
    let place : length (take at xs) + (i - at) ≡ i = omega (arith, front, low) in
    get_or_append_left (take at xs ++ ys) (drop (at + length ys) xs) d i (omega (arith, start, high))
    ∙ ap (λ n. get_or (take at xs ++ ys) n d) (sym place)
    ∙ get_or-append-add (take at xs) ys (i - at) d

-- ---- the kinds of a range of pages

get_or-range : {X : Type 0} (xs : List X) (a e i : ℕ) (d : X) → a ≤ i → i < e → get_or (slice_range xs a e) (i - a) d ≡ get_or xs i d
get_or-range xs a e i d low high =
    let place : a + (i - a) ≡ i = omega (arith, low) in
    get_or-take (e - a) (drop a xs) (i - a) d (omega (arith, low, high)) ∙ get_or-drop a xs (i - a) d ∙ ap (λ n. get_or xs n d) place

below-range : {X : Type 0} (xs : List X) (a e i : ℕ) → a ≤ i → i < e → e ≤ length xs → i - a < length (slice_range xs a e)
below-range xs a e i low high inside =
    let rest : length (drop a xs) ≡ length xs - a = length-drop a xs in
    let size : length (take (e - a) (drop a xs)) ≡ e - a = length-take-le (e - a) (drop a xs) (omega (arith, rest, inside)) in
    rw size (omega (arith, low, high))

bool-is : (b : Bool) → (b ≡ true) ⊎ (b ≡ false)
bool-is true = inl refl
bool-is false = inr refl

all-at : (kinds : List PageKind) (a e i : ℕ) → list_all is_code (slice_range kinds a e) ≡ true → a ≤ i → i < e → e ≤ length kinds
    → is_code (get_or kinds i Data) ≡ true
all-at kinds a e i all low high inside =
    elim (bool-is (is_code (get_or kinds i Data))) [
      | inl so ↦ so
      | inr other ↦ absurd (false≢true (sym (list_all_at is_code (slice_range kinds a e) (i - a) Data (below-range kinds a e i low high inside)
          (ap is_code (get_or-range kinds a e i Data low high) ∙ other)) ∙ all))
    ]

none-at : (kinds : List PageKind) (a e i : ℕ) → list_any is_code (slice_range kinds a e) ≡ false → a ≤ i → i < e → e ≤ length kinds
    → is_code (get_or kinds i Data) ≡ false
none-at kinds a e i none low high inside =
    elim (bool-is (is_code (get_or kinds i Data))) [
      | inl so ↦ absurd (false≢true (sym none ∙ list_any_at is_code (slice_range kinds a e) (i - a) Data (below-range kinds a e i low high inside)
          (ap is_code (get_or-range kinds a e i Data low high) ∙ so)))
      | inr other ↦ other
    ]

-- ---- a pair of bytes that can be fetched

pub record IsPair (memory : Memory) (at number : ℕ) : Type 0 where
  pub inside : is_out_of_range at 2 ≡ false
  pub code : list_all is_code (kinds_under memory at 2) ≡ true
  pub number_is : number_of (slice_range memory.bytes at (at + 2)) ≡ number

pair-tests : (past code : Bool) (m n : ℕ) → cond past (Err Range) (cond code (Ok m) (Err RunData)) ≡ Ok n
    → (past ≡ false) × (code ≡ true) × (m ≡ n)
pair-tests true code m n e = cc
pair-tests false true m n e = (refl, refl, cc)
pair-tests false false m n e = cc

pair-is : (memory : Memory) (at number : ℕ) → fetch_pair memory at ≡ Ok number → IsPair memory at number
unfolding fetch_pair
pair-is memory at number e =
    let tests = pair-tests (is_out_of_range at 2) (list_all is_code (kinds_under memory at 2)) (number_of (slice_range memory.bytes at (at + 2))) number e in
    record { inside = tests.0; code = tests.1; number_is = tests.2 }

is-pair : (memory : Memory) (at number : ℕ) → IsPair memory at number → fetch_pair memory at ≡ Ok number
unfolding fetch_pair
is-pair memory at number pair = rw (pair.inside, pair.code) (ap Ok pair.number_is)

in-memory : (at count : ℕ) → is_out_of_range at count ≡ false → at + count ≤ memory_size
unfolding is_out_of_range
in-memory at count inside = grind (arith, nat_tests)

pages-in : (at count : ℕ) → at + count ≤ memory_size → 0 < count → (at + count - 1) / page_size + 1 ≤ page_count
unfolding memory_size page_count
pages-in at count inside some = omega (arith, inside, some)

-- the page of a byte of code
code-page : (memory : Memory) (at number i : ℕ) → IsWhole memory → IsPair memory at number → at ≤ i → i < at + 2
    → is_code (get_or memory.kinds (i / page_size) Data) ≡ true
unfolding kinds_under
code-page memory at number i whole pair low high =
    let inside = in-memory at 2 pair.inside in
    let last = pages-in at 2 inside (omega arith) in
    let after : i / page_size < (at + 2 - 1) / page_size + 1 = omega (arith, high) in
    let before : at / page_size ≤ i / page_size = omega (arith, low) in
    all-at memory.kinds (at / page_size) ((at + 2 - 1) / page_size + 1) (i / page_size) pair.code before after (rw whole.kinds last)

-- the page of a byte that can be written
data-page : (memory : Memory) (at count i : ℕ) → IsWhole memory → is_out_of_range at count ≡ false
    → list_any is_code (kinds_under memory at count) ≡ false → at ≤ i → i < at + count
    → is_code (get_or memory.kinds (i / page_size) Data) ≡ false
unfolding kinds_under
data-page memory at count i whole inside none low high =
    let some : (count == 0) ≡ false = grind (arith, low, high) in
    let last = pages-in at count (in-memory at count inside) (omega (arith, low, high)) in
    let after : i / page_size < (at + count - 1) / page_size + 1 = omega (arith, low, high) in
    let before : at / page_size ≤ i / page_size = omega (arith, low) in
    let none' : list_any is_code (slice_range memory.kinds (at / page_size) ((at + count - 1) / page_size + 1)) ≡ false = rw some at none in
    none-at memory.kinds (at / page_size) ((at + count - 1) / page_size + 1) (i / page_size) none' before after (rw whole.kinds last)

-- ---- two memories, of which one has each pair of the other

abbrev pub KeepsPairs : Memory → Memory → Type 0
KeepsPairs old new = (at number : ℕ) → fetch_pair old at ≡ Ok number → fetch_pair new at ≡ Ok number

high-kept : (old new : Memory) (at low word : ℕ) (high : Result ℕ MemFault) → KeepsPairs old new → fetch_pair old at ≡ high
    → with_high_pair low high ≡ Ok word → with_high_pair low (fetch_pair new at) ≡ Ok word
high-kept old new at low word (Ok high) keeps is e = rw (keeps at high is) e
high-kept old new at low word (Err fault) keeps is e = cc

word-kept : (old new : Memory) (at low word : ℕ) (long : Bool) → KeepsPairs old new
    → cond long (with_high_pair low (fetch_pair old (at + 2))) (Ok low) ≡ Ok word
    → cond long (with_high_pair low (fetch_pair new (at + 2))) (Ok low) ≡ Ok word
word-kept old new at low word true keeps e = high-kept old new (at + 2) low word (fetch_pair old (at + 2)) keeps refl e
word-kept old new at low word false keeps e = e

pairs-kept : (old new : Memory) (at word : ℕ) (low : Result ℕ MemFault) → KeepsPairs old new → fetch_pair old at ≡ low
    → with_next_pair old at low ≡ Ok word → with_next_pair new at (fetch_pair new at) ≡ Ok word
pairs-kept old new at word (Ok low) keeps is e = rw (keeps at low is) (word-kept old new at low word (low % 4 == 3) keeps e)
pairs-kept old new at word (Err fault) keeps is e = cc

fetch-kept : (old new : Memory) (at word : ℕ) → KeepsPairs old new → fetch old at ≡ Ok word → fetch new at ≡ Ok word
unfolding fetch
fetch-kept old new at word keeps e = pairs-kept old new at word (fetch_pair old at) keeps refl e

-- ---- a store

pub record IsStore (old new : Memory) (at : ℕ) (bytes : List ℕ) : Type 0 where
  pub inside : is_out_of_range at (length bytes) ≡ false
  pub written : list_any is_code (kinds_under old at (length bytes)) ≡ false
  pub stored : new ≡ record old { bytes = overwritten old.bytes at bytes }

store-tests : (past code : Bool) (changed new : Memory) → cond past (Err Range) (cond code (Err WriteCode) (Ok changed)) ≡ Ok new
    → (past ≡ false) × (code ≡ false) × (new ≡ changed)
store-tests true code changed new e = cc
store-tests false true changed new e = cc
store-tests false false changed new e = (refl, refl, cc)

pub store-is : (old new : Memory) (at : ℕ) (bytes : List ℕ) → store old at bytes ≡ Ok new → IsStore old new at bytes
unfolding store
store-is old new at bytes e =
    let tests = store-tests (is_out_of_range at (length bytes)) (list_any is_code (kinds_under old at (length bytes))) _ new e in
    record { inside = tests.0; written = tests.1; stored = tests.2 }

-- a byte of code is not among those that are written
byte-kept : (old new : Memory) (at number place i : ℕ) (bytes : List ℕ) → IsWhole old → IsPair old at number → IsStore old new place bytes
    → at ≤ i → i < at + 2 → get_or (overwritten old.bytes place bytes) i 0 ≡ get_or old.bytes i 0
byte-kept old new at number place i bytes whole pair is low high =
    let room : place ≤ length old.bytes = omega (arith, whole.bytes, in-memory place (length bytes) is.inside) in
    elim (cases_lt i place) [
      | inl before ↦ get_or-before old.bytes place bytes i 0 room before
      | inr from ↦ elim (cases_lt i (place + length bytes)) [
        | inl within ↦ absurd (false≢true (sym (data-page old place (length bytes) i whole is.inside is.written from within)
            ∙ code-page old at number i whole pair low high))
        | inr behind ↦ get_or-after old.bytes place bytes i 0 room behind
      ]
    ]

store-keeps-pairs : (old new : Memory) (place : ℕ) (bytes : List ℕ) → IsWhole old → IsStore old new place bytes → KeepsPairs old new
unfolding kinds_under
store-keeps-pairs old new place bytes whole is at number fetched =
    let pair = pair-is old at number fetched in
    let first = byte-kept old new at number place at bytes whole pair is (omega arith) (omega arith) in
    let second = byte-kept old new at number place (at + 1) bytes whole pair is (omega arith) (omega arith) in
    let same : number_of (slice_range (overwritten old.bytes place bytes) at (at + 2)) ≡ number =
    sym (number-2 (overwritten old.bytes place bytes) at) ∙ rw (first, second) (number-2 old.bytes at) ∙ pair.number_is in
    rw is.stored (is-pair (record old { bytes = overwritten old.bytes place bytes }) at number
    (record { inside = pair.inside; code = pair.code; number_is = same }))

pub store-keeps-code : StoreKeepsCode
store-keeps-code old new at word place bytes whole fetched stored =
    fetch-kept old new at word (store-keeps-pairs old new place bytes whole (store-is old new place bytes stored)) fetched

pub store-whole : (old new : Memory) (at : ℕ) (bytes : List ℕ) → IsWhole old → store old at bytes ≡ Ok new → IsWhole new
store-whole old new at bytes whole stored =
    let is = store-is old new at bytes stored in
    let room : at + length bytes ≤ length old.bytes = omega (arith, whole.bytes, in-memory at (length bytes) is.inside) in
    rw is.stored (record { bytes = length-overwritten old.bytes at bytes room ∙ whole.bytes; kinds = whole.kinds })

-- ---- more pages of code

pub record IsSetCode (old new : Memory) (at pages : ℕ) : Type 0 where
  pub inside : is_out_of_range at (page_size * pages) ≡ false
  pub marked : new ≡ record old { kinds = overwritten old.kinds (at / page_size) (replicate pages Code) }

set_code-is : (old new : Memory) (at pages : ℕ) → set_code old at pages ≡ Ok new → IsSetCode old new at pages
unfolding set_code
set_code-is old new at pages e =
    let tests = store-tests (is_out_of_range at (page_size * pages)) (list_any is_code (kinds_under old at (page_size * pages))) _ new e in
    record { inside = tests.0; marked = tests.2 }

marked-pages : (at pages : ℕ) → at + page_size * pages ≤ memory_size → at / page_size + pages ≤ page_count
unfolding memory_size page_count
marked-pages at pages inside = omega (arith, inside)

-- a page of code stays one
kind-kept : (kinds : List PageKind) (first pages i : ℕ) → first + pages ≤ length kinds → is_code (get_or kinds i Data) ≡ true
    → is_code (get_or (overwritten kinds first (replicate pages Code)) i Data) ≡ true
kind-kept kinds first pages i inside was =
    let size : length (replicate pages Code) ≡ pages = length-replicate pages Code in
    elim (cases_lt i first) [
      | inl before ↦ ap is_code (get_or-before kinds first (replicate pages Code) i Data (omega (arith, inside)) before) ∙ was
      | inr from ↦ elim (cases_lt i (first + pages)) [
        | inl within ↦ ap is_code (get_or-written kinds first (replicate pages Code) i Data (omega (arith, inside)) from (omega (arith, size, within))
            ∙ get_or-replicate pages (i - first) Code Data (omega (arith, from, within)))
        | inr behind ↦ ap is_code (get_or-after kinds first (replicate pages Code) i Data (omega (arith, inside)) (omega (arith, size, behind))) ∙ was
      ]
    ]

all-from : (kinds : List PageKind) (a e : ℕ) → e ≤ length kinds → ((i : ℕ) → a ≤ i → i < e → is_code (get_or kinds i Data) ≡ true)
    → list_all is_code (slice_range kinds a e) ≡ true
all-from kinds a e inside each =
    let rest : length (drop a kinds) ≡ length kinds - a = length-drop a kinds in
    list_all-from_AllPass is_code (slice_range kinds a e) (λ k d below.
    let short : k < e - a = omega (arith, below, length-take-at (e - a) (drop a kinds)) in
    let place : a + k - a ≡ k = omega arith in
    let same : get_or (slice_range kinds a e) k d ≡ get_or (slice_range kinds a e) k Data = default-same (slice_range kinds a e) k d Data below in
    let at : get_or (slice_range kinds a e) k Data ≡ get_or kinds (a + k) Data =
    ap (λ n. get_or (slice_range kinds a e) n Data) (sym place) ∙ get_or-range kinds a e (a + k) Data (omega arith) (omega (arith, short)) in
    ap is_code (same ∙ at) ∙ each (a + k) (omega arith) (omega (arith, short)))
  where
    length-take-at : {X : Type 0} (n : ℕ) (xs : List X) → length (take n xs) ≤ n
    length-take-at zero xs = omega arith
    length-take-at (suc n) [] = omega arith
    length-take-at (suc n) (x ∷ xs) = omega (arith, length-take-at n xs)

    default-same : {X : Type 0} (xs : List X) (k : ℕ) (d e : X) → k < length xs → get_or xs k d ≡ get_or xs k e
    default-same [] k d e h = absurd (omega (arith, h))
    default-same (x ∷ xs) zero d e h = refl
    default-same (x ∷ xs) (suc k) d e h = default-same xs k d e (omega (arith, h))

set_code-keeps-pairs : (old new : Memory) (place pages : ℕ) → IsWhole old → IsSetCode old new place pages → KeepsPairs old new
unfolding kinds_under
set_code-keeps-pairs old new place pages whole is at number fetched =
    let pair = pair-is old at number fetched in
    let room : place / page_size + pages ≤ length old.kinds = rw whole.kinds (marked-pages place pages (in-memory place (page_size * pages) is.inside)) in
    let kinds = overwritten old.kinds (place / page_size) (replicate pages Code) in
    let size : length kinds ≡ page_count =
    length-overwritten old.kinds (place / page_size) (replicate pages Code) (rw (length-replicate pages Code) room) ∙ whole.kinds in
    let last = pages-in at 2 (in-memory at 2 pair.inside) (omega arith) in
    let code : list_all is_code (slice_range kinds (at / page_size) ((at + 2 - 1) / page_size + 1)) ≡ true =
    all-from kinds (at / page_size) ((at + 2 - 1) / page_size + 1) (rw size last) (λ i low high.
    kind-kept old.kinds (place / page_size) pages i room
    (all-at old.kinds (at / page_size) ((at + 2 - 1) / page_size + 1) i pair.code low high (rw whole.kinds last))) in
    rw is.marked (is-pair (record old { kinds = kinds }) at number
    (record { inside = pair.inside; code = code; number_is = pair.number_is }))

pub set_code-keeps-code : SetCodeKeepsCode
set_code-keeps-code old new at word place pages whole fetched marked =
    fetch-kept old new at word (set_code-keeps-pairs old new place pages whole (set_code-is old new place pages marked)) fetched

pub set_code-whole : (old new : Memory) (at pages : ℕ) → IsWhole old → set_code old at pages ≡ Ok new → IsWhole new
set_code-whole old new at pages whole marked =
    let is = set_code-is old new at pages marked in
    let room : at / page_size + pages ≤ length old.kinds = rw whole.kinds (marked-pages at pages (in-memory at (page_size * pages) is.inside)) in
    rw is.marked (record {
      bytes = whole.bytes;
      kinds = length-overwritten old.kinds (at / page_size) (replicate pages Code) (rw (length-replicate pages Code) room) ∙ whole.kinds;
    })

-- ---- a new memory

pub new-whole : IsWhole new_memory
unfolding new_memory
new-whole = record { bytes = length-replicate memory_size 0; kinds = length-replicate page_count Data }

-- ---- the instruction at an address

decoded-kept : (old new : Memory) (at : ℕ) (word : Result ℕ MemFault) (instruction : Option (Ins × ℕ))
    → ((w : ℕ) → fetch old at ≡ Ok w → fetch new at ≡ Ok w) → fetch old at ≡ word
    → decoded word ≡ Ok instruction → decoded (fetch new at) ≡ Ok instruction
decoded-kept old new at (Ok word) instruction keeps is e = rw (keeps word is) e
decoded-kept old new at (Err fault) instruction keeps is e = cc

-- it stays where words do
pub instruction-kept : (old new : Memory) (at : ℕ) (instruction : Option (Ins × ℕ))
    → ((w : ℕ) → fetch old at ≡ Ok w → fetch new at ≡ Ok w)
    → instruction_at old at ≡ Ok instruction → instruction_at new at ≡ Ok instruction
unfolding instruction_at
instruction-kept old new at instruction keeps e = decoded-kept old new at (fetch old at) instruction keeps refl e

-- an address with an instruction lies in memory
fetched-inside : (memory : Memory) (at : ℕ) (low : Result ℕ MemFault) (word : ℕ) → fetch_pair memory at ≡ low → with_next_pair memory at low ≡ Ok word
    → at + 2 ≤ memory_size
fetched-inside memory at (Ok low) word is e = in-memory at 2 (pair-is memory at low is).inside
fetched-inside memory at (Err fault) word is e = cc

pub fetch-inside : (memory : Memory) (at word : ℕ) → fetch memory at ≡ Ok word → at + 2 ≤ memory_size
unfolding fetch
fetch-inside memory at word e = fetched-inside memory at (fetch_pair memory at) word refl e
