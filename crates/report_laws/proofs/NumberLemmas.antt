-- That the numbers and the hashes of a header are as bytes hold them.
use Rattle.std.proofs.Common.{◌≡◌, ℕ, zero, suc, ◌+◌, ◌-◌, ◌/◌, ◌%◌, ◌^◌, ◌<◌, ◌≤◌, Bool, true, false, cond, List, [], ◌∷◌, length, get_or, map, drop, Option, Some, None, refl, arith, div-le_self, mod-lt}
use Rattle.std.specs.Prelude.{IsTrue, nat_le, nat_lt, slice_get}
use Rattle.std.specs.List.{All, filter_map, cons_option}
use Rattle.std.proofs.lemmas.Bool.{and_parts, ltb-true, leb-true}
use Rattle.std.proofs.lemmas.List.{length-append}
use Rattle.std.proofs.lemmas.List.Elements.{All-nil, All-cons, All-head, All-tail, All-drop, All-map}
use Rattle.chain_defs.specs.Schema.{Block}
use Rattle.chain_defs.specs.Epochs.{epoch_field}
use Rattle.chain_defs.specs.Specification.{keeps_s2}
use Rattle.chain_defs.specs.Kept.{IsKept, block_at, parent_place}
use Rattle.chain_defs.specs.Branch.{places_within, branch_places, branch}
use Rattle.chain_defs.specs.Median.{put_in_order, sorted, median_of, last_timestamps, median_time}
use Rattle.chain_defs.proofs.BranchLaws.{places_on, IsBranch-branch}
use Rattle.pool_defs.specs.Start.{next_timestamp}

-- ---- The median time

put-below : (m n : ℕ) (ns : List ℕ) → n < m → All (λ k. k < m) ns → All (λ k. k < m) (put_in_order n ns)
put-below m n [] few all = All-cons (λ k. k < m) n [] few all
put-below m n (first ∷ later) few all = by_test (nat_lt first n) (put-below m n later few (All-tail (λ k. k < m) first later all))
  where
    by_test : (less : Bool) → All (λ k. k < m) (put_in_order n later) → All (λ k. k < m) (cond less (first ∷ put_in_order n later) (n ∷ first ∷ later))
    by_test true rest = All-cons (λ k. k < m) first (put_in_order n later) (All-head (λ k. k < m) first later all) rest
    by_test false rest = All-cons (λ k. k < m) n (first ∷ later) few all

sorted-below : (m : ℕ) (ns : List ℕ) → All (λ k. k < m) ns → All (λ k. k < m) (sorted ns)
unfolding sorted
sorted-below m [] all = all
sorted-below m (n ∷ later) all = put-below m n (sorted later) (All-head (λ k. k < m) n later all) (sorted-below m later (All-tail (λ k. k < m) n later all))

index-below : (m : ℕ) (ns : List ℕ) (i : ℕ) → 0 < m → All (λ k. k < m) ns → get_or ns i 0 < m
index-below m [] i some all = some
index-below m (n ∷ later) zero some all = All-head (λ k. k < m) n later all
index-below m (n ∷ later) (suc i) some all = index-below m later i some (All-tail (λ k. k < m) n later all)

all-at : (P : Block → Type 0) (blocks : List Block) → ((i : ℕ) (b : Block) → slice_get blocks i ≡ Some b → P b) → All P blocks
all-at P [] each = All-nil P
all-at P (first ∷ later) each = All-cons P first later (each zero first refl) (all-at P later (λ i b there. each (suc i) b there))

pub median-below : (on : List Block) (m : ℕ) → 0 < m → ((height : ℕ) (b : Block) → block_at on height ≡ Some b → b.header.timestamp < m) → median_time on < m
unfolding median_time median_of last_timestamps
median-below on m some each =
    let last : List Block = drop (length on - 37) on in
    let stamps = All-map (λ k. k < m) (λ (b : Block). b.header.timestamp) last (All-drop (λ (b : Block). b.header.timestamp < m) (length on - 37) on (all-at (λ (b : Block). b.header.timestamp < m) on each)) in
    index-below m (sorted (map (λ (b : Block). b.header.timestamp) last)) (length (map (λ (b : Block). b.header.timestamp) last) / 2) some
    (sorted-below m (map (λ (b : Block). b.header.timestamp) last) stamps)

pub timestamp-fits : (median : ℕ) → median < 2 ^ 64 → next_timestamp median < 2 ^ 64
timestamp-fits median few = by_test (nat_lt (median + 1) (2 ^ 64)) refl
  where
    by_test : (more : Bool) → nat_lt (median + 1) (2 ^ 64) ≡ more → cond more (median + 1) median < 2 ^ 64
    by_test true is = ltb-true (median + 1) (2 ^ 64) is
    by_test false is = few

-- ---- The height

places-few : (most : ℕ) (kept : List Block) (place : ℕ) → length (places_within most kept place) ≤ most
places-few zero kept place = omega arith
places-few (suc most) kept place = by_parent (parent_place kept place) (places-few most kept)
  where
    by_parent : (found : Option ℕ) → ((parent : ℕ) → length (places_within most kept parent) ≤ most) → length (places_on most kept place found) ≤ suc most
    by_parent None rest = omega arith
    by_parent (Some parent) rest = let before = rest parent in let both = length-append (places_within most kept parent) (place ∷ []) in omega (arith, before, both)

found-few : (kept : List Block) (places : List ℕ) → length (filter_map (block_at kept) places) ≤ length places
found-few kept [] = omega arith
found-few kept (place ∷ later) = by_found (block_at kept place) (found-few kept later)
  where
    by_found : (found : Option Block) → length (filter_map (block_at kept) later) ≤ length later
        → length (cons_option found (filter_map (block_at kept) later)) ≤ suc (length later)
    by_found None rest = omega (arith, rest)
    by_found (Some b) rest = omega (arith, rest)

pub branch-few : (kept : List Block) (place : ℕ) → length (branch kept place) ≤ suc place
unfolding branch_places
branch-few kept place = let one = found-few kept (places_within (suc place) kept place) in let two = places-few (suc place) kept place in omega (arith, one, two)

pub on-branch : (kept : List Block) (place : ℕ) (P : Block → Type 0) → IsKept kept → place < length kept → ((other : ℕ) (b : Block) → block_at kept other ≡ Some b → P b)
    → (height : ℕ) (b : Block) → block_at (branch kept place) height ≡ Some b → P b
on-branch kept place P is_kept within each height b there =
    let among = (IsBranch-branch kept place is_kept within).among height b there in each among.0 b among.1

-- ---- The epoch field

pub epoch-fits : (size height : ℕ) → IsTrue (keeps_s2 size) → height < 2 ^ 24 → epoch_field size height < 2 ^ 64
epoch-fits size height keeps few =
    let parts = and_parts (nat_le 1 size) (nat_lt size (2 ^ 16)) keeps in
    let some = leb-true 1 size parts.0 in
    let short = ltb-true size (2 ^ 16) parts.1 in
    let number = div-le_self height size in
    let index : height % size < size = mod-lt height (omega (arith, some)) in
    omega (arith, few, short, number, index)
