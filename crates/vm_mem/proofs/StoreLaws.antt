-- What a load gives after a store.
use Rattle.std.proofs.Common.{◌≡◌, inl, inr, ℕ, zero, suc, ◌+◌, ◌-◌, ◌*◌, ◌/◌, ◌%◌, ◌^◌, ◌<◌, ◌≤◌, false, List, length, get_or, slice_range, Ok, refl, sym, ap, ◌∙◌, subst, arith}
use Rattle.std.proofs.Math.Nat.{div-div-eq-div-mul, mod-add-div, pow-succ'}
use Rattle.std.proofs.lemmas.Bool.Decides.{nat_tests}
use Rattle.machine_defs.specs.Memory.{Memory, bytes_of, is_out_of_range, load, memory_size, number_of}
use Rattle.machine_defs.proofs.CodeLaws.{get_or-before, get_or-after, get_or-written, store-is}
use Rattle.machine_defs.proofs.Numbers.{number-none, number-step}
use Rattle.vm_mem.specs.Laws.{LoadsWhatWasStored, StoreLeavesTheRest}

-- ---- numbers by their bytes

mod-step : (n m : ℕ) → n % 256 + 256 * (n / 256 % m) ≡ n % (256 * m)
mod-step n m =
    let whole = mod-add-div n (256 * m) in
    let high = mod-add-div (n / 256) m in
    let parts : 256 * m * (n / (256 * m)) ≡ 256 * (m * (n / 256 / m)) = rw (div-div-eq-div-mul n 256 m) (grind arith) in
    omega (arith, whole, high, parts)

-- the number of as many bytes as it has
number-given : (xs : List ℕ) (at count n : ℕ) → ((i : ℕ) → i < count → get_or xs (at + i) 0 ≡ get_or (bytes_of count n) i 0)
    → number_of (slice_range xs at (at + count)) ≡ n % 256 ^ count
number-given xs at zero n same =
    let end : at + zero ≡ at = omega arith in
    rw end (number-none xs at ∙ omega arith)
number-given xs at (suc count) n same =
    let first : get_or xs at 0 ≡ n % 256 = ap (λ k. get_or xs k 0) (omega arith) ∙ same 0 (omega arith) in
    let end : at + 1 + count ≡ at + suc count = omega arith in
    let others : number_of (slice_range xs (at + 1) (at + suc count)) ≡ n / 256 % 256 ^ count =
    subst (λ e. number_of (slice_range xs (at + 1) e) ≡ n / 256 % 256 ^ count) end
    (number-given xs (at + 1) count (n / 256) (λ i below. ap (λ k. get_or xs k 0) (omega arith) ∙ same (suc i) (omega (arith, below)))) in
    let step = number-step xs at (at + 1) (at + suc count) refl (omega arith) in
    rw (pow-succ' 256 count) (omega (arith, step, first, others, mod-step n (256 ^ count)))

-- two lists with the same bytes
number-same : (xs ys : List ℕ) (at count : ℕ) → ((i : ℕ) → at ≤ i → i < at + count → get_or xs i 0 ≡ get_or ys i 0)
    → number_of (slice_range xs at (at + count)) ≡ number_of (slice_range ys at (at + count))
number-same xs ys at zero same =
    let end : at + zero ≡ at = omega arith in
    rw end (number-none xs at ∙ sym (number-none ys at))
number-same xs ys at (suc count) same =
    let end : at + 1 + count ≡ at + suc count = omega arith in
    let others : number_of (slice_range xs (at + 1) (at + suc count)) ≡ number_of (slice_range ys (at + 1) (at + suc count)) =
    subst (λ e. number_of (slice_range xs (at + 1) e) ≡ number_of (slice_range ys (at + 1) e)) end
    (number-same xs ys (at + 1) count (λ i low high. same i (omega (arith, low)) (omega (arith, high)))) in
    let step = number-step xs at (at + 1) (at + suc count) refl (omega arith) in
    let step' = number-step ys at (at + 1) (at + suc count) refl (omega arith) in
    let first = same at (omega arith) (omega arith) in
    omega (arith, step, step', first, others)

length-bytes : (count n : ℕ) → length (bytes_of count n) ≡ count
length-bytes zero n = refl
length-bytes (suc count) n = ap suc (length-bytes count (n / 256))

-- ---- the laws

in-range : (at count : ℕ) → is_out_of_range at count ≡ false → at + count ≤ memory_size
unfolding is_out_of_range
in-range at count inside = grind (arith, nat_tests)

load-inside : (memory : Memory) (at count number : ℕ) → is_out_of_range at count ≡ false
    → number_of (slice_range memory.bytes at (at + count)) ≡ number → load memory at count ≡ Ok number
unfolding load
load-inside memory at count number inside is = rw (inside, is) refl

pub loads-what-was-stored : LoadsWhatWasStored
loads-what-was-stored old new at count number whole stores =
    let bytes = bytes_of count number in
    let stored = store-is old new at bytes stores in
    let size = length-bytes count number in
    let inside : is_out_of_range at count ≡ false = subst (λ n. is_out_of_range at n ≡ false) size stored.inside in
    let room = in-range at count inside in
    load-inside new at count (number % 256 ^ count) inside
    (number-given new.bytes at count number (λ i below.
    let place : at + i - at ≡ i = omega arith in
    ap (λ (memory : Memory). get_or memory.bytes (at + i) 0) stored.stored
    ∙ get_or-written old.bytes at bytes (at + i) 0 (omega (arith, room, whole)) (omega arith) (omega (arith, below, size))
    ∙ ap (λ k. get_or bytes k 0) place))

load-same : (one other : Memory) (at count : ℕ)
    → number_of (slice_range one.bytes at (at + count)) ≡ number_of (slice_range other.bytes at (at + count)) → load one at count ≡ load other at count
unfolding load
load-same one other at count same = rw same refl

pub store-leaves-the-rest : StoreLeavesTheRest
store-leaves-the-rest old new at bytes place count whole stores apart =
    let stored = store-is old new at bytes stores in
    let room = in-range at (length bytes) stored.inside in
    load-same new old place count
    (number-same new.bytes old.bytes place count (λ i low high.
    ap (λ (memory : Memory). get_or memory.bytes i 0) stored.stored
    ∙ elim apart [
      | inl before ↦ get_or-before old.bytes at bytes i 0 (omega (arith, room, whole)) (omega (arith, high, before))
      | inr behind ↦ get_or-after old.bytes at bytes i 0 (omega (arith, room, whole)) (omega (arith, low, behind))
    ]))
