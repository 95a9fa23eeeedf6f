-- Numbers that stand in a list of bytes, the lowest byte first.
use Rattle.std.proofs.Common.{◌≡◌, ℕ, zero, suc, ◌+◌, ◌-◌, ◌*◌, ◌≤◌, List, [], length, take, replicate, get_or, slice_range, refl, arith, inl, inr}
use Rattle.std.proofs.lemmas.List.{drop_more, get_or_past}
use Rattle.std.proofs.Math.ListN.{drop_of_length-le}
use Rattle.std.proofs.lemmas.Bool.{cases_lt}
use Rattle.machine_defs.specs.Memory.{number_of}

pub number_of-zeros : (n : ℕ) → number_of (replicate n 0) ≡ 0
number_of-zeros zero = refl
number_of-zeros (suc n) = rw (number_of-zeros n) refl

pub take-nil : (n : ℕ) → take {A = ℕ} n [] ≡ []
take-nil zero = refl
take-nil (suc n) = refl

-- the lowest byte, and the number above it
pub number-step : (xs : List ℕ) (at next end : ℕ) → next ≡ at + 1 → next ≤ end
    → number_of (slice_range xs at end) ≡ get_or xs at 0 + 256 * number_of (slice_range xs next end)
number-step xs at next end is h =
    let more : end - at ≡ suc (end - next) = omega (arith, is, h) in
    elim (cases_lt at (length xs)) [
      | inl below ↦ rw (more, drop_more xs at 0 below, ← is) refl
      | inr past ↦ rw (more, drop_of_length-le xs {i = at} past, drop_of_length-le xs {i = next} (omega (arith, is, past)), get_or_past xs at 0 past, take-nil (end - next)) refl
    ]

pub number-none : (xs : List ℕ) (at : ℕ) → number_of (slice_range xs at at) ≡ 0
number-none xs at =
    let none : at - at ≡ 0 = omega arith in
    rw none refl

-- the numbers that the loads read
pub number-1 : (xs : List ℕ) (at : ℕ) → get_or xs at 0 ≡ number_of (slice_range xs at (at + 1))
number-1 xs at =
    let a = number-step xs at (at + 1) (at + 1) refl (omega arith) in
    let none = number-none xs (at + 1) in
    omega (arith, a, none)

pub number-2 : (xs : List ℕ) (at : ℕ)
    → get_or xs at 0 + get_or xs (at + 1) 0 * 256 ≡ number_of (slice_range xs at (at + 2))
number-2 xs at =
    let a = number-step xs at (at + 1) (at + 2) refl (omega arith) in
    let b = number-step xs (at + 1) (at + 2) (at + 2) (omega arith) (omega arith) in
    let none = number-none xs (at + 2) in
    omega (arith, a, b, none)

pub number-4 : (xs : List ℕ) (at : ℕ)
    → get_or xs at 0 + get_or xs (at + 1) 0 * 256 + get_or xs (at + 2) 0 * 65536 + get_or xs (at + 3) 0 * 16777216
    ≡ number_of (slice_range xs at (at + 4))
number-4 xs at =
    let a = number-step xs at (at + 1) (at + 4) refl (omega arith) in
    let b = number-step xs (at + 1) (at + 2) (at + 4) (omega arith) (omega arith) in
    let c = number-step xs (at + 2) (at + 3) (at + 4) (omega arith) (omega arith) in
    let d = number-step xs (at + 3) (at + 4) (at + 4) (omega arith) (omega arith) in
    let none = number-none xs (at + 4) in
    omega (arith, a, b, c, d, none)

pub number-8 : (xs : List ℕ) (at : ℕ)
    → get_or xs at 0 + get_or xs (at + 1) 0 * 256 + get_or xs (at + 2) 0 * 65536 + get_or xs (at + 3) 0 * 16777216
    + get_or xs (at + 4) 0 * 4294967296 + get_or xs (at + 5) 0 * 1099511627776 + get_or xs (at + 6) 0 * 281474976710656
    + get_or xs (at + 7) 0 * 72057594037927936
    ≡ number_of (slice_range xs at (at + 8))
number-8 xs at =
    let a = number-step xs at (at + 1) (at + 8) refl (omega arith) in
    let b = number-step xs (at + 1) (at + 2) (at + 8) (omega arith) (omega arith) in
    let c = number-step xs (at + 2) (at + 3) (at + 8) (omega arith) (omega arith) in
    let d = number-step xs (at + 3) (at + 4) (at + 8) (omega arith) (omega arith) in
    let e = number-step xs (at + 4) (at + 5) (at + 8) (omega arith) (omega arith) in
    let f = number-step xs (at + 5) (at + 6) (at + 8) (omega arith) (omega arith) in
    let g = number-step xs (at + 6) (at + 7) (at + 8) (omega arith) (omega arith) in
    let i = number-step xs (at + 7) (at + 8) (at + 8) (omega arith) (omega arith) in
    let none = number-none xs (at + 8) in
    omega (arith, a, b, c, d, e, f, g, i, none)

-- a number is its low half and its high half
pub halves-2 : (xs : List ℕ) (at : ℕ)
    → number_of (slice_range xs at (at + 2)) ≡ number_of (slice_range xs at (at + 1)) + number_of (slice_range xs (at + 1) (at + 2)) * 256
halves-2 xs at =
    let a = number-step xs at (at + 1) (at + 2) refl (omega arith) in
    let low = number-1 xs at in
    omega (arith, a, low)

pub halves-4 : (xs : List ℕ) (at : ℕ)
    → number_of (slice_range xs at (at + 4)) ≡ number_of (slice_range xs at (at + 2)) + number_of (slice_range xs (at + 2) (at + 4)) * 65536
halves-4 xs at =
    let a = number-step xs at (at + 1) (at + 4) refl (omega arith) in
    let b = number-step xs (at + 1) (at + 2) (at + 4) (omega arith) (omega arith) in
    let low = number-2 xs at in
    omega (arith, a, b, low)

pub halves-8 : (xs : List ℕ) (at : ℕ)
    → number_of (slice_range xs at (at + 8)) ≡ number_of (slice_range xs at (at + 4)) + number_of (slice_range xs (at + 4) (at + 8)) * 4294967296
halves-8 xs at =
    let a = number-step xs at (at + 1) (at + 8) refl (omega arith) in
    let b = number-step xs (at + 1) (at + 2) (at + 8) (omega arith) (omega arith) in
    let c = number-step xs (at + 2) (at + 3) (at + 8) (omega arith) (omega arith) in
    let d = number-step xs (at + 3) (at + 4) (at + 8) (omega arith) (omega arith) in
    let low = number-4 xs at in
    omega (arith, a, b, c, d, low)
