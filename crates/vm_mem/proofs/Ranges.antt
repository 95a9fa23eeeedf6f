-- Ranges of a list that is written over, or has more after it.
use Rattle.std.proofs.Common.{◌≡◌, ℕ, ◌+◌, ◌-◌, ◌<◌, ◌≤◌, ◌⊎◌, List, ◌++◌, length, drop, replicate, get_or, slice_range, sym, ◌∙◌, ap, arith, inl, inr}
use Rattle.std.proofs.lemmas.Bool.{cases_lt}
use Rattle.std.proofs.lemmas.List.{get_or-drop, get_or-append-add, get_or-take, get_or_append_left, length-append, length-drop, length-replicate, length-take-le, same_lists}
use Rattle.machine_defs.specs.Memory.{overwritten}
use Rattle.machine_defs.proofs.CodeLaws.{get_or-before, get_or-after, get_or-written, length-overwritten}

pub length-range : {X : Type 0} (xs : List X) (start count : ℕ) → start + count ≤ length xs → length (slice_range xs start (start + count)) ≡ count
length-range xs start count h =
    let size : start + count - start ≡ count = omega arith in
    let rest : length (drop start xs) ≡ length xs - start = length-drop start xs in
    rw size (length-take-le count (drop start xs) (omega (arith, rest, h)))

-- an item of a range
pub get_or-range : {X : Type 0} (xs : List X) (start count i : ℕ) (d : X) → i < count → get_or (slice_range xs start (start + count)) i d ≡ get_or xs (start + i) d
get_or-range xs start count i d below = get_or-take (start + count - start) (drop start xs) i d (omega (arith, below)) ∙ get_or-drop start xs i d

-- lists with the same items in a range
same-range : {X : Type 0} (xs ys : List X) (start count : ℕ) → start + count ≤ length xs → start + count ≤ length ys
    → ((i : ℕ) (d : X) → start ≤ i → i < start + count → get_or xs i d ≡ get_or ys i d)
    → slice_range xs start (start + count) ≡ slice_range ys start (start + count)
same-range xs ys start count h h' same =
    let size = length-range xs start count h in
    same_lists (slice_range xs start (start + count)) (slice_range ys start (start + count)) (size ∙ sym (length-range ys start count h')) (λ i d below.
    let inner : i < count = omega (arith, below, size) in
    get_or-range xs start count i d inner ∙ same (start + i) d (omega arith) (omega (arith, inner)) ∙ sym (get_or-range ys start count i d inner))

pub range-range : {X : Type 0} (xs : List X) (start count o n : ℕ) → start + count ≤ length xs → o + n ≤ count
    → slice_range (slice_range xs start (start + count)) o (o + n) ≡ slice_range xs (start + o) (start + o + n)
range-range xs start count o n h le =
    let size = length-range xs start count h in
    let inside = length-range (slice_range xs start (start + count)) o n (omega (arith, size, le)) in
    same_lists (slice_range (slice_range xs start (start + count)) o (o + n)) (slice_range xs (start + o) (start + o + n))
    (inside ∙ sym (length-range xs (start + o) n (omega (arith, h, le)))) (λ i d below.
    let inner : i < n = omega (arith, below, inside) in
    let place : start + (o + i) ≡ start + o + i = omega arith in
    get_or-range (slice_range xs start (start + count)) o n i d inner ∙ get_or-range xs start count (o + i) d (omega (arith, inner, le))
    ∙ ap (λ k. get_or xs k d) place ∙ sym (get_or-range xs (start + o) n i d inner))

-- more after the list
pub range-append : {X : Type 0} (xs ys : List X) (start count : ℕ) → start + count ≤ length xs
    → slice_range (xs ++ ys) start (start + count) ≡ slice_range xs start (start + count)
range-append xs ys start count h =
    same-range (xs ++ ys) xs start count (omega (arith, h, length-append xs ys)) h
    (λ i d low high. get_or_append_left xs ys d i (omega (arith, high, h)))

-- a range beside the one that is written over
pub range-beside : {X : Type 0} (xs : List X) (at : ℕ) (ys : List X) (start count : ℕ) → at + length ys ≤ length xs → start + count ≤ length xs
    → (start + count ≤ at) ⊎ (at + length ys ≤ start)
    → slice_range (overwritten xs at ys) start (start + count) ≡ slice_range xs start (start + count)
range-beside xs at ys start count room h apart =
    let size = length-overwritten xs at ys room in
    same-range (overwritten xs at ys) xs start count (omega (arith, size, h)) h (λ i d low high. elim apart [
      | inl before ↦ get_or-before xs at ys i d (omega (arith, room)) (omega (arith, high, before))
      | inr behind ↦ get_or-after xs at ys i d (omega (arith, room)) (omega (arith, low, behind))
    ])

-- one that it lies in
pub range-written : {X : Type 0} (xs : List X) (start count o : ℕ) (ys : List X) → start + count ≤ length xs → o + length ys ≤ count
    → slice_range (overwritten xs (start + o) ys) start (start + count) ≡ overwritten (slice_range xs start (start + count)) o ys
range-written xs start count o ys h le =
    let range = slice_range xs start (start + count) in
    let new = overwritten xs (start + o) ys in
    let room : start + o + length ys ≤ length xs = omega (arith, h, le) in
    let size = length-range xs start count h in
    let edge : o + length ys ≤ length range = omega (arith, size, le) in
    let whole = length-overwritten xs (start + o) ys room in
    let inside = length-range new start count (omega (arith, whole, h)) in
    same_lists (slice_range new start (start + count)) (overwritten range o ys) (inside ∙ sym (length-overwritten range o ys edge ∙ size)) (λ i d below.
    let inner : i < count = omega (arith, below, inside) in
    get_or-range new start count i d inner ∙ elim (cases_lt i o) [
      | inl before ↦ get_or-before xs (start + o) ys (start + i) d (omega (arith, room)) (omega (arith, before))
          ∙ sym (get_or-before range o ys i d (omega (arith, edge)) before ∙ get_or-range xs start count i d inner)
      | inr from ↦ elim (cases_lt i (o + length ys)) [
        | inl within ↦
            let place : start + i - (start + o) ≡ i - o = omega arith in
            get_or-written xs (start + o) ys (start + i) d (omega (arith, room)) (omega (arith, from)) (omega (arith, within))
            ∙ ap (λ k. get_or ys k d) place ∙ sym (get_or-written range o ys i d (omega (arith, edge)) from within)
        | inr past ↦ get_or-after xs (start + o) ys (start + i) d (omega (arith, room)) (omega (arith, past))
            ∙ sym (get_or-after range o ys i d (omega (arith, edge)) past ∙ get_or-range xs start count i d inner)
      ]
    ])

-- what stands after the list
pub range-behind : (xs : List ℕ) (count : ℕ) → slice_range (xs ++ replicate count 0) (length xs) (length xs + count) ≡ replicate count 0
range-behind xs count =
    let zeros = replicate {A = ℕ} count 0 in
    let size : length (xs ++ zeros) ≡ length xs + count = length-append xs zeros ∙ ap (λ n. length xs + n) (length-replicate {A = ℕ} count 0) in
    let inside = length-range (xs ++ zeros) (length xs) count (omega (arith, size)) in
    same_lists (slice_range (xs ++ zeros) (length xs) (length xs + count)) zeros (inside ∙ sym (length-replicate {A = ℕ} count 0)) (λ i d below.
    get_or-range (xs ++ zeros) (length xs) count i d (omega (arith, below, inside)) ∙ get_or-append-add xs zeros i d)
