-- Ranges of a list: what stands in one that was overwritten, and whether one of its items passes a test.
use Rattle.std.proofs.Common.{◌≡◌, ℕ, ◌+◌, ◌-◌, ◌<◌, ◌≤◌, Bool, true, false, List, [], ◌∷◌, length, drop, replicate, get_or, slice_range, refl, sym, ◌∙◌, ap, arith, inl, inr}
use Rattle.std.specs.List.{list_any}
use Rattle.std.proofs.lemmas.Bool.{or_cases, or_left, or_right}
use Rattle.std.proofs.lemmas.List.{get_or-drop, get_or-replicate, get_or-take, get_or_default, length-drop, length-replicate, length-take}
use Rattle.std.proofs.lemmas.List.Folds.{Any-from_list_any, list_any_at}
use Rattle.machine_defs.specs.Memory.{overwritten}
use Rattle.machine_defs.proofs.CodeLaws.{get_or-after, get_or-written}

-- ---- an overwritten range

-- many times one item
pub filled-within : {X : Type 0} (xs : List X) (at count : ℕ) (x : X) (i : ℕ) (d : X) → at ≤ length xs → at ≤ i → i < at + count
    → get_or (overwritten xs at (replicate count x)) i d ≡ x
filled-within xs at count x i d h from within =
    let size = length-replicate count x in
    get_or-written xs at (replicate count x) i d h from (omega (arith, size, within))
    ∙ get_or-replicate count (i - at) x d (omega (arith, from, within))

pub filled-behind : {X : Type 0} (xs : List X) (at count : ℕ) (x : X) (i : ℕ) (d : X) → at ≤ length xs → at + count ≤ i
    → get_or (overwritten xs at (replicate count x)) i d ≡ get_or xs i d
filled-behind xs at count x i d h behind =
    let size = length-replicate count x in
    get_or-after xs at (replicate count x) i d h (omega (arith, size, behind))

-- ---- a test of the items of a range

-- where an item of a range passes
pub record Passes {X : Type 0} (p : X → Bool) (xs : List X) (from to : ℕ) (d : X) : Type 0 where
  pub at : ℕ
  pub low : from ≤ at
  pub high : at < to
  pub inside : at < length xs
  pub passes : p (get_or xs at d) ≡ true

pub passes-of_any : {X : Type 0} (p : X → Bool) (xs : List X) (from to : ℕ) (d : X) → list_any p (slice_range xs from to) ≡ true → Passes p xs from to d
passes-of_any p xs from to d any =
    let found = Any-from_list_any p (slice_range xs from to) any in
    let k = found.0 in
    let x = found.1 in
    let size = length-take (to - from) (drop from xs) in
    let size' = length-drop from xs in
    let below : k < to - from = omega (arith, found.2, size) in
    let inside : from + k < length xs = omega (arith, found.2, size, size') in
    let item : get_or xs (from + k) x ≡ x = sym (get_or-drop from xs k x) ∙ sym (get_or-take (to - from) (drop from xs) k x below) ∙ found.3 in
    record {
      at = from + k;
      low = omega arith;
      high = omega (arith, below);
      inside = inside;
      passes = ap p (get_or_default xs (from + k) d x inside ∙ item) ∙ found.4;
    }

pub any-of_passes : {X : Type 0} (p : X → Bool) (xs : List X) (from to : ℕ) (d : X) (i : ℕ) → from ≤ i → i < to → i < length xs
    → p (get_or xs i d) ≡ true → list_any p (slice_range xs from to) ≡ true
any-of_passes p xs from to d i low high inside passes =
    let size = length-take (to - from) (drop from xs) in
    let size' = length-drop from xs in
    let place : from + (i - from) ≡ i = omega (arith, low) in
    let item : get_or (slice_range xs from to) (i - from) d ≡ get_or xs i d =
    get_or-take (to - from) (drop from xs) (i - from) d (omega (arith, low, high)) ∙ get_or-drop from xs (i - from) d ∙ ap (λ k. get_or xs k d) place in
    list_any_at p (slice_range xs from to) (i - from) d (omega (arith, size, size', low, high, inside)) (ap p item ∙ passes)

-- a test that another one implies
pub any-weaker : {X : Type 0} (p q : X → Bool) (xs : List X) → ((x : X) → p x ≡ true → q x ≡ true) → list_any p xs ≡ true → list_any q xs ≡ true
any-weaker p q [] imply any = any
any-weaker p q (x ∷ xs) imply any = elim (or_cases (p x) (list_any p xs) any) [
  | inl here ↦ or_left (q x) (list_any q xs) (imply x here)
  | inr later ↦ or_right (q x) (list_any q xs) (any-weaker p q xs imply later)
]

pub same-tests : (a b : Bool) → (a ≡ true → b ≡ true) → (b ≡ true → a ≡ true) → a ≡ b
same-tests true b f g = sym (f refl)
same-tests false true f g = g refl
same-tests false false f g = refl
