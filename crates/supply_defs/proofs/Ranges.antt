-- Sums over ranges of heights.
use Rattle.std.proofs.Common.{◌≡◌, ℕ, zero, suc, ◌+◌, ◌<◌, ◌≤◌, Bool, false, cond, List, [], ◌∷◌, inl, inr, ◌⊎◌, refl, sym, ap, ◌∙◌, arith}
use Rattle.std.specs.Prelude.{◌==◌}
use Rattle.std.specs.List.{sum_by, filter, range_with_len}
use Rattle.std.proofs.lemmas.Bool.{cases_eq, ne_eqb}
use Rattle.std.proofs.lemmas.Bool.Decides.{Decides-eqb}
use Rattle.std.proofs.lemmas.List.Sums.{sum_by-cons}

-- the last of a range
pub range-last : (f : ℕ → ℕ) (low count : ℕ) → sum_by f (range_with_len low (count + 1)) ≡ sum_by f (range_with_len low count) + f (low + count)
range-last f low zero =
    let at : low ≡ low + 0 = omega arith in
    let whole = sum_by-cons f low [] in
    let same : f low ≡ f (low + 0) = ap f at in omega (arith, whole, same)
range-last f low (suc count) =
    let rest = range-last f (low + 1) count in
    let at : (low + 1) + count ≡ low + suc count = omega arith in
    let same : f ((low + 1) + count) ≡ f (low + suc count) = ap f at in
    let long = sum_by-cons f low (range_with_len (low + 1) (count + 1)) in
    let short = sum_by-cons f low (range_with_len (low + 1) count) in
    let next : suc count + 1 ≡ suc (count + 1) = omega arith in
    let whole : sum_by f (range_with_len low (suc count + 1)) ≡ sum_by f (range_with_len low (suc (count + 1))) =
    ap (λ (n : ℕ). sum_by f (range_with_len low n)) next in
    omega (arith, rest, same, long, short, whole)

-- two functions that are the same everywhere
pub sum-same : {X : Type 0} (f g : X → ℕ) (xs : List X) → ((x : X) → f x ≡ g x) → sum_by f xs ≡ sum_by g xs
sum-same f g [] same = refl
sum-same f g (x ∷ xs) same =
    let rest = sum-same f g xs same in
    let here = same x in
    omega (arith, rest, here, sum_by-cons f x xs, sum_by-cons g x xs)

-- two functions added
pub sum-both : {X : Type 0} (f g : X → ℕ) (xs : List X) → sum_by (λ (x : X). f x + g x) xs ≡ sum_by f xs + sum_by g xs
sum-both f g [] = refl
sum-both {X} f g (x ∷ xs) =
    let rest = sum-both f g xs in
    omega (arith, rest, sum_by-cons (λ (y : X). f y + g y) x xs, sum_by-cons f x xs, sum_by-cons g x xs)

pub sum-none : {X : Type 0} (xs : List X) → sum_by (λ (x : X). 0) xs ≡ 0
sum-none [] = refl
sum-none {X} (x ∷ xs) = let rest = sum-none xs in omega (arith, rest, sum_by-cons (λ (y : X). 0) x xs)

-- what passes no test
pub filter-none : {X : Type 0} (test : X → Bool) (xs : List X) → ((x : X) → test x ≡ false) → filter test xs ≡ []
filter-none test [] fails = refl
filter-none test (x ∷ xs) fails = ap (λ (b : Bool). cond b (x ∷ filter test xs) (filter test xs)) (fails x) ∙ filter-none test xs fails

-- ---- One place of a range

-- n at this place, and nothing elsewhere
abbrev pub if_at : ℕ → ℕ → ℕ → ℕ
if_at place n other = cond (place == other) n 0

pub at-itself : (place n : ℕ) → if_at place n place ≡ n
at-itself place n = ap (λ (b : Bool). cond b n 0) ((Decides-eqb place place).1 refl)

pub at-another : (place n other : ℕ) → (place ≡ other → ⊥) → if_at place n other ≡ 0
at-another place n other differ = ap (λ (b : Bool). cond b n 0) (ne_eqb place other differ)

pub range-beside : (place n low count : ℕ) → (low ≤ place → low + count ≤ place) → sum_by (if_at place n) (range_with_len low count) ≡ 0
range-beside place n low zero beside = refl
range-beside place n low (suc count) beside =
    let rest = range-beside place n (low + 1) count (λ least. omega (arith, beside, least)) in
    let here = at-another place n low (λ same. omega (arith, beside, same)) in
    omega (arith, rest, here, sum_by-cons (if_at place n) low (range_with_len (low + 1) count))

pub range-within : (place n low count : ℕ) → low ≤ place → place < low + count → sum_by (if_at place n) (range_with_len low count) ≡ n
range-within place n low zero least below = absurd (omega (arith, least, below))
range-within place n low (suc count) least below = by_place (cases_eq place low) (range-within place n (low + 1) count)
  where
    whole : sum_by (if_at place n) (range_with_len low (suc count)) ≡ if_at place n low + sum_by (if_at place n) (range_with_len (low + 1) count)
    whole = sum_by-cons (if_at place n) low (range_with_len (low + 1) count)

    by_place : (place ≡ low) ⊎ (place ≡ low → ⊥) → (low + 1 ≤ place → place < (low + 1) + count → sum_by (if_at place n) (range_with_len (low + 1) count) ≡ n)
        → sum_by (if_at place n) (range_with_len low (suc count)) ≡ n
    by_place (inl same) onward =
        let here : if_at place n low ≡ n = ap (if_at place n) (sym same) ∙ at-itself place n in
        let rest = range-beside place n (low + 1) count (λ later. omega (arith, same, later)) in
        omega (arith, whole, here, rest)
    by_place (inr differ) onward =
        let here = at-another place n low differ in
        let rest = onward (omega (arith, least, differ)) (omega (arith, below)) in
        omega (arith, whole, here, rest)
