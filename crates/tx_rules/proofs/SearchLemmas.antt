-- A number that is looked for in a rising list.
use Rattle.std.proofs.Common.{◌≡◌, ℕ, ◌<◌, ◌≤◌, ◌==◌, List, length, get_or, Result, Ok, Err, sym, inl, inr, ◌⊎◌, arith}
use Rattle.std.specs.List.{list_any}
use Rattle.std.specs.List.Sorted.{IsNonDecreasing, IsBinarySearchResult}
use Rattle.std.specs.Ordering.{nat_cmp}
use Rattle.std.specs.Result.{is_ok, MatchResult}
use Rattle.std.proofs.lemmas.Bool.{ne_eqb, eq-eqb, cases_lt}
use Rattle.std.proofs.lemmas.List.{get_or_default}
use Rattle.std.proofs.lemmas.List.Folds.{list_any_at, list_any_none}
use Rattle.std.proofs.lemmas.List.Sorted.{searched}

-- it is found just where it is listed
pub found-listed : (xs : List ℕ) (x : ℕ) (found : Result ℕ ℕ) → IsNonDecreasing xs → IsBinarySearchResult (λ y. nat_cmp y x) xs found
    → is_ok found ≡ list_any (λ y. y == x) xs
found-listed xs x found rises is = by_found found (searched xs x found is (λ i j. rises i j 0))
  where
    by_found : (r : Result ℕ ℕ)
        → MatchResult r (λ i. (i < length xs) × (get_or xs i 0 ≡ x)) (λ i. (i ≤ length xs) × ((k : ℕ) → k < i → get_or xs k 0 < x) × ((k : ℕ) → i ≤ k → k < length xs → x < get_or xs k 0))
        → is_ok r ≡ list_any (λ y. y == x) xs
    by_found (Ok i) there = sym (list_any_at (λ y. y == x) xs i 0 there.0 (eq-eqb (get_or xs i 0) x there.1))
    by_found (Err i) apart = sym (list_any_none (λ y. y == x) xs (λ k d within. ne_eqb (get_or xs k d) x
        (λ same. by_side k d within same (cases_lt k i))))
      where
        by_side : (k d : ℕ) → k < length xs → get_or xs k d ≡ x → (k < i) ⊎ (i ≤ k) → ⊥
        by_side k d within same (inl below) =
            let low = apart.1 k below in
            let at = get_or_default xs k d 0 within in
            omega (arith, low, at, same)
        by_side k d within same (inr above) =
            let high = apart.2 k above within in
            let at = get_or_default xs k d 0 within in
            omega (arith, high, at, same)
