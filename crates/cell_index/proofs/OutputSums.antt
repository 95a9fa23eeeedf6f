-- Sums over what is left of a list.
use Rattle.std.proofs.Common.{◌≡◌, ℕ, zero, suc, ◌+◌, ◌<◌, ◌≤◌, List, [], ◌∷◌, length, drop, get_or, Some, refl, ap, ◌∙◌, arith}
use Rattle.std.specs.Prelude.{slice_get}
use Rattle.std.specs.List.{sum_by}
use Rattle.std.proofs.lemmas.List.Sums.{sum_by-drop_more}
use Rattle.std.proofs.lemmas.Option.{slice_get_within, get_or_from_slice_get}

-- one less is left
pub next-sum : {X : Type 0} (f : X → ℕ) (xs : List X) (i : ℕ) (x : X) → slice_get xs i ≡ Some x → sum_by f (drop i xs) ≡ f x + sum_by f (drop (i + 1) xs)
next-sum {X} f xs i x there =
    sum_by-drop_more f xs i x (slice_get_within xs i x there) ∙ ap (λ (y : X). f y + sum_by f (drop (i + 1) xs)) (get_or_from_slice_get xs i x x there)

pub next-sum-at : {X : Type 0} (f : X → ℕ) (xs : List X) (i : ℕ) (x : X) → i < length xs → get_or xs i x ≡ x → sum_by f (drop i xs) ≡ f x + sum_by f (drop (i + 1) xs)
next-sum-at {X} f xs i x within is = sum_by-drop_more f xs i x within ∙ ap (λ (y : X). f y + sum_by f (drop (i + 1) xs)) is

-- nothing is left
pub over-sum : {X : Type 0} (f : X → ℕ) (xs : List X) (i : ℕ) → length xs ≤ i → sum_by f (drop i xs) ≡ 0
over-sum f [] zero past = refl
over-sum f [] (suc i) past = refl
over-sum f (x ∷ xs) zero past = absurd (omega (arith, past))
over-sum f (x ∷ xs) (suc i) past = over-sum f xs i (omega (arith, past))
