-- Values that are looked at from the last one on, each beside those after it.
use Rattle.std.proofs.Common.{◌≡◌, ℕ, zero, suc, ◌+◌, Bool, true, false, cond, List, [], ◌∷◌, drop, Some, refl, sym, ap, ◌∙◌}
use Rattle.std.specs.Prelude.{◌&&◌, ◌||◌, not, slice_get}
use Rattle.std.specs.List.{list_any}
use Rattle.std.specs.Str.{bytes_eq}
use Rattle.std.proofs.lemmas.Bool.{and_right}
use Rattle.std.proofs.lemmas.List.{drop_more}
use Rattle.std.proofs.lemmas.Option.{slice_get_within, get_or_from_slice_get}
use Rattle.chain_defs.specs.Hashes.{are_distinct}

pub drop_at_get : {X : Type 0} (xs : List X) (i : ℕ) (x : X) → slice_get xs i ≡ Some x → drop i xs ≡ x ∷ drop (i + 1) xs
drop_at_get xs i x there = drop_more xs i x (slice_get_within xs i x there) ∙ ap (λ y. y ∷ drop (i + 1) xs) (get_or_from_slice_get xs i x x there)

-- whether one of the values is this one
abbrev pub has : List (List ℕ) → List ℕ → Bool
has values value = list_any (λ other. bytes_eq other value) values

-- one value more, at the start
pub has_more : (values : List (List ℕ)) (j i : ℕ) (value q : List ℕ) (before : Bool) → j + 1 ≡ i → slice_get values j ≡ Some value → before ≡ has (drop i values) q
    → cond (bytes_eq value q) true before ≡ has (drop j values) q
has_more values j i value q before next there was =
    by_test (bytes_eq value q) ∙ ap (λ (n : ℕ). bytes_eq value q || has (drop n values) q) (sym next) ∙ ap (λ (l : List (List ℕ)). has l q) (sym (drop_at_get values j value there))
  where
    by_test : (b : Bool) → cond b true before ≡ (b || has (drop i values) q)
    by_test true = refl
    by_test false = was

pub distinct_more : (values : List (List ℕ)) (j i : ℕ) (value : List ℕ) → j + 1 ≡ i → slice_get values j ≡ Some value → has (drop i values) value ≡ false
    → are_distinct (drop i values) ≡ true → are_distinct (drop j values) ≡ true
distinct_more values j i value next there new later =
    ap are_distinct (drop_at_get values j value there)
    ∙ ap (λ (n : ℕ). not (has (drop n values) value) && are_distinct (drop n values)) next
    ∙ ap (λ (b : Bool). not b && are_distinct (drop i values)) new ∙ later

distinct_from : (values : List (List ℕ)) (j : ℕ) → are_distinct (drop j values) ≡ false → are_distinct values ≡ false
distinct_from values zero twice = twice
distinct_from [] (suc j) twice = twice
distinct_from (first ∷ values) (suc j) twice = and_right (not (has values first)) (are_distinct values) (distinct_from values j twice)

pub distinct_twice : (values : List (List ℕ)) (j i : ℕ) (value : List ℕ) → j + 1 ≡ i → slice_get values j ≡ Some value → has (drop i values) value ≡ true
    → are_distinct values ≡ false
distinct_twice values j i value next there old =
    distinct_from values j (
    ap are_distinct (drop_at_get values j value there)
    ∙ ap (λ (n : ℕ). not (has (drop n values) value) && are_distinct (drop n values)) next
    ∙ ap (λ (b : Bool). not b && are_distinct (drop i values)) old
    )
