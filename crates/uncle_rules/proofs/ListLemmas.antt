-- A list that is gone through: one element more.
use Rattle.std.proofs.Common.{◌≡◌, ℕ, ◌+◌, ◌<◌, ◌≤◌, List, [], ◌∷◌, ◌++◌, length, map, take, get_or, Bool, false, Some, refl, sym, ap, ◌∙◌, arith, append_assoc, append-nil}
use Rattle.std.specs.Prelude.{slice_get, replicate}
use Rattle.std.specs.List.{concat, list_any}
use Rattle.std.proofs.lemmas.Bool.{or_from}
use Rattle.std.proofs.lemmas.List.Folds.{list_any_more}
use Rattle.std.proofs.lemmas.List.{take_more, take_all, map-append}
use Rattle.std.proofs.lemmas.Option.{slice_get_within, get_or_from_slice_get}
use Rattle.chain_defs.specs.CkbHash.{ckbhash}
use Rattle.chain_defs.specs.Hashes.{hash_of_all}

pub take-push : {X : Type 0} (xs : List X) (i : ℕ) (x : X) → slice_get xs i ≡ Some x → take (i + 1) xs ≡ take i xs ++ x ∷ []
take-push xs i x there =
    take_more xs i x (slice_get_within xs i x there) ∙ ap (λ y. take i xs ++ y ∷ []) (get_or_from_slice_get xs i x x there)

pub map-push : {X Y : Type 0} (f : X → Y) (xs : List X) (i : ℕ) (x : X) → slice_get xs i ≡ Some x
    → map f (take (i + 1) xs) ≡ map f (take i xs) ++ f x ∷ []
map-push f xs i x there = ap (map f) (take-push xs i x there) ∙ map-append f (take i xs) (x ∷ [])

concat-push : (xss : List (List ℕ)) (xs : List ℕ) → concat (xss ++ xs ∷ []) ≡ concat xss ++ xs
concat-push [] xs = append-nil xs
concat-push (first ∷ xss) xs = ap (λ (l : List ℕ). first ++ l) (concat-push xss xs) ∙ sym (append_assoc first (concat xss) xs)

pub concat-more : (xss : List (List ℕ)) (i : ℕ) (xs : List ℕ) → slice_get xss i ≡ Some xs → concat (take i xss) ++ xs ≡ concat (take (i + 1) xss)
concat-more xss i xs there = sym (ap concat (take-push xss i xs there) ∙ concat-push (take i xss) xs)

-- ---- The hash of all values

pub hash-none : (values : List (List ℕ)) → length values ≡ 0 → replicate 32 0 ≡ hash_of_all values
hash-none [] none = refl
hash-none (first ∷ values) none = absurd (omega (arith, none))

pub hash-some : (values : List (List ℕ)) (i : ℕ) → 0 < length values → length values ≤ i → ckbhash (concat (take i values)) ≡ hash_of_all values
hash-some values i some all = ap (λ (l : List (List ℕ)). ckbhash (concat l)) (take_all i values all) ∙ by_cases values some
  where
    by_cases : (l : List (List ℕ)) → 0 < length l → ckbhash (concat l) ≡ hash_of_all l
    by_cases [] there = absurd (omega (arith, there))
    by_cases (first ∷ later) there = refl

-- ---- A test

-- one more that fails it
pub any-next : {X : Type 0} (test : X → Bool) (xs : List X) (i : ℕ) (x : X) → list_any test (take i xs) ≡ false → slice_get xs i ≡ Some x → test x ≡ false
    → list_any test (take (i + 1) xs) ≡ false
any-next test xs i x before there fails =
    list_any_more test xs i x (slice_get_within xs i x there)
    ∙ or_from (list_any test (take i xs)) (test (get_or xs i x)) before (ap test (get_or_from_slice_get xs i x x there) ∙ fails)
