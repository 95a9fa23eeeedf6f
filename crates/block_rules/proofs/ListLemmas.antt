-- A list that is gone through: one element more.
use Rattle.std.proofs.Common.{◌≡◌, ℕ, ◌+◌, ◌-◌, ◌*◌, ◌<◌, ◌≤◌, List, [], ◌∷◌, ◌++◌, length, map, take, Some, refl, sym, ap, ◌∙◌, arith, append_assoc, append-nil}
use Rattle.std.specs.Prelude.{slice_get, sum_by, option_map, replicate}
use Rattle.std.specs.List.{concat}
use Rattle.std.proofs.lemmas.List.{take_more, take_all, map-append}
use Rattle.std.proofs.lemmas.List.Sums.{sum_by_push}
use Rattle.std.proofs.lemmas.Option.{slice_get_within, get_or_from_slice_get, slice_get-map}
use Rattle.chain_defs.specs.CkbHash.{ckbhash}
use Rattle.chain_defs.specs.Hashes.{hash_of_all}

pub take-push : {X : Type 0} (xs : List X) (i : ℕ) (x : X) → slice_get xs i ≡ Some x → take (i + 1) xs ≡ take i xs ++ x ∷ []
take-push xs i x there =
    take_more xs i x (slice_get_within xs i x there) ∙ ap (λ y. take i xs ++ y ∷ []) (get_or_from_slice_get xs i x x there)

pub map-push : {X Y : Type 0} (f : X → Y) (xs : List X) (i : ℕ) (x : X) (ys : List Y) (y : Y) → ys ≡ map f (take i xs) → slice_get xs i ≡ Some x → y ≡ f x
    → ys ++ y ∷ [] ≡ map f (take (i + 1) xs)
map-push f xs i x ys y so_far there is =
    ap (λ l. l ++ y ∷ []) so_far ∙ ap (λ z. map f (take i xs) ++ z ∷ []) is
    ∙ sym (map-append f (take i xs) (x ∷ [])) ∙ ap (map f) (sym (take-push xs i x there))

concat-push : (xss : List (List ℕ)) (xs : List ℕ) → concat (xss ++ xs ∷ []) ≡ concat xss ++ xs
concat-push [] xs = append-nil xs
concat-push (first ∷ xss) xs = ap (λ (l : List ℕ). first ++ l) (concat-push xss xs) ∙ sym (append_assoc first (concat xss) xs)

pub concat-more : (xss : List (List ℕ)) (i : ℕ) (xs : List ℕ) → slice_get xss i ≡ Some xs → concat (take i xss) ++ xs ≡ concat (take (i + 1) xss)
concat-more xss i xs there = sym (ap concat (take-push xss i xs there) ∙ concat-push (take i xss) xs)

-- the image of the element at a place
pub map-there : {X Y : Type 0} (f : X → Y) (xs : List X) (i : ℕ) (x : X) (y : Y) → slice_get xs i ≡ Some x → y ≡ f x → slice_get (map f xs) i ≡ Some y
map-there f xs i x y there is = slice_get-map f xs i ∙ ap (option_map f) there ∙ ap Some (sym is)

-- ten for one more is taken off
pub less-more : {X : Type 0} (f : X → ℕ) (all : ℕ) (xs : List X) (i : ℕ) (x : X) → slice_get xs i ≡ Some x
    → (all - 10 * sum_by f (take i xs)) - 10 * f x ≡ all - 10 * sum_by f (take (i + 1) xs)
less-more f all xs i x there =
    let more = ap (sum_by f) (take-push xs i x there) ∙ sum_by_push f (take i xs) x in
    omega (arith, more)

-- ---- The hash of all values

pub hash-none : (values : List (List ℕ)) → length values ≡ 0 → replicate 32 0 ≡ hash_of_all values
hash-none [] none = refl
hash-none (first ∷ values) none = absurd (omega (arith, none))

pub hash-some : (values : List (List ℕ)) (i : ℕ) → 0 < length values → length values ≤ i → ckbhash (concat (take i values)) ≡ hash_of_all values
hash-some values i some all = ap (λ (l : List (List ℕ)). ckbhash (concat l)) (take_all i values all) ∙ by_cases values some
  where
    by_cases : (l : List (List ℕ)) → 0 < length l → ckbhash (concat l) ≡ hash_of_all l
    by_cases [] there = absurd (omega (arith, there))
    by_cases (first ∷ later) there = refl
