-- Ids that are put one after another.
use Rattle.std.proofs.Common.{◌≡◌, ℕ, ◌+◌, ◌≤◌, List, [], ◌∷◌, ◌++◌, length, take, Some, sym, ap, ◌∙◌, append_assoc}
use Rattle.std.specs.Prelude.{slice_get}
use Rattle.std.specs.List.{flat_map}
use Rattle.std.proofs.lemmas.List.{take_more, take_all, append-nil}
use Rattle.std.proofs.lemmas.List.Concat.{flat_map-append}
use Rattle.std.proofs.lemmas.Option.{slice_get_within, get_or_from_slice_get}

take-push : {X : Type 0} (xs : List X) (i : ℕ) (x : X) → slice_get xs i ≡ Some x → take (i + 1) xs ≡ take i xs ++ x ∷ []
take-push {X = X} xs i x there =
    take_more xs i x (slice_get_within xs i x there) ∙ ap (λ (y : X). take i xs ++ y ∷ []) (get_or_from_slice_get xs i x x there)

-- none so far
pub put-none : {X : Type 0} (old : List X) → old ≡ old ++ []
put-none old = sym (append-nil old)

-- one more
pub put-one : {X : Type 0} (xs old before : List X) (i : ℕ) (x : X) → slice_get xs i ≡ Some x → before ≡ old ++ take i xs
    → before ++ x ∷ [] ≡ old ++ take (i + 1) xs
put-one {X = X} xs old before i x there so_far =
    ap (λ (l : List X). l ++ x ∷ []) so_far ∙ append_assoc old (take i xs) (x ∷ []) ∙ ap (λ (l : List X). old ++ l) (sym (take-push xs i x there))

-- all
pub put-all : {X : Type 0} (xs old before : List X) (i : ℕ) → length xs ≤ i → before ≡ old ++ take i xs → before ≡ old ++ xs
put-all {X = X} xs old before i all so_far = so_far ∙ ap (λ (l : List X). old ++ l) (take_all i xs all)

-- those of one more
pub put-more : {X Y : Type 0} (f : X → List Y) (xs : List X) (old before after : List Y) (i : ℕ) (x : X) → slice_get xs i ≡ Some x
    → before ≡ old ++ flat_map f (take i xs) → after ≡ before ++ f x → after ≡ old ++ flat_map f (take (i + 1) xs)
put-more {Y = Y} f xs old before after i x there so_far adds =
    adds ∙ ap (λ (l : List Y). l ++ f x) so_far ∙ append_assoc old (flat_map f (take i xs)) (f x)
    ∙ ap (λ (l : List Y). old ++ (flat_map f (take i xs) ++ l)) (sym (append-nil (f x)))
    ∙ ap (λ (l : List Y). old ++ l) (sym (flat_map-append f (take i xs) (x ∷ [])))
    ∙ ap (λ l. old ++ flat_map f l) (sym (take-push xs i x there))

pub put-every : {X Y : Type 0} (f : X → List Y) (xs : List X) (old before : List Y) (i : ℕ) → length xs ≤ i → before ≡ old ++ flat_map f (take i xs)
    → before ≡ old ++ flat_map f xs
put-every f xs old before i all so_far = so_far ∙ ap (λ l. old ++ flat_map f l) (take_all i xs all)
