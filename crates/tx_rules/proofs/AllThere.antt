-- Values that are all there, gone through from the first one on.
use Rattle.std.proofs.Common.{◌≡◌, ℕ, zero, suc, ◌+◌, ◌≤◌, List, [], ◌∷◌, ◌++◌, length, map, take, Option, Some, None, refl, sym, ap, ◌∙◌, subst, append_assoc}
use Rattle.std.specs.Prelude.{slice_get}
use Rattle.std.specs.Option.{option_map, option_and_then}
use Rattle.std.specs.List.{All}
use Rattle.std.proofs.lemmas.List.Elements.{All-nil, All-cons}
use Rattle.std.proofs.lemmas.List.{take_more, take_all, map-append}
use Rattle.std.proofs.lemmas.Option.{slice_get_within, get_or_from_slice_get, same_Some}
use Rattle.rule_defs.specs.Site.{all_there}

pub take-push : {X : Type 0} (xs : List X) (i : ℕ) (x : X) → slice_get xs i ≡ Some x → take (i + 1) xs ≡ take i xs ++ x ∷ []
take-push xs i x there =
    take_more xs i x (slice_get_within xs i x there) ∙ ap (λ y. take i xs ++ y ∷ []) (get_or_from_slice_get xs i x x there)

pub all_there-push : {X : Type 0} (found : List (Option X)) (xs : List X) (x : X) → all_there found ≡ Some xs → all_there (found ++ Some x ∷ []) ≡ Some (xs ++ x ∷ [])
unfolding all_there
all_there-push {X = X} [] xs x is = ap (λ (front : List X). Some (front ++ x ∷ [])) (same_Some [] xs is)
all_there-push (None ∷ later) xs x is = absurd (cc)
all_there-push {X = X} (Some first ∷ later) xs x is = by_rest (all_there later) refl is (λ ys. all_there-push later ys x)
  where
    by_rest : (rest : Option (List X)) → all_there later ≡ rest → option_map (λ ys. first ∷ ys) rest ≡ Some xs
        → ((ys : List X) → all_there later ≡ Some ys → all_there (later ++ Some x ∷ []) ≡ Some (ys ++ x ∷ []))
        → option_map (λ ys. first ∷ ys) (all_there (later ++ Some x ∷ [])) ≡ Some (xs ++ x ∷ [])
    by_rest None there same rest = absurd (cc)
    by_rest (Some ys) there same rest =
        ap (option_map (λ (zs : List X). first ∷ zs)) (rest ys there) ∙ ap (option_map (λ (zs : List X). zs ++ x ∷ [])) same

all_there-none : {X : Type 0} (found : List (Option X)) (i : ℕ) → slice_get found i ≡ Some None → all_there found ≡ None
unfolding all_there
all_there-none [] i there = absurd (cc)
all_there-none {X = X} (first ∷ later) zero there =
    ap (option_and_then (λ (x : X). option_map (λ xs. x ∷ xs) (all_there later))) (same_Some first None there)
all_there-none (None ∷ later) (suc i) there = refl
all_there-none {X = X} (Some first ∷ later) (suc i) there = ap (option_map (λ (xs : List X). first ∷ xs)) (all_there-none later i there)

pub slice_get-image : {X Y : Type 0} (f : X → Y) (xs : List X) (i : ℕ) (x : X) (y : Y) → slice_get xs i ≡ Some x → f x ≡ y → slice_get (map f xs) i ≡ Some y
slice_get-image f [] i x y there is = absurd (cc)
slice_get-image f (first ∷ xs) zero x y there is = ap (option_map f) there ∙ ap Some is
slice_get-image f (first ∷ xs) (suc i) x y there is = slice_get-image f xs i x y there is

-- one value more is there
pub there-more : {X Y : Type 0} (f : X → Option Y) (xs : List X) (i : ℕ) (x : X) (y : Y) (ys : List Y) → Some ys ≡ all_there (map f (take i xs)) → slice_get xs i ≡ Some x
    → f x ≡ Some y → Some (ys ++ y ∷ []) ≡ all_there (map f (take (i + 1) xs))
there-more {Y = Y} f xs i x y ys so_far there is =
    sym (all_there-push (map f (take i xs)) ys y (sym so_far))
    ∙ ap (λ (found : Option Y). all_there (map f (take i xs) ++ found ∷ [])) (sym is)
    ∙ ap all_there (sym (map-append f (take i xs) (x ∷ [])) ∙ ap (map f) (sym (take-push xs i x there)))

-- after others
pub there-more-behind : {X Y : Type 0} (f : X → Option Y) (xs : List X) (i : ℕ) (x : X) (y : Y) (old new : List Y)
    → Some new ≡ option_map (λ ys. old ++ ys) (all_there (map f (take i xs))) → slice_get xs i ≡ Some x → f x ≡ Some y
    → Some (new ++ y ∷ []) ≡ option_map (λ ys. old ++ ys) (all_there (map f (take (i + 1) xs)))
there-more-behind {Y = Y} f xs i x y old new so_far there is = by_front (all_there (map f (take i xs))) refl so_far
  where
    by_front : (front : Option (List Y)) → all_there (map f (take i xs)) ≡ front → Some new ≡ option_map (λ (ys : List Y). old ++ ys) front
        → Some (new ++ y ∷ []) ≡ option_map (λ (ys : List Y). old ++ ys) (all_there (map f (take (i + 1) xs)))
    by_front None are same = absurd (cc)
    by_front (Some ys) are same =
        ap (λ (zs : List Y). Some (zs ++ y ∷ [])) (same_Some new (old ++ ys) same) ∙ ap Some (append_assoc old ys (y ∷ []))
        ∙ ap (option_map (λ (zs : List Y). old ++ zs)) (there-more f xs i x y ys (sym are) there is)

-- one of the values is not there
pub there-none : {X Y : Type 0} (f : X → Option Y) (xs : List X) (i : ℕ) (x : X) → slice_get xs i ≡ Some x → f x ≡ None → all_there (map f xs) ≡ None
there-none f xs i x there is = all_there-none (map f xs) i (slice_get-image f xs i x None there is)

-- all are gone through
pub there-all : {X Y : Type 0} (f : X → Option Y) (xs : List X) (i : ℕ) (ys : List Y) → length xs ≤ i → Some ys ≡ all_there (map f (take i xs))
    → Some ys ≡ all_there (map f xs)
there-all {X = X} f xs i ys all so_far = so_far ∙ ap (λ (these : List X). all_there (map f these)) (take_all i xs all)

-- ---- What they are found by

-- all of several values, each of them by a function of another
pub all_there-map : {X V W : Type 0} (f : X → Option W) (g : X → Option V) (h : V → W) (xs : List X) → ((x : X) → f x ≡ option_map h (g x))
    → all_there (map f xs) ≡ option_map (map h) (all_there (map g xs))
unfolding all_there
all_there-map f g h [] each = refl
all_there-map {V = V} {W = W} f g h (x ∷ xs) each =
    ap (λ (found : Option W). option_and_then (λ (v : W). option_map (λ (vs : List W). v ∷ vs) (all_there (map f xs))) found) (each x)
    ∙ ap (λ (rest : Option (List W)). option_and_then (λ (v : W). option_map (λ (vs : List W). v ∷ vs) rest) (option_map h (g x))) (all_there-map f g h xs each)
    ∙ both (g x) (all_there (map g xs))
  where
    both : (first : Option V) (rest : Option (List V))
        → option_and_then (λ (v : W). option_map (λ (vs : List W). v ∷ vs) (option_map (map h) rest)) (option_map h first)
        ≡ option_map (map h) (option_and_then (λ (v : V). option_map (λ (vs : List V). v ∷ vs) rest) first)
    both None rest = refl
    both (Some v) None = refl
    both (Some v) (Some vs) = refl

-- as many as there are of what they are found by
pub all_there-long : {X V : Type 0} (f : X → Option V) (xs : List X) (vs : List V) → all_there (map f xs) ≡ Some vs → length vs ≡ length xs
unfolding all_there
all_there-long f [] vs there = ap length (sym (same_Some [] vs there))
all_there-long {V = V} f (x ∷ xs) vs there = by_first (f x) (all_there (map f xs)) (all_there-long f xs) there
  where
    by_first : (first : Option V) (rest : Option (List V)) → ((ws : List V) → rest ≡ Some ws → length ws ≡ length xs)
        → option_and_then (λ (v : V). option_map (λ (ws : List V). v ∷ ws) rest) first ≡ Some vs → length vs ≡ length (x ∷ xs)
    by_first None rest long is = absurd (cc)
    by_first (Some v) None long is = absurd (cc)
    by_first (Some v) (Some ws) long is = ap length (sym (same_Some (v ∷ ws) vs is)) ∙ ap suc (long ws refl)

-- what is so of each value that is there is so of them all
pub all_there-all : {X V : Type 0} (P : V → Type 0) (f : X → Option V) (xs : List X) (vs : List V) → ((x : X) (v : V) → f x ≡ Some v → P v)
    → all_there (map f xs) ≡ Some vs → All P vs
unfolding all_there
all_there-all {V = V} P f [] vs each there = subst (λ (ws : List V). All P ws) (same_Some [] vs there) (All-nil P)
all_there-all {V = V} P f (x ∷ xs) vs each there = by_first (f x) refl (all_there (map f xs)) (λ ws. all_there-all P f xs ws each) there
  where
    by_first : (first : Option V) → f x ≡ first → (rest : Option (List V)) → ((ws : List V) → rest ≡ Some ws → All P ws)
        → option_and_then (λ (v : V). option_map (λ (ws : List V). v ∷ ws) rest) first ≡ Some vs → All P vs
    by_first None here rest all is = absurd (cc)
    by_first (Some v) here None all is = absurd (cc)
    by_first (Some v) here (Some ws) all is = subst (λ (zs : List V). All P zs) (same_Some (v ∷ ws) vs is) (All-cons P v ws (each x v here) (all ws refl))

-- a list that is there for one that is read off each
pub all_there-back : {X V W : Type 0} (f : X → Option V) (g : X → W) (h : V → W) (xs : List X) (vs : List V) → ((x : X) (v : V) → f x ≡ Some v → h v ≡ g x)
    → all_there (map f xs) ≡ Some vs → map h vs ≡ map g xs
unfolding all_there
all_there-back f g h [] vs each there = ap (map h) (sym (same_Some [] vs there))
all_there-back {V = V} {W = W} f g h (x ∷ xs) vs each there = by_first (f x) refl (all_there (map f xs)) (λ ws. all_there-back f g h xs ws each) there
  where
    by_first : (first : Option V) → f x ≡ first → (rest : Option (List V)) → ((ws : List V) → rest ≡ Some ws → map h ws ≡ map g xs)
        → option_and_then (λ (v : V). option_map (λ (ws : List V). v ∷ ws) rest) first ≡ Some vs → map h vs ≡ g x ∷ map g xs
    by_first None here rest back is = absurd (cc)
    by_first (Some v) here None back is = absurd (cc)
    by_first (Some v) here (Some ws) back is =
        ap (map h) (sym (same_Some (v ∷ ws) vs is)) ∙ ap (λ (w : W). w ∷ map h ws) (each x v here) ∙ ap (λ (rest : List W). g x ∷ rest) (back ws refl)
