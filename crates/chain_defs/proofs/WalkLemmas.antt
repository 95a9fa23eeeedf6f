-- Lists that are gone through: what is left from a place on, with one element less.
use Rattle.std.proofs.Common.{◌≡◌, ℕ, ◌+◌, ◌-◌, ◌<◌, ◌≤◌, Bool, true, false, ◌&&◌, ◌||◌, not, List, [], ◌∷◌, zero, suc, length, map, drop, Some, sym, ap, ◌∙◌, arith, add-one, drop-cons}
use Rattle.std.specs.Prelude.{slice_get}
use Rattle.std.specs.List.{list_all, list_any, enumerate_from, range_with_len, zip}
use Rattle.std.proofs.lemmas.Bool.{and_parts}
use Rattle.std.proofs.lemmas.List.{drop_all}
use Rattle.std.proofs.lemmas.Option.{same_Some, slice_get_within, get_or_from_slice_get}

pub drop-there : {X : Type 0} (xs : List X) (i : ℕ) (x : X) → slice_get xs i ≡ Some x → drop i xs ≡ x ∷ drop (i + 1) xs
drop-there xs i x there =
    let within : i < length xs = slice_get_within xs i x there in
    rw add-one (drop-cons xs i x within ∙ ap (λ y. y ∷ drop (suc i) xs) (get_or_from_slice_get xs i x x there))

-- with their places
pub enumerated-there : {X : Type 0} (xs : List X) (i : ℕ) (x : X) → slice_get xs i ≡ Some x
    → enumerate_from i (drop i xs) ≡ (i, x) ∷ enumerate_from (i + 1) (drop (i + 1) xs)
enumerated-there xs i x there = ap (enumerate_from i) (drop-there xs i x there)

-- ---- Whether all elements with their places pass

all-from : {X : Type 0} (p : ℕ × X → Bool) (xs : List X) (i : ℕ) (x : X) → slice_get xs i ≡ Some x
    → list_all p (enumerate_from i (drop i xs)) ≡ (p (i, x) && list_all p (enumerate_from (i + 1) (drop (i + 1) xs)))
all-from p xs i x there = ap (λ l. list_all p (enumerate_from i l)) (drop-there xs i x there)

pub all-fails : {X : Type 0} (p : ℕ × X → Bool) (xs : List X) (i : ℕ) (x : X) (whole : Bool) → whole ≡ list_all p (enumerate_from i (drop i xs))
    → slice_get xs i ≡ Some x → p (i, x) ≡ false → false ≡ whole
all-fails p xs i x whole is there fails =
    sym (is ∙ all-from p xs i x there ∙ ap (λ b. b && list_all p (enumerate_from (i + 1) (drop (i + 1) xs))) fails)

pub all-goes-on : {X : Type 0} (p : ℕ × X → Bool) (xs : List X) (i : ℕ) (x : X) (whole : Bool) → whole ≡ list_all p (enumerate_from i (drop i xs))
    → slice_get xs i ≡ Some x → p (i, x) ≡ true → whole ≡ list_all p (enumerate_from (i + 1) (drop (i + 1) xs))
all-goes-on p xs i x whole is there passes =
    is ∙ all-from p xs i x there ∙ ap (λ b. b && list_all p (enumerate_from (i + 1) (drop (i + 1) xs))) passes

pub all-passed : {X : Type 0} (p : ℕ × X → Bool) (xs : List X) (i : ℕ) (whole : Bool) → whole ≡ list_all p (enumerate_from i (drop i xs))
    → length xs ≤ i → true ≡ whole
all-passed p xs i whole is all = sym (is ∙ ap (λ l. list_all p (enumerate_from i l)) (drop_all i xs all))

-- what passes with all others
pub all-at : {X : Type 0} (p : ℕ × X → Bool) (n : ℕ) (xs : List X) (i : ℕ) (x : X) → list_all p (enumerate_from n xs) ≡ true → slice_get xs i ≡ Some x
    → p (n + i, x) ≡ true
all-at p n [] i x each there = absurd (cc)
all-at p n (y ∷ ys) zero x each there =
    let at : n + 0 ≡ n = omega arith in
    ap (λ (k : ℕ). p (k, x)) at ∙ ap (λ z. p (n, z)) (sym (same_Some y x there))
    ∙ (and_parts (p (n, y)) (list_all p (enumerate_from (n + 1) ys)) each).0
all-at p n (y ∷ ys) (suc i) x each there =
    let at : n + suc i ≡ n + 1 + i = omega arith in
    ap (λ (k : ℕ). p (k, x)) at
    ∙ all-at p (n + 1) ys i x (and_parts (p (n, y)) (list_all p (enumerate_from (n + 1) ys)) each).1 there

-- ---- Whether all elements pass

every-from : {X : Type 0} (p : X → Bool) (xs : List X) (i : ℕ) (x : X) → slice_get xs i ≡ Some x
    → list_all p (drop i xs) ≡ (p x && list_all p (drop (i + 1) xs))
every-from p xs i x there = ap (list_all p) (drop-there xs i x there)

pub every-fails : {X : Type 0} (p : X → Bool) (xs : List X) (i : ℕ) (x : X) (whole : Bool) → whole ≡ list_all p (drop i xs)
    → slice_get xs i ≡ Some x → p x ≡ false → false ≡ whole
every-fails p xs i x whole is there fails = sym (is ∙ every-from p xs i x there ∙ ap (λ b. b && list_all p (drop (i + 1) xs)) fails)

pub every-goes-on : {X : Type 0} (p : X → Bool) (xs : List X) (i : ℕ) (x : X) (whole : Bool) → whole ≡ list_all p (drop i xs)
    → slice_get xs i ≡ Some x → p x ≡ true → whole ≡ list_all p (drop (i + 1) xs)
every-goes-on p xs i x whole is there passes = is ∙ every-from p xs i x there ∙ ap (λ b. b && list_all p (drop (i + 1) xs)) passes

pub every-passed : {X : Type 0} (p : X → Bool) (xs : List X) (i : ℕ) (whole : Bool) → whole ≡ list_all p (drop i xs) → length xs ≤ i → true ≡ whole
every-passed p xs i whole is all = sym (is ∙ ap (list_all p) (drop_all i xs all))

pub every-at : {X : Type 0} (p : X → Bool) (xs : List X) (i : ℕ) (x : X) → list_all p xs ≡ true → slice_get xs i ≡ Some x → p x ≡ true
every-at p [] i x all there = absurd (cc)
every-at p (y ∷ ys) zero x all there = ap p (sym (same_Some y x there)) ∙ (and_parts (p y) (list_all p ys) all).0
every-at p (y ∷ ys) (suc i) x all there = every-at p ys i x (and_parts (p y) (list_all p ys) all).1 there

-- the elements of two lists at a place
pub zip-there : {X Y : Type 0} (xs : List X) (ys : List Y) (i : ℕ) (x : X) (y : Y) → slice_get xs i ≡ Some x → slice_get ys i ≡ Some y
    → slice_get (zip xs ys) i ≡ Some (x, y)
zip-there [] ys i x y there other = absurd (cc)
zip-there (a ∷ xs) [] i x y there other = absurd (cc)
zip-there (a ∷ xs) (b ∷ ys) zero x y there other = cc
zip-there (a ∷ xs) (b ∷ ys) (suc i) x y there other = zip-there xs ys i x y there other

pub zip-long : {X Y : Type 0} (xs : List X) (ys : List Y) → length (zip xs ys) ≤ length ys
zip-long [] ys = omega arith
zip-long (x ∷ xs) [] = omega arith
zip-long (x ∷ xs) (y ∷ ys) = let rest : length (zip xs ys) ≤ length ys = zip-long xs ys in omega (arith, rest)

-- ---- The numbers up to an end

pub range-from : (end i : ℕ) → i < end → range_with_len i (end - i) ≡ i ∷ range_with_len (i + 1) (end - (i + 1))
range-from end i below =
    let left : end - i ≡ suc (end - (i + 1)) = omega (arith, below) in
    ap (range_with_len i) left

-- whether any of them passes, as the image of a function
any-from : {Y : Type 0} (p : Y → Bool) (f : ℕ → Y) (end i : ℕ) → i < end
    → list_any p (map f (range_with_len i (end - i))) ≡ (p (f i) || list_any p (map f (range_with_len (i + 1) (end - (i + 1)))))
any-from p f end i below = ap (λ l. list_any p (map f l)) (range-from end i below)

pub any-found : {Y : Type 0} (p : Y → Bool) (f : ℕ → Y) (end i : ℕ) (whole : Bool) → i < end → whole ≡ list_any p (map f (range_with_len i (end - i)))
    → p (f i) ≡ true → false ≡ not whole
any-found p f end i whole below is found =
    sym (ap not (is ∙ any-from p f end i below ∙ ap (λ b. b || list_any p (map f (range_with_len (i + 1) (end - (i + 1))))) found))

pub any-goes-on : {Y : Type 0} (p : Y → Bool) (f : ℕ → Y) (end i : ℕ) (whole : Bool) → i < end → whole ≡ list_any p (map f (range_with_len i (end - i)))
    → p (f i) ≡ false → whole ≡ list_any p (map f (range_with_len (i + 1) (end - (i + 1))))
any-goes-on p f end i whole below is none =
    is ∙ any-from p f end i below ∙ ap (λ b. b || list_any p (map f (range_with_len (i + 1) (end - (i + 1))))) none
