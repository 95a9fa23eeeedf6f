-- One step of each of the reader's loops.
use Rattle.std.proofs.Common.{◌≡◌, ◌≢◌, ◌⊎◌, inl, inr, ℕ, ◌+◌, ◌-◌, ◌*◌, ◌<◌, ◌≤◌, ◌&&◌, Bool, true, false, List, [], ◌∷◌, take, drop, length, get_or, refl, sym, ap, ◌∙◌, Some, arith, add-one}
use Rattle.std.proofs.lemmas.List.{take_rest, drop_all}
use Rattle.std.specs.Prelude.{nat_lt}
use Rattle.std.specs.Str.{bytes_eq}
use Rattle.std.proofs.lemmas.Bool.Decides.{nat_tests}
use Rattle.std.proofs.Math.Seq.{drop-cons}
use Rattle.machine_defs.specs.declared.ins.Ins.{Ins}
use Rattle.machine_defs.specs.Text.{form_of}
use Rattle.rv_text.specs.Reading.{space_at, is_digit, from_digit, leading, named_in}

pub space-here : (cs : List ℕ) (c : ℕ) → c ≡ 32 → space_at (c ∷ cs) ≡ 0
unfolding space_at
space-here cs c e = grind (arith, nat_tests)

pub space-later : (cs : List ℕ) (c : ℕ) → c ≢ 32 → space_at (c ∷ cs) ≡ space_at cs + 1
unfolding space_at
space-later cs c e = grind (arith, nat_tests)

pub digit-true : (c : ℕ) → 48 ≤ c → c ≤ 57 → is_digit c ≡ true
digit-true c low high = grind (arith, nat_tests)

pub digit-low : (c : ℕ) → c < 48 → is_digit c ≡ false
digit-low c low = grind (arith, nat_tests)

pub digit-high : (c : ℕ) → 57 < c → is_digit c ≡ false
digit-high c high = grind (arith, nat_tests)

pub digit-here : (cs : List ℕ) (c : ℕ) → is_digit c ≡ true → from_digit (c ∷ cs) ≡ c ∷ cs
unfolding from_digit
digit-here cs c e = rw e refl

pub digit-later : (cs : List ℕ) (c : ℕ) → is_digit c ≡ false → from_digit (c ∷ cs) ≡ from_digit cs
unfolding from_digit
digit-later cs c e = rw e refl

pub leading-stops : (n : ℕ) (cs : List ℕ) (c : ℕ) → is_digit c ≡ false → leading n (c ∷ cs) ≡ (n, c ∷ cs)
unfolding leading
leading-stops n cs c e = rw e refl

small : (n : ℕ) → n < 10000000 → nat_lt n 10000000 ≡ true
small n h = grind (arith, nat_tests)

great : (n : ℕ) → 10000000 ≤ n → nat_lt n 10000000 ≡ false
great n h = grind (arith, nat_tests)

and-false : (b : Bool) → (b && false) ≡ false
and-false true = refl
and-false false = refl

pub leading-full : (n : ℕ) (cs : List ℕ) (c : ℕ) → 10000000 ≤ n → leading n (c ∷ cs) ≡ (n, c ∷ cs)
unfolding leading
leading-full n cs c h = rw (great n h, and-false (is_digit c)) refl

pub leading-more : (n : ℕ) (cs : List ℕ) (c : ℕ) → is_digit c ≡ true → n < 10000000 → leading n (c ∷ cs) ≡ leading (n * 10 + (c - 48)) cs
unfolding leading
leading-more n cs c e h = rw (e, small n h) refl

pub named-here : (i : Ins) (rest : List Ins) (name : List ℕ) → bytes_eq (form_of i).name name ≡ true → named_in (i ∷ rest) name ≡ Some i
unfolding named_in
named-here i rest name e = rw e refl

pub named-later : (i : Ins) (rest : List Ins) (name : List ℕ) → bytes_eq (form_of i).name name ≡ false → named_in (i ∷ rest) name ≡ named_in rest name
unfolding named_in
named-later i rest name e = rw e refl

pub dropped : (xs : List ℕ) (i : ℕ) → i < length xs → drop i xs ≡ get_or xs i 0 ∷ drop (i + 1) xs
dropped xs i h = rw (add-one, drop-cons xs i 0) refl

-- ---- the loops' goals

pub space-found : (xs : List ℕ) (i : ℕ) → i < length xs → get_or xs i 0 ≡ 32 → space_at xs ≡ i + space_at (drop i xs) → i ≡ space_at xs
space-found xs i h e so =
    let here : space_at (drop i xs) ≡ 0 = ap space_at (dropped xs i h) ∙ space-here (drop (i + 1) xs) (get_or xs i 0) e in
    omega arith

pub space-passed : (xs : List ℕ) (i : ℕ) → i < length xs → get_or xs i 0 ≢ 32 → space_at xs ≡ i + space_at (drop i xs)
    → space_at xs ≡ i + 1 + space_at (drop (i + 1) xs)
space-passed xs i h e so =
    let here : space_at (drop i xs) ≡ space_at (drop (i + 1) xs) + 1 =
    ap space_at (dropped xs i h) ∙ space-later (drop (i + 1) xs) (get_or xs i 0) e in
    omega arith

no-space : space_at [] ≡ 0
unfolding space_at
no-space = refl

pub space-none : (xs : List ℕ) (i : ℕ) → length xs ≤ i → i ≤ length xs → space_at xs ≡ i + space_at (drop i xs) → length xs ≡ space_at xs
space-none xs i h k so =
    let here : space_at (drop i xs) ≡ 0 = ap space_at (drop_all i xs h) ∙ no-space in
    omega arith

pub digit-found : (xs : List ℕ) (i : ℕ) → i < length xs → is_digit (get_or xs i 0) ≡ true → from_digit xs ≡ from_digit (drop i xs)
    → take (length xs - i) (drop i xs) ≡ from_digit xs
digit-found xs i h e so =
    take_rest xs i ∙ dropped xs i h
    ∙ sym (so ∙ ap from_digit (dropped xs i h) ∙ digit-here (drop (i + 1) xs) (get_or xs i 0) e)

pub digit-passed : (xs : List ℕ) (i : ℕ) → i < length xs → is_digit (get_or xs i 0) ≡ false → from_digit xs ≡ from_digit (drop i xs)
    → from_digit xs ≡ from_digit (drop (i + 1) xs)
digit-passed xs i h e so = so ∙ ap from_digit (dropped xs i h) ∙ digit-later (drop (i + 1) xs) (get_or xs i 0) e

pub no-digit : from_digit [] ≡ []
unfolding from_digit
no-digit = refl

pub digit-none : (xs : List ℕ) (i : ℕ) → length xs ≤ i → from_digit xs ≡ from_digit (drop i xs)
    → take (length xs - length xs) (drop (length xs) xs) ≡ from_digit xs
digit-none xs i h so =
    take_rest xs (length xs) ∙ drop_all (length xs) xs (omega arith) ∙ sym (so ∙ ap from_digit (drop_all i xs h) ∙ no-digit)

pub leading-done : (xs : List ℕ) (n i : ℕ) → i < length xs
    → (is_digit (get_or xs i 0) ≡ false) ⊎ (10000000 ≤ n) → leading 0 xs ≡ leading n (drop i xs)
    → (n, take (length xs - i) (drop i xs)) ≡ leading 0 xs
leading-done xs n i h (inl e) so =
    ap (λ r. (n, r)) (take_rest xs i ∙ dropped xs i h)
    ∙ sym (so ∙ ap (leading n) (dropped xs i h) ∙ leading-stops n (drop (i + 1) xs) (get_or xs i 0) e)
leading-done xs n i h (inr e) so =
    ap (λ r. (n, r)) (take_rest xs i ∙ dropped xs i h)
    ∙ sym (so ∙ ap (leading n) (dropped xs i h) ∙ leading-full n (drop (i + 1) xs) (get_or xs i 0) e)

pub leading-goes : (xs : List ℕ) (n i : ℕ) → i < length xs → is_digit (get_or xs i 0) ≡ true → n < 10000000
    → leading 0 xs ≡ leading n (drop i xs) → leading 0 xs ≡ leading (n * 10 + (get_or xs i 0 - 48)) (drop (i + 1) xs)
leading-goes xs n i h e k so = so ∙ ap (leading n) (dropped xs i h) ∙ leading-more n (drop (i + 1) xs) (get_or xs i 0) e k

pub no-leading : (n : ℕ) → leading n [] ≡ (n, [])
unfolding leading
no-leading n = refl

pub leading-ends : (xs : List ℕ) (n i : ℕ) → length xs ≤ i → leading 0 xs ≡ leading n (drop i xs)
    → (n, take (length xs - length xs) (drop (length xs) xs)) ≡ leading 0 xs
leading-ends xs n i h so =
    ap (λ r. (n, r)) (take_rest xs (length xs) ∙ drop_all (length xs) xs (omega arith))
    ∙ sym (so ∙ ap (leading n) (drop_all i xs h) ∙ no-leading n)
