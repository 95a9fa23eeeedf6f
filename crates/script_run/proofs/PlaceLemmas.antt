-- Lists side by side, as what a scene shows of a transaction beside it.
use Rattle.std.proofs.Common.{◌≡◌, ℕ, zero, suc, List, [], ◌∷◌, length, Some, None, refl, ap, subst}
use Rattle.std.specs.Prelude.{slice_get}
use Rattle.std.specs.List.{AllZip}

pub zip-lengths : {A B : Type 0} (R : A → B → Type 0) (xs : List A) (ys : List B) → AllZip R xs ys → length xs ≡ length ys
zip-lengths R [] [] zip = refl
zip-lengths R [] (y ∷ ys) zip = absurd zip
zip-lengths R (x ∷ xs) [] zip = absurd zip
zip-lengths R (x ∷ xs) (y ∷ ys) zip = ap suc (zip-lengths R xs ys zip.1)

pub zip-map : {A B : Type 0} (R Q : A → B → Type 0) → ((x : A) (y : B) → R x y → Q x y) → (xs : List A) (ys : List B) → AllZip R xs ys → AllZip Q xs ys
zip-map R Q each [] [] zip = tt
zip-map R Q each [] (y ∷ ys) zip = absurd zip
zip-map R Q each (x ∷ xs) [] zip = absurd zip
zip-map R Q each (x ∷ xs) (y ∷ ys) zip = (each x y zip.0, zip-map R Q each xs ys zip.1)

-- an item beside one that is there
pub record Beside {A B : Type 0} (R : A → B → Type 0) (x : A) (ys : List B) (i : ℕ) : Type 0 where
  pub item : B
  pub there : slice_get ys i ≡ Some item
  pub holds : R x item

pub some-is : {A : Type 0} (x y : A) → Some x ≡ Some y → x ≡ y
some-is x y same = cc

pub beside : {A B : Type 0} (R : A → B → Type 0) (xs : List A) (ys : List B) (i : ℕ) (x : A) → AllZip R xs ys → slice_get xs i ≡ Some x → Beside R x ys i
beside R [] [] i x zip here = absurd cc
beside R [] (y ∷ ys) i x zip here = absurd zip
beside R (a ∷ xs) [] i x zip here = absurd zip
beside R (a ∷ xs) (y ∷ ys) zero x zip here = record { item = y; there = refl; holds = subst (λ (it : _). R it y) (some-is a x here) zip.0 }
beside R (a ∷ xs) (y ∷ ys) (suc i) x zip here =
    let later = beside R xs ys i x zip.1 here in
    record { item = later.item; there = later.there; holds = later.holds }

pub beside-none : {A B : Type 0} (R : A → B → Type 0) (xs : List A) (ys : List B) (i : ℕ) → AllZip R xs ys → slice_get xs i ≡ None → slice_get ys i ≡ None
beside-none R [] [] i zip here = refl
beside-none R [] (y ∷ ys) i zip here = absurd zip
beside-none R (a ∷ xs) [] i zip here = absurd zip
beside-none R (a ∷ xs) (y ∷ ys) zero zip here = absurd cc
beside-none R (a ∷ xs) (y ∷ ys) (suc i) zip here = beside-none R xs ys i zip.1 here
