-- A list that is written over, one piece after another.
use Rattle.std.proofs.Common.{◌≡◌, ℕ, zero, suc, ◌+◌, ◌≤◌, List, [], ◌∷◌, ◌++◌, length, take, drop, refl, ap, arith}
use Rattle.std.proofs.lemmas.List.{append-nil, drop-drop, length-append}
use Rattle.std.proofs.Math.Seq.{drop-append-add, take-append_seam}
use Rattle.std.proofs.Math.ListN.{drop_of_length-le}
use Rattle.machine_defs.specs.Memory.{overwritten}
use Rattle.machine_defs.proofs.Numbers.{take-nil}

pub take-past : (xs : List ℕ) (n : ℕ) → length xs ≤ n → take n xs ≡ xs
take-past [] n h = take-nil n
take-past (x ∷ xs) zero h = absurd (omega (arith, h))
take-past (x ∷ xs) (suc n) h = ap (λ rest. x ∷ rest) (take-past xs n (omega (arith, h)))

drop-nil : (n : ℕ) → drop {A = ℕ} n [] ≡ []
drop-nil zero = refl
drop-nil (suc n) = refl

overwritten-nil : (at : ℕ) (ys : List ℕ) → overwritten [] at ys ≡ ys
overwritten-nil at ys = rw (take-nil at, drop-nil (at + length ys)) (append-nil ys)

overwritten-cons : (x : ℕ) (xs : List ℕ) (at : ℕ) (ys : List ℕ) → overwritten (x ∷ xs) (suc at) ys ≡ x ∷ overwritten xs at ys
overwritten-cons x xs at ys =
    let e : suc at + length ys ≡ suc (at + length ys) = omega arith in
    rw e refl

overwritten-start : (xs ys : List ℕ) → overwritten xs 0 ys ≡ ys ++ drop (length ys) xs
overwritten-start xs ys =
    let e : 0 + length ys ≡ length ys = omega arith in
    rw e refl

past : (ys zs : List ℕ) (at : ℕ) → length ys ≤ at → overwritten ys at zs ≡ ys ++ zs
past ys zs at h =
    rw (take-past ys at h, drop_of_length-le ys {i = at + length zs} (omega (arith, h))) (append-nil (ys ++ zs))

pub overwritten-more : (xs : List ℕ) (at : ℕ) (ys zs : List ℕ)
    → overwritten (overwritten xs at ys) (at + length ys) zs ≡ overwritten xs at (ys ++ zs)
overwritten-more [] at ys zs =
    rw (overwritten-nil at ys, overwritten-nil at (ys ++ zs)) (past ys zs (at + length ys) (omega arith))
overwritten-more (x ∷ xs) zero ys zs =
    let e : 0 + length ys ≡ length ys = omega arith in
    let f : length (ys ++ zs) ≡ length ys + length zs = length-append ys zs in
    rw (
      overwritten-start (x ∷ xs) ys,
      overwritten-start (x ∷ xs) (ys ++ zs),
      e,
      f,
      take-append_seam ys (drop (length ys) (x ∷ xs)),
      drop-append-add ys (drop (length ys) (x ∷ xs)) (length zs),
      drop-drop (length zs) (length ys) (x ∷ xs),
    )
    refl
overwritten-more (x ∷ xs) (suc at) ys zs =
    let e : suc at + length ys ≡ suc (at + length ys) = omega arith in
    rw (
      overwritten-cons x xs at ys,
      e,
      overwritten-cons x (overwritten xs at ys) (at + length ys) zs,
      overwritten-cons x xs at (ys ++ zs),
      overwritten-more xs at ys zs,
    )
    refl
