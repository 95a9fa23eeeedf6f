-- Pages that were never stored to.
use Rattle.std.proofs.Common.{◌≡◌, ℕ, zero, suc, ◌+◌, ◌*◌, ◌≤◌, false, List, [], ◌++◌, replicate, map, refl, arith}
use Rattle.std.specs.List.{concat}
use Rattle.machine_defs.specs.Memory.{page_size, page_count, memory_size}
use Rattle.vm_mem.specs.Pages.{whole, is_allocated}
use Rattle.vm_mem.proofs.Wholes.{whole-empty}

pub replicate-add : {X : Type 0} (m n : ℕ) (x : X) → replicate m x ++ replicate n x ≡ replicate (m + n) x
replicate-add zero n x = let e : zero + n ≡ n = omega arith in rw e refl
replicate-add (suc m) n x =
    let e : suc m + n ≡ suc (m + n) = omega arith in
    rw (e, ← replicate-add m n x) refl

whole-nil : whole [] ≡ replicate page_size 0
whole-nil = whole-empty [] refl

zero-pages : (w : List ℕ → List ℕ) (n k : ℕ) → w [] ≡ replicate n 0 → concat (map w (replicate k [])) ≡ replicate (n * k) 0
zero-pages w n zero is = let e : n * zero ≡ zero = omega arith in rw e refl
zero-pages w n (suc k) is =
    let e : n * suc k ≡ n + n * k = grind arith in
    rw (e, is, zero-pages w n k is) (replicate-add n (n * k) 0)

size-is : page_size * page_count ≡ memory_size
unfolding page_count memory_size
size-is = refl

pub new-bytes : (contents : List (List ℕ)) → contents ≡ replicate page_count [] → concat (map whole contents) ≡ replicate memory_size 0
new-bytes contents is = rw (is, ← size-is) (zero-pages whole page_size page_count whole-nil)

none-made : (k : ℕ) → map is_allocated (replicate k []) ≡ replicate k false
none-made zero = refl
none-made (suc k) = rw (none-made k) refl

pub new-made : (contents : List (List ℕ)) → contents ≡ replicate page_count [] → map is_allocated contents ≡ replicate page_count false
new-made contents is = rw is (none-made page_count)

pub count-is : (n : ℕ) → 1024 ≤ n → n ≤ 1024 → n ≡ page_count
unfolding page_count
count-is n low high = omega (arith, low, high)
