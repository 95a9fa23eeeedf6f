-- The median: what a sort keeps, and that the counts leave room for one only.
use Rattle.std.proofs.Common.{◌≡◌, ℕ, zero, suc, ◌+◌, ◌*◌, ◌/◌, ◌<◌, ◌≤◌, Bool, true, false, cond, ltb, leb, eqb, List, [], ◌∷◌, length, get_or, refl, ap, ◌∙◌, subst, inl, inr, ◌⊎◌, arith}
use Rattle.std.specs.List.{count_by}
use Rattle.std.specs.List.Sorted.{IsNonDecreasing}
use Rattle.std.proofs.lemmas.Bool.{cases_lt, ltb-true, ltb-false, leb-true, le-leb, eq-eqb}
use Rattle.std.proofs.lemmas.List.Sums.{sum_by-cons}
use Rattle.chain_defs.specs.Median.{put_in_order, sorted, median_of, IsMedian, MediansAreMedians}

-- ---- Sorted numbers

-- each is at least m
abbrev pub AllFrom : ℕ → List ℕ → Type 0
AllFrom m [] = Unit {0}
AllFrom m (n ∷ ns) = (m ≤ n) × AllFrom m ns

-- each is at most those after it
abbrev pub Rises : List ℕ → Type 0
Rises [] = Unit {0}
Rises (n ∷ ns) = AllFrom n ns × Rises ns

from-less : (m n : ℕ) (ns : List ℕ) → m ≤ n → AllFrom n ns → AllFrom m ns
from-less m n [] less all = tt
from-less m n (first ∷ ns) less all = (omega (arith, less, all.0), from-less m n ns less all.1)

from-put : (m n : ℕ) (ns : List ℕ) → m ≤ n → AllFrom m ns → AllFrom m (put_in_order n ns)
from-put m n [] less all = (less, tt)
from-put m n (first ∷ ns) less all = by_test (ltb first n) (from-put m n ns less all.1)
  where
    by_test : (b : Bool) → AllFrom m (put_in_order n ns) → AllFrom m (cond b (first ∷ put_in_order n ns) (n ∷ first ∷ ns))
    by_test true rest = (all.0, rest)
    by_test false rest = (less, all)

rises-put : (n : ℕ) (ns : List ℕ) → Rises ns → Rises (put_in_order n ns)
rises-put n [] up = (tt, tt)
rises-put n (first ∷ ns) up = by_test (ltb first n) refl (rises-put n ns up.1)
  where
    by_test : (b : Bool) → ltb first n ≡ b → Rises (put_in_order n ns) → Rises (cond b (first ∷ put_in_order n ns) (n ∷ first ∷ ns))
    by_test true is rest = let less : first < n = ltb-true first n is in (from-put first n ns (omega (arith, less)) up.0, rest)
    by_test false is rest = let most : n ≤ first = ltb-false first n is in ((most, from-less n first ns most up.0), up)

count-put : (p : ℕ → Bool) (n : ℕ) (ns : List ℕ) → count_by p (put_in_order n ns) ≡ count_by p (n ∷ ns)
count-put p n [] = refl
count-put p n (first ∷ ns) = by_test (ltb first n) (count-put p n ns)
  where
    by_test : (b : Bool) → count_by p (put_in_order n ns) ≡ count_by p (n ∷ ns)
        → count_by p (cond b (first ∷ put_in_order n ns) (n ∷ first ∷ ns)) ≡ count_by p (n ∷ first ∷ ns)
    by_test true rest =
        let counted : ℕ → ℕ = λ x. cond (p x) 1 0 in
        let a = sum_by-cons counted first (put_in_order n ns) in
        let c = sum_by-cons counted n ns in
        let d = sum_by-cons counted n (first ∷ ns) in
        let e = sum_by-cons counted first ns in
        omega (arith, a, rest, c, d, e)
    by_test false rest = refl

length-put : (n : ℕ) (ns : List ℕ) → length (put_in_order n ns) ≡ suc (length ns)
length-put n [] = refl
length-put n (first ∷ ns) = by_test (ltb first n) (length-put n ns)
  where
    by_test : (b : Bool) → length (put_in_order n ns) ≡ suc (length ns)
        → length (cond b (first ∷ put_in_order n ns) (n ∷ first ∷ ns)) ≡ suc (suc (length ns))
    by_test true rest = ap suc rest
    by_test false rest = refl

rises-sorted : (ns : List ℕ) → Rises (sorted ns)
unfolding sorted
rises-sorted [] = tt
rises-sorted (n ∷ ns) = rises-put n (sorted ns) (rises-sorted ns)

count-sorted : (p : ℕ → Bool) (ns : List ℕ) → count_by p (sorted ns) ≡ count_by p ns
unfolding sorted
count-sorted p [] = refl
count-sorted p (n ∷ ns) =
    let counted : ℕ → ℕ = λ x. cond (p x) 1 0 in
    let a = count-put p n (sorted ns) in
    let b = sum_by-cons counted n (sorted ns) in
    let c = count-sorted p ns in
    let d = sum_by-cons counted n ns in
    omega (arith, a, b, c, d)

length-sorted : (ns : List ℕ) → length (sorted ns) ≡ length ns
unfolding sorted
length-sorted [] = refl
length-sorted (n ∷ ns) = length-put n (sorted ns) ∙ ap suc (length-sorted ns)

-- ---- The number at a place of sorted numbers

-- how many are at most it, at least it, and it
pub record HasRank (ns : List ℕ) (place number : ℕ) : Type 0 where
  pub at_most : place < count_by (λ n. leb n number) ns
  pub at_least : length ns ≤ place + count_by (λ n. leb number n) ns
  pub itself : 0 < count_by (λ n. eqb n number) ns

from-there : (m : ℕ) (ns : List ℕ) (place : ℕ) → AllFrom m ns → place < length ns → m ≤ get_or ns place 0
from-there m [] place all within = absurd (omega (arith, within))
from-there m (n ∷ ns) zero all within = all.0
from-there m (n ∷ ns) (suc place) all within = from-there m ns place all.1 (omega (arith, within))

-- what one that passes a test adds to a count
abbrev one : Bool → ℕ
one t = cond t 1 0

one-yes : (t : Bool) → t ≡ true → one t ≡ 1
one-yes t is = ap one is

count-all : (m : ℕ) (ns : List ℕ) → AllFrom m ns → count_by (λ n. leb m n) ns ≡ length ns
count-all m [] all = refl
count-all m (n ∷ ns) all =
    let a = sum_by-cons (λ x. cond (leb m x) 1 0) n ns in
    let b = one-yes (leb m n) (le-leb m n all.0) in
    let c = count-all m ns all.1 in
    omega (arith, a, b, c)

le-itself : (n : ℕ) → leb n n ≡ true
le-itself n = le-leb n n (omega arith)

has-rank : (ns : List ℕ) (place : ℕ) → Rises ns → place < length ns → HasRank ns place (get_or ns place 0)
has-rank [] place up within = absurd (omega (arith, within))
has-rank (n ∷ ns) zero up within =
    let a = sum_by-cons (λ x. cond (leb x n) 1 0) n ns in
    let b = one-yes (leb n n) (le-itself n) in
    let c = sum_by-cons (λ x. cond (leb n x) 1 0) n ns in
    let d = count-all n ns up.0 in
    let e = sum_by-cons (λ x. cond (eqb x n) 1 0) n ns in
    let f = one-yes (eqb n n) (eq-eqb n n refl) in
    record {
      at_most = omega (arith, a, b);
      at_least = omega (arith, b, c, d);
      itself = omega (arith, e, f);
    }
has-rank (n ∷ ns) (suc place) up within =
    let m : ℕ = get_or ns place 0 in
    let inside : place < length ns = omega (arith, within) in
    let rest = has-rank ns place up.1 inside in
    let most : n ≤ m = from-there n ns place up.0 inside in
    let a = sum_by-cons (λ x. cond (leb x m) 1 0) n ns in
    let b = one-yes (leb n m) (le-leb n m most) in
    let c = sum_by-cons (λ x. cond (leb m x) 1 0) n ns in
    let d = sum_by-cons (λ x. cond (eqb x m) 1 0) n ns in
    let at_most : place < count_by (λ x. leb x m) ns = rest.at_most in
    let at_least : length ns ≤ place + count_by (λ x. leb m x) ns = rest.at_least in
    let itself : 0 < count_by (λ x. eqb x m) ns = rest.itself in
    record {
      at_most = omega (arith, a, b, at_most);
      at_least = omega (arith, c, at_least);
      itself = omega (arith, d, itself);
    }

-- ---- Medians

-- numbers, and the same sorted
pub record IsSortedOf (numbers ordered : List ℕ) : Type 0 where
  pub rises : Rises ordered
  pub long : length ordered ≡ length numbers
  pub counts : (p : ℕ → Bool) → count_by p ordered ≡ count_by p numbers

pub IsMedian-ranked : (numbers ordered : List ℕ) → IsSortedOf numbers ordered → 0 < length numbers → IsMedian numbers (get_or ordered (length numbers / 2) 0)
IsMedian-ranked numbers ordered is some =
    let half : ℕ = length numbers / 2 in
    let m : ℕ = get_or ordered half 0 in
    let long = is.long in
    let rank = has-rank ordered half is.rises (omega (arith, long, some)) in
    let at_most : half < count_by (λ x. leb x m) ordered = rank.at_most in
    let at_least : length ordered ≤ half + count_by (λ x. leb m x) ordered = rank.at_least in
    let itself : 0 < count_by (λ x. eqb x m) ordered = rank.itself in
    let a : count_by (λ x. leb x m) ordered ≡ count_by (λ x. leb x m) numbers = is.counts (λ x. leb x m) in
    let b : count_by (λ x. leb m x) ordered ≡ count_by (λ x. leb m x) numbers = is.counts (λ x. leb m x) in
    let c : count_by (λ x. eqb x m) ordered ≡ count_by (λ x. eqb x m) numbers = is.counts (λ x. eqb x m) in
    record {
      among = omega (arith, c, itself);
      at_most = omega (arith, a, at_most);
      at_least = omega (arith, b, at_least, long);
    }

-- no number is at most one and at least a greater one
not_both : (n low high : ℕ) → low < high → one (leb n low) + one (leb high n) ≤ 1
not_both n low high less = by_cases (cases_lt low n)
  where
    by_cases : (low < n) ⊎ (n ≤ low) → one (leb n low) + one (leb high n) ≤ 1
    by_cases (inl above) = by_test (leb n low) (leb high n) refl
      where
        by_test : (b d : Bool) → leb n low ≡ b → one b + one d ≤ 1
        by_test true d is = let most = leb-true n low is in absurd (omega (arith, most, above))
        by_test false true is = omega arith
        by_test false false is = omega arith
    by_cases (inr most) = by_test (leb n low) (leb high n) refl
      where
        by_test : (b d : Bool) → leb high n ≡ d → one b + one d ≤ 1
        by_test b true is = let over = leb-true high n is in absurd (omega (arith, most, over, less))
        by_test true false is = omega arith
        by_test false false is = omega arith

apart : (ns : List ℕ) (low high : ℕ) → low < high → count_by (λ n. leb n low) ns + count_by (λ n. leb high n) ns ≤ length ns
apart [] low high less = omega arith
apart (n ∷ ns) low high less =
    let a = sum_by-cons (λ x. cond (leb x low) 1 0) n ns in
    let b = sum_by-cons (λ x. cond (leb high x) 1 0) n ns in
    let c = not_both n low high less in
    let d = apart ns low high less in
    omega (arith, a, b, c, d)

-- There is one median only.
pub IsMedian-one : (numbers : List ℕ) (one other : ℕ) → IsMedian numbers one → IsMedian numbers other → one ≡ other
IsMedian-one numbers one other is too = by_cases (cases_lt one other) (cases_lt other one)
  where
    none_below : (low high : ℕ) → low < high → IsMedian numbers low → IsMedian numbers high → ⊥
    none_below low high less first second =
        let a : length numbers < 2 * count_by (λ n. leb n low) numbers = first.at_most in
        let b : length numbers ≤ 2 * count_by (λ n. leb high n) numbers = second.at_least in
        let c = apart numbers low high less in
        absurd (omega (arith, a, b, c))

    by_cases : (one < other) ⊎ (other ≤ one) → (other < one) ⊎ (one ≤ other) → one ≡ other
    by_cases (inl less) second = absurd (none_below one other less is too)
    by_cases (inr most) (inl less) = absurd (none_below other one less too is)
    by_cases (inr most) (inr least) = omega (arith, most, least)

pub IsMedian-median : (numbers : List ℕ) → 0 < length numbers → IsMedian numbers (median_of numbers)
unfolding median_of
IsMedian-median numbers some = IsMedian-ranked numbers (sorted numbers) is some
  where
    is : IsSortedOf numbers (sorted numbers)
    is = record { rises = rises-sorted numbers; long = length-sorted numbers; counts = λ p. count-sorted p numbers }

pub medians-are-medians : MediansAreMedians
medians-are-medians numbers median some =
    (λ same. subst (IsMedian numbers) same (IsMedian-median numbers some), λ is. IsMedian-one numbers (median_of numbers) median (IsMedian-median numbers some) is)

-- The number at half the count, where the numbers stand sorted, is the median.
pub median-sorted : (numbers ordered : List ℕ) → IsSortedOf numbers ordered → 0 < length numbers → get_or ordered (length numbers / 2) 0 ≡ median_of numbers
median-sorted numbers ordered is some =
    IsMedian-one numbers (get_or ordered (length numbers / 2) 0) (median_of numbers) (IsMedian-ranked numbers ordered is some) (IsMedian-median numbers some)

-- The order does not count.
pub median-same : (numbers others : List ℕ) → length others ≡ length numbers → ((p : ℕ → Bool) → count_by p others ≡ count_by p numbers)
    → 0 < length numbers → median_of others ≡ median_of numbers
median-same numbers others long counts some =
    let is = IsMedian-median others (omega (arith, long, some)) in
    let m : ℕ = median_of others in
    let a : count_by (λ x. eqb x m) others ≡ count_by (λ x. eqb x m) numbers = counts (λ x. eqb x m) in
    let b : count_by (λ x. leb x m) others ≡ count_by (λ x. leb x m) numbers = counts (λ x. leb x m) in
    let c : count_by (λ x. leb m x) others ≡ count_by (λ x. leb m x) numbers = counts (λ x. leb m x) in
    let among : 0 < count_by (λ x. eqb x m) others = is.among in
    let at_most : length others < 2 * count_by (λ x. leb x m) others = is.at_most in
    let at_least : length others ≤ 2 * count_by (λ x. leb m x) others = is.at_least in
    IsMedian-one numbers m (median_of numbers)
    (record { among = omega (arith, among, a); at_most = omega (arith, at_most, b, long); at_least = omega (arith, at_least, c, long) })
    (IsMedian-median numbers some)

-- Numbers that do not fall from place to place rise.
from-places : (m : ℕ) (ns : List ℕ) → ((j : ℕ) → j < length ns → m ≤ get_or ns j 0) → AllFrom m ns
from-places m [] each = tt
from-places m (n ∷ ns) each = (each 0 (omega arith), from-places m ns (λ j within. each (suc j) (omega (arith, within))))

pub Rises-from_places : (ns : List ℕ) → IsNonDecreasing ns → Rises ns
Rises-from_places [] up = tt
Rises-from_places (n ∷ ns) up = (
  from-places n ns (λ j within. up 0 (suc j) 0 (omega arith) (omega (arith, within))),
  Rises-from_places ns (λ i j d at_most within. up (suc i) (suc j) d (omega (arith, at_most)) (omega (arith, within))),
)
