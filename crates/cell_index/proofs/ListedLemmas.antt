-- The rows of one lock as a list: what stands under it in the entries.
use Rattle.std.proofs.Common.{◌≡◌, ℕ, zero, suc, ◌+◌, ◌<◌, ◌≤◌, ⊎_elim, Bool, true, false, cond, not, ◌&&◌, List, [], ◌∷◌, length, map, replicate, Option, Some, if◌then◌else◌, refl, sym, ap, ◌∙◌, subst, arith}
use Rattle.std.specs.Prelude.{◌==◌, nat_lt, slice_index}
use Rattle.std.specs.List.{AllByRecursion, Contains, filter, sum_by}
use Rattle.std.specs.List.Sorted.{IsStrictlySortedBy}
use Rattle.std.specs.Map.{keys_of, values_of}
use Rattle.std.specs.BTreeMap.{is_at}
use Rattle.std.specs.BTreeMap.Range.{range_contains}
use Rattle.std.specs.declared.ops.Bound.TheVariants.{Included}
use Rattle.std.specs.Str.{bytes_eq}
use Rattle.std.specs.declared.cmp.Ordering.{Ordering}
use Rattle.std.specs.declared.cmp.Ordering.TheVariants.{Less, Equal, Greater}
use Rattle.std.specs.Ordering.{nat_cmp, is_eq, is_gt, is_le, is_lt, ordering_then}
use Rattle.std.specs.Cmp.{eq_by_cmp_equiv}
use Rattle.std.specs.Cmp.Lexicographic.{slice_cmp, texts_ties, nat_list_cmp_total}
use Rattle.std.proofs.lemmas.Bool.{and_parts, ltb-false, ltb-true}
use Rattle.std.proofs.lemmas.Cmp.{tied_itself}
use Rattle.std.proofs.lemmas.Slice.Eq.{bytes_eq-Decides}
use Rattle.std.proofs.lemmas.List.Sums.{sum_by-cons}
use Rattle.std.proofs.lemmas.Option.{slice_get-get_or}
use Rattle.std.proofs.lemmas.Map.Entries.{lookup_from_place}
use Rattle.std.proofs.lemmas.Map.Keys.{IsDistinct-from_sorted, sorted_head, sorted_tail}
use Rattle.chain_defs.specs.Schema.{OutPoint, Block}
use Rattle.chain_defs.specs.Events.{same_out_point}
use Rattle.chain_defs.specs.Row.{Row, live_row, out_point_cmp, IsRising, ListsRows}
use Rattle.chain_defs.specs.ByLock.{of_lock, capacity_of, IsByLock}
use Rattle.chain_defs.proofs.ByLockLaws.{here, there, cons-of, cons-rising, none-rises, lists-once}
use Rattle.chain_defs.proofs.EventLemmas.{out_points-same}
use Rattle.cell_index.specs.Index.{Key, key_of, key_cmp, IndexValue, at, counts, holds, total_of, IsOwn, IndexesBranch}
use Rattle.cell_index.proofs.EntryLemmas.{key-is, key_cmp-total}

-- the out-point of a key, and an entry's row with it
abbrev pub point_of : Key → OutPoint
point_of key = record { tx_hash = key.1.0; index = key.1.1 }

abbrev pub row_by : Key × Row → OutPoint × Row
row_by e = (point_of e.0, e.1)

-- the rows under a lock, in the order of the entries
abbrev pub listed : List ℕ → List (Key × Row) → List (OutPoint × Row)
listed lock [] = []
listed lock (e ∷ es) = if bytes_eq e.0.0 lock then row_by e ∷ listed lock es else listed lock es

bytes-same : (xs ys : List ℕ) → bytes_eq xs ys ≡ true → xs ≡ ys
bytes-same xs ys is = (bytes_eq-Decides xs ys).0 is

true-false : (b : Bool) → b ≡ true → b ≡ false → ⊥
true-false b is not_is = cc

-- ---- What is listed stands there

entry-of : (lock : List ℕ) (es : List (Key × Row)) (it : OutPoint × Row) → Contains (listed lock es) it → Contains es (key_of lock it.0, it.1)
entry-of lock [] it (k, lt, is) = absurd (omega (arith, lt))
entry-of lock (e ∷ es) it has = by_test (bytes_eq e.0.0 lock) refl has (entry-of lock es it)
  where
    by_test : (b : Bool) → bytes_eq e.0.0 lock ≡ b → Contains (if b then row_by e ∷ listed lock es else listed lock es) it
        → (Contains (listed lock es) it → Contains es (key_of lock it.0, it.1)) → Contains (e ∷ es) (key_of lock it.0, it.1)
    by_test true own in_list rest = ⊎_elim
        (λ same. subst (λ (x : OutPoint × Row). Contains (e ∷ es) (key_of lock x.0, x.1)) same
        (subst (λ (l : List ℕ). Contains (e ∷ es) ((l, e.0.1), e.1)) (bytes-same e.0.0 lock own) (here e es)))
        (λ later. there e es (key_of lock it.0, it.1) (rest later)) (cons-of (row_by e) (listed lock es) it in_list)
    by_test false own in_list rest = there e es (key_of lock it.0, it.1) (rest in_list)

found-at : (es : List (Key × Row)) (lock : List ℕ) (it : OutPoint × Row) → IsStrictlySortedBy key_cmp (keys_of es) → Contains es (key_of lock it.0, it.1)
    → at es lock it.0 ≡ Some it.1
found-at es lock it sorted (k, lt, is) =
    lookup_from_place (eq_by_cmp_equiv key_cmp-total) es k (key_of lock it.0) it.1 (IsDistinct-from_sorted key_cmp (keys_of es) sorted)
    (slice_get-get_or es k (key_of lock it.0, it.1) lt ∙ ap (λ (e : Key × Row). Some e) is)

-- and what stands there is listed
pub listed-of : (es : List (Key × Row)) (lock : List ℕ) (o : OutPoint) (row : Row) → at es lock o ≡ Some row → Contains (listed lock es) (o, row)
listed-of [] lock o row found = absurd (cc)
listed-of (e ∷ es) lock o row found = by_test (is_at (key_cmp (key_of lock o)) e.0) refl found (listed-of es lock o row)
  where
    in_front : (b : Bool) → Contains (listed lock es) (o, row) → Contains (if b then row_by e ∷ listed lock es else listed lock es) (o, row)
    in_front true has = there (row_by e) (listed lock es) (o, row) has
    in_front false has = has

    by_test : (b : Bool) → is_at (key_cmp (key_of lock o)) e.0 ≡ b → cond b (Some e.1) (at es lock o) ≡ Some row → (at es lock o ≡ Some row → Contains (listed lock es) (o, row))
        → Contains (listed lock (e ∷ es)) (o, row)
    by_test true is same rest =
        let parts = and_parts (bytes_eq lock e.0.0) (same_out_point o (point_of e.0)) (sym (key-is lock e.0.0 o (point_of e.0)) ∙ is) in
        let own : bytes_eq e.0.0 lock ≡ true = (bytes_eq-Decides e.0.0 lock).1 (sym (bytes-same lock e.0.0 parts.0)) in
        let one : e.1 ≡ row = cc in
        let element : ◌≡◌ {A = OutPoint × Row} (row_by e) (o, row) = ap (λ (p : OutPoint). (p, e.1)) (sym (out_points-same o (point_of e.0) parts.1)) ∙ ap (λ (r : Row). (o, r)) one in
        subst (λ (b : Bool). Contains (if b then row_by e ∷ listed lock es else listed lock es) (o, row)) (sym own)
        (subst (λ (x : OutPoint × Row). Contains (row_by e ∷ listed lock es) x) element (here (row_by e) (listed lock es)))
    by_test false is same rest = in_front (bytes_eq e.0.0 lock) (rest same)

-- ---- In order

key-less : (key : Key) (lock : List ℕ) (o : OutPoint) → bytes_eq key.0 lock ≡ true → key_cmp key (key_of lock o) ≡ Less → out_point_cmp (point_of key) o ≡ Less
key-less key lock o own less =
    let same : slice_cmp nat_cmp key.0 lock ≡ Equal =
    ap (λ (l : List ℕ). slice_cmp nat_cmp key.0 l) (sym (bytes-same key.0 lock own)) ∙ tied_itself nat_list_cmp_total key.0 in
    ap (λ (order : Ordering). ordering_then order (out_point_cmp (point_of key) o)) (sym same) ∙ less

each-less : (key : Key) (es : List (Key × Row)) (other : Key) (row : Row) → AllByRecursion (λ (y : Key). key_cmp key y ≡ Less) (keys_of es) → Contains es (other, row)
    → key_cmp key other ≡ Less
each-less key [] other row all (k, lt, is) = absurd (omega (arith, lt))
each-less key (e ∷ es) other row all has = ⊎_elim
    (λ same. subst (λ (x : Key × Row). key_cmp key x.0 ≡ Less) same all.0)
    (λ later. each-less key es other row all.1 later) (cons-of e es (other, row) has)

listed-rises : (es : List (Key × Row)) (lock : List ℕ) → IsStrictlySortedBy key_cmp (keys_of es) → IsRising (listed lock es)
listed-rises [] lock sorted = none-rises
listed-rises (e ∷ es) lock sorted = by_test (bytes_eq e.0.0 lock) refl (listed-rises es lock (sorted_tail key_cmp e.0 (keys_of es) sorted))
  where
    by_test : (b : Bool) → bytes_eq e.0.0 lock ≡ b → IsRising (listed lock es) → IsRising (if b then row_by e ∷ listed lock es else listed lock es)
    by_test true own rest =
        cons-rising (row_by e) (listed lock es)
        (λ it has. key-less e.0 lock it.0 own (each-less e.0 es (key_of lock it.0) it.1 (sorted_head key_cmp e.0 (keys_of es) sorted) (entry-of lock es it has)))
        rest
    by_test false own rest = rest

-- Where the entries have some rows under a lock, the list has them.
pub lists-rows : (es : List (Key × Row)) (lock : List ℕ) (rows : OutPoint → Option Row) → IsStrictlySortedBy key_cmp (keys_of es)
    → ((o : OutPoint) → at es lock o ≡ rows o) → ListsRows rows (listed lock es)
lists-rows es lock rows sorted same = record {
  rising = listed-rises es lock sorted;
  each = λ o row. (
    λ has. sym (same o) ∙ found-at es lock (o, row) sorted (entry-of lock es (o, row) has),
    λ is. listed-of es lock o row (same o ∙ is),
  );
}

-- So an index that stands for a branch lists its cells by lock.
pub lists-cells : (kept : List Block) (place : ℕ) (index : IndexValue) (lock : List ℕ) → IsStrictlySortedBy key_cmp (keys_of index.entries) → IndexesBranch kept place index
    → IsByLock kept place lock (listed lock index.entries)
lists-cells kept place index lock sorted stands = lists-rows index.entries lock (λ o. of_lock lock (live_row kept place o)) sorted (stands lock)

-- ---- How many, and how much

own-test : (e : Key × Row) (lock : List ℕ) → IsOwn e → bytes_eq e.1.lock_hash lock ≡ bytes_eq e.0.0 lock
own-test e lock own = ap (λ (l : List ℕ). bytes_eq l lock) own.lock

pub listed-count : (es : List (Key × Row)) (lock : List ℕ) → AllByRecursion IsOwn es → sum_by (counts lock) (values_of es) ≡ length (listed lock es)
listed-count [] lock own = refl
listed-count (e ∷ es) lock own =
    sum_by-cons (counts lock) e.1 (values_of es)
    ∙ ap (λ (b : Bool). (if b then 1 else 0) + sum_by (counts lock) (values_of es)) (own-test e lock own.0)
    ∙ by_test (bytes_eq e.0.0 lock) (listed-count es lock own.1)
  where
    by_test : (b : Bool) → sum_by (counts lock) (values_of es) ≡ length (listed lock es)
        → (if b then 1 else 0) + sum_by (counts lock) (values_of es) ≡ length (if b then row_by e ∷ listed lock es else listed lock es)
    by_test true rest = omega (arith, rest)
    by_test false rest = omega (arith, rest)

pub listed-capacity : (es : List (Key × Row)) (lock : List ℕ) → AllByRecursion IsOwn es → sum_by (holds lock) (values_of es) ≡ capacity_of (listed lock es)
listed-capacity [] lock own = refl
listed-capacity (e ∷ es) lock own =
    sum_by-cons (holds lock) e.1 (values_of es)
    ∙ ap (λ (b : Bool). (if b then e.1.capacity else 0) + sum_by (holds lock) (values_of es)) (own-test e lock own.0)
    ∙ by_test (bytes_eq e.0.0 lock) (listed-capacity es lock own.1)
  where
    by_test : (b : Bool) → sum_by (holds lock) (values_of es) ≡ capacity_of (listed lock es)
        → (if b then e.1.capacity else 0) + sum_by (holds lock) (values_of es) ≡ capacity_of (if b then row_by e ∷ listed lock es else listed lock es)
    by_test true rest = ap (λ (n : ℕ). e.1.capacity + n) rest ∙ sym (sum_by-cons (λ (one : OutPoint × Row). one.1.capacity) (row_by e) (listed lock es))
    by_test false rest = omega (arith, rest)

pub totals-of : (kept : List Block) (place : ℕ) (index : IndexValue) (lock : List ℕ) (list : List (OutPoint × Row)) → IsStrictlySortedBy key_cmp (keys_of index.entries)
    → AllByRecursion IsOwn index.entries → IndexesBranch kept place index → IsByLock kept place lock list → ◌≡◌ {A = ℕ × ℕ} (total_of lock index.entries) (length list, capacity_of list)
totals-of kept place index lock list sorted own stands is =
    let same = lists-once (λ o. of_lock lock (live_row kept place o)) (listed lock index.entries) list (lists-cells kept place index lock sorted stands) is in
    ap (λ (n : ℕ). (n, sum_by (holds lock) (values_of index.entries))) (listed-count index.entries lock own)
    ∙ ap (λ (n : ℕ). (length (listed lock index.entries), n)) (listed-capacity index.entries lock own)
    ∙ ap (λ (l : List (OutPoint × Row)). (length l, capacity_of l)) same

-- ---- The range of a lock

-- the least and the greatest key of a lock
abbrev pub least_of : List ℕ → Key
least_of lock = (lock, (replicate 32 0, 0))

abbrev pub most_of : List ℕ → Key
most_of lock = (lock, (replicate 32 255, 4294967295))

-- the one is not after the other
pub range-forward : (lock : List ℕ) → is_gt (key_cmp (least_of lock) (most_of lock)) ≡ false
range-forward lock =
    ap (λ (order : Ordering). is_gt (ordering_then order (out_point_cmp (point_of (least_of lock)) (point_of (most_of lock))))) (tied_itself nat_list_cmp_total lock)

-- an order that is not Greater, and one that is not Less
then-le : (first later : Ordering) → is_le first ≡ true → is_le later ≡ true → is_le (ordering_then first later) ≡ true
then-le Less later one other = refl
then-le Equal later one other = other
then-le Greater later one other = absurd (cc)

then-ge : (first later : Ordering) → is_lt first ≡ false → is_lt later ≡ false → is_lt (ordering_then first later) ≡ false
then-ge Less later one other = absurd (cc)
then-ge Equal later one other = other
then-ge Greater later one other = refl

zero-le : (n : ℕ) → is_le (nat_cmp 0 n) ≡ true
zero-le zero = refl
zero-le (suc n) = by_test (nat_lt 0 (suc n)) (0 == suc n) refl refl
  where
    by_test : (a b : Bool) → nat_lt 0 (suc n) ≡ a → (0 == suc n) ≡ b → is_le (cond a Less (cond b Equal Greater)) ≡ true
    by_test true b less equal = refl
    by_test false b less equal = absurd (let more = ltb-false 0 (suc n) less in omega (arith, more))

most-ge : (most n : ℕ) → n ≤ most → is_lt (nat_cmp most n) ≡ false
most-ge most n le = by_test (nat_lt most n) (most == n) refl
  where
    by_test : (a b : Bool) → nat_lt most n ≡ a → is_lt (cond a Less (cond b Equal Greater)) ≡ false
    by_test true b less = absurd (let more = ltb-true most n less in omega (arith, more, le))
    by_test false true less = refl
    by_test false false less = refl

zeros-le : (count : ℕ) (xs : List ℕ) → length xs ≡ count → is_le (slice_cmp nat_cmp (replicate count 0) xs) ≡ true
zeros-le zero [] long = refl
zeros-le zero (x ∷ xs) long = refl
zeros-le (suc count) [] long = absurd (omega (arith, long))
zeros-le (suc count) (x ∷ xs) long = then-le (nat_cmp 0 x) (slice_cmp nat_cmp (replicate count 0) xs) (zero-le x) (zeros-le count xs (omega (arith, long)))

most-bytes-ge : (count : ℕ) (xs : List ℕ) → length xs ≡ count → ((i : ℕ) → slice_index xs i < 256) → is_lt (slice_cmp nat_cmp (replicate count 255) xs) ≡ false
most-bytes-ge zero [] long bytes = refl
most-bytes-ge zero (x ∷ xs) long bytes = absurd (omega (arith, long))
most-bytes-ge (suc count) [] long bytes = refl
most-bytes-ge (suc count) (x ∷ xs) long bytes =
    then-ge (nat_cmp 255 x) (slice_cmp nat_cmp (replicate count 255) xs) (most-ge 255 x (let one : x < 256 = bytes 0 in omega (arith, one)))
    (most-bytes-ge count xs (omega (arith, long)) (λ i. bytes (suc i)))

-- Between the two stand just the keys of the lock.
in-range : (e : Key × Row) (lock : List ℕ) → IsOwn e → range_contains key_cmp (Included (least_of lock)) (Included (most_of lock)) e.0 ≡ bytes_eq e.0.0 lock
in-range e lock own = by_order (slice_cmp nat_cmp lock e.0.0) refl
  where
    low : is_le (out_point_cmp (point_of (least_of lock)) (point_of e.0)) ≡ true
    low = then-le (slice_cmp nat_cmp (replicate 32 0) e.0.1.0) (nat_cmp 0 e.0.1.1) (zeros-le 32 e.0.1.0 own.tx_hash) (zero-le e.0.1.1)

    high : is_lt (out_point_cmp (point_of (most_of lock)) (point_of e.0)) ≡ false
    high = then-ge (slice_cmp nat_cmp (replicate 32 255) e.0.1.0) (nat_cmp 4294967295 e.0.1.1) (most-bytes-ge 32 e.0.1.0 own.tx_hash own.bytes)
        (most-ge 4294967295 e.0.1.1 (let one = own.index in omega (arith, one)))

    tied : (order : Ordering) → slice_cmp nat_cmp lock e.0.0 ≡ order → bytes_eq e.0.0 lock ≡ is_eq order
    tied order is = flip ∙ texts_ties lock e.0.0 ∙ ap is_eq is
      where
        flip : bytes_eq e.0.0 lock ≡ bytes_eq lock e.0.0
        flip = by_test (bytes_eq e.0.0 lock) (bytes_eq lock e.0.0) refl refl
          where
            by_test : (a b : Bool) → bytes_eq e.0.0 lock ≡ a → bytes_eq lock e.0.0 ≡ b → a ≡ b
            by_test true b is_a is_b = sym ((bytes_eq-Decides lock e.0.0).1 (sym (bytes-same e.0.0 lock is_a))) ∙ is_b
            by_test false true is_a is_b = sym is_a ∙ (bytes_eq-Decides e.0.0 lock).1 (sym (bytes-same lock e.0.0 is_b))
            by_test false false is_a is_b = refl

    by_order : (order : Ordering) → slice_cmp nat_cmp lock e.0.0 ≡ order
        → (is_le (ordering_then (slice_cmp nat_cmp lock e.0.0) (out_point_cmp (point_of (least_of lock)) (point_of e.0)))
        && not (is_lt (ordering_then (slice_cmp nat_cmp lock e.0.0) (out_point_cmp (point_of (most_of lock)) (point_of e.0))))) ≡ bytes_eq e.0.0 lock
    by_order order is =
        ap (λ (x : Ordering). is_le (ordering_then x (out_point_cmp (point_of (least_of lock)) (point_of e.0))) && not (is_lt (ordering_then x (out_point_cmp (point_of (most_of lock)) (point_of e.0))))) is
        ∙ by_case order ∙ sym (tied order is)
      where
        by_case : (x : Ordering) → (is_le (ordering_then x (out_point_cmp (point_of (least_of lock)) (point_of e.0))) && not (is_lt (ordering_then x (out_point_cmp (point_of (most_of lock)) (point_of e.0))))) ≡ is_eq x
        by_case Less = refl
        by_case Equal = ap (λ (b : Bool). b && not (is_lt (out_point_cmp (point_of (most_of lock)) (point_of e.0)))) low ∙ ap not high
        by_case Greater = refl

pub range-listed : (es : List (Key × Row)) (lock : List ℕ) → AllByRecursion IsOwn es
    → map row_by (filter (λ (e : Key × Row). range_contains key_cmp (Included (least_of lock)) (Included (most_of lock)) e.0) es) ≡ listed lock es
range-listed [] lock own = refl
range-listed (e ∷ es) lock own =
    ap (λ (b : Bool). map row_by (if b then e ∷ rest else rest)) (in-range e lock own.0) ∙ by_test (bytes_eq e.0.0 lock) (range-listed es lock own.1)
  where
    rest : List (Key × Row)
    rest = filter (λ (x : Key × Row). range_contains key_cmp (Included (least_of lock)) (Included (most_of lock)) x.0) es

    by_test : (b : Bool) → map row_by rest ≡ listed lock es → map row_by (if b then e ∷ rest else rest) ≡ (if b then row_by e ∷ listed lock es else listed lock es)
    by_test true same = ap (λ (l : List (OutPoint × Row)). row_by e ∷ l) same
    by_test false same = same
