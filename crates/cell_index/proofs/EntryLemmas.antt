-- On the entries of an index: one more, one less, and what is kept of their locks.
use Rattle.std.proofs.Common.{◌≡◌, ℕ, ◌+◌, ◌*◌, ◌<◌, ◌≤◌, ◌^◌, Bool, true, false, cond, ◌&&◌, List, [], ◌∷◌, length, Option, Some, None, is_some, if◌then◌else◌, refl, sym, ap, ◌∙◌, subst, arith}
use Rattle.std.specs.Prelude.{IsSome, unwrap_or}
use Rattle.std.specs.Option.{option_map}
use Rattle.std.specs.List.{AllByRecursion, sum_by}
use Rattle.std.specs.List.Sorted.{IsStrictlySortedBy}
use Rattle.std.specs.Map.{lookup, keys_of, values_of, remove_entry}
use Rattle.std.specs.BTreeMap.{insert_entry, is_at}
use Rattle.std.specs.Str.{bytes_eq}
use Rattle.std.specs.declared.cmp.Ordering.{Ordering}
use Rattle.std.specs.declared.cmp.Ordering.TheVariants.{Less, Equal, Greater}
use Rattle.std.specs.Ordering.{nat_cmp, is_eq, ordering_then, match_ordering}
use Rattle.std.specs.Cmp.{IsTotalOrder, on_total, then_total, nat_cmp_total, unsigned_ties}
use Rattle.std.specs.Cmp.Lexicographic.{slice_cmp, texts_ties, nat_list_cmp_total}
use Rattle.std.proofs.lemmas.Bool.{and_parts}
use Rattle.std.proofs.lemmas.List.Sums.{sum_by-cons}
use Rattle.std.proofs.lemmas.Slice.Eq.{bytes_eq-Decides}
use Rattle.std.proofs.lemmas.Map.Entries.{sum_by-insert_entry, sum_by-remove_entry}
use Rattle.chain_defs.specs.Schema.{OutPoint}
use Rattle.chain_defs.specs.Events.{same_out_point}
use Rattle.chain_defs.specs.Row.{Row}
use Rattle.chain_defs.specs.Undo.{without, with_row}
use Rattle.chain_defs.specs.ByLock.{of_lock}
use Rattle.chain_defs.proofs.EventLemmas.{out_points-same}
use Rattle.cell_index.specs.Index.{Key, key_of, key_cmp, at, counts, holds, total_of, kept_of, IsOwn, IsTotalled}

-- ---- Keys

pub key_cmp-total : IsTotalOrder key_cmp
key_cmp-total = then_total (on_total (λ (k : Key). k.0) nat_list_cmp_total)
    (then_total (on_total (λ (k : Key). k.1.0) nat_list_cmp_total) (on_total (λ (k : Key). k.1.1) nat_cmp_total))

then-eq : (first later : Ordering) → is_eq (ordering_then first later) ≡ (is_eq first && is_eq later)
then-eq Less later = refl
then-eq Equal later = refl
then-eq Greater later = refl

-- two keys are one where lock and out-point are
pub key-is : (lock other : List ℕ) (o p : OutPoint) → is_at (key_cmp (key_of lock o)) (key_of other p) ≡ (bytes_eq lock other && same_out_point o p)
key-is lock other o p =
    then-eq (slice_cmp nat_cmp lock other) (ordering_then (slice_cmp nat_cmp o.tx_hash p.tx_hash) (nat_cmp o.index p.index))
    ∙ ap (λ (b : Bool). b && is_eq (ordering_then (slice_cmp nat_cmp o.tx_hash p.tx_hash) (nat_cmp o.index p.index))) (sym (texts_ties lock other))
    ∙ ap (λ (b : Bool). bytes_eq lock other && b)
    (then-eq (slice_cmp nat_cmp o.tx_hash p.tx_hash) (nat_cmp o.index p.index)
    ∙ ap (λ (b : Bool). b && is_eq (nat_cmp o.index p.index)) (sym (texts_ties o.tx_hash p.tx_hash))
    ∙ ap (λ (b : Bool). bytes_eq o.tx_hash p.tx_hash && b) (sym (unsigned_ties o.index p.index)))

bytes-self : (xs : List ℕ) → bytes_eq xs xs ≡ true
bytes-self xs = (bytes_eq-Decides xs xs).1 refl

bytes-same : (xs ys : List ℕ) → bytes_eq xs ys ≡ true → xs ≡ ys
bytes-same xs ys is = (bytes_eq-Decides xs ys).0 is

-- ---- One row more

pub with-one : (row : Row) (o : OutPoint) (rows : OutPoint → Option Row) (lock : List ℕ) (p : OutPoint) → rows o ≡ None
    → cond (is_at (key_cmp (key_of row.lock_hash o)) (key_of lock p)) (Some row) (of_lock lock (rows p)) ≡ of_lock lock (with_row (o, row) rows p)
with-one row o rows lock p none =
    ap (λ (b : Bool). cond b (Some row) (of_lock lock (rows p))) (key-is row.lock_hash lock o p) ∙ by_point (same_out_point o p) refl
  where
    by_lock : (b : Bool) → cond (b && true) (Some row) None ≡ (if b then Some row else None)
    by_lock true = refl
    by_lock false = refl

    off : (b : Bool) (found : Option Row) → cond (b && false) (Some row) found ≡ found
    off true found = refl
    off false found = refl

    by_point : (b : Bool) → same_out_point o p ≡ b
        → cond (bytes_eq row.lock_hash lock && b) (Some row) (of_lock lock (rows p)) ≡ of_lock lock (if b then Some row else rows p)
    by_point true same =
        ap (λ (found : Option Row). cond (bytes_eq row.lock_hash lock && true) (Some row) (of_lock lock found)) (ap rows (sym (out_points-same o p same)) ∙ none)
        ∙ by_lock (bytes_eq row.lock_hash lock)
    by_point false apart = off (bytes_eq row.lock_hash lock) (of_lock lock (rows p))

-- ---- One row less

-- a row of a lock has its hash
pub lock-of : (lock : List ℕ) (found : Option Row) → IsSome (of_lock lock found) → (row : Row) × (found ≡ Some row) × (row.lock_hash ≡ lock)
lock-of lock None some = absurd (cc)
lock-of lock (Some row) some = by_test (bytes_eq row.lock_hash lock) refl some
  where
    by_test : (b : Bool) → bytes_eq row.lock_hash lock ≡ b → IsSome (if b then Some row else None) → (other : Row) × (Some row ≡ Some other) × (other.lock_hash ≡ lock)
    by_test true is it = (row, refl, bytes-same row.lock_hash lock is)
    by_test false is it = absurd (cc)

pub without-one : (gone lock : List ℕ) (o : OutPoint) (rows : OutPoint → Option Row) (p : OutPoint) → IsSome (of_lock gone (rows o))
    → cond (is_at (key_cmp (key_of gone o)) (key_of lock p)) None (of_lock lock (rows p)) ≡ of_lock lock (without o rows p)
without-one gone lock o rows p some =
    ap (λ (b : Bool). cond b None (of_lock lock (rows p))) (key-is gone lock o p) ∙ by_point (same_out_point o p) refl
  where
    by_lock : (row : Row) (b : Bool) → bytes_eq row.lock_hash lock ≡ b → cond (b && true) None (of_lock lock (Some row)) ≡ None
    by_lock row true is = refl
    by_lock row false is = ap (λ (b : Bool). if b then Some row else None) is

    off : (b : Bool) (found : Option Row) → cond (b && false) None found ≡ found
    off true found = refl
    off false found = refl

    by_point : (b : Bool) → same_out_point o p ≡ b → cond (bytes_eq gone lock && b) None (of_lock lock (rows p)) ≡ of_lock lock (if b then None else rows p)
    by_point true same =
        let it = lock-of gone (rows o) some in
        ap (λ (found : Option Row). cond (bytes_eq gone lock && true) None (of_lock lock found)) (ap rows (sym (out_points-same o p same)) ∙ it.1)
        ∙ ap (λ (l : List ℕ). cond (bytes_eq l lock && true) None (of_lock lock (Some it.0))) (sym it.2)
        ∙ by_lock it.0 (bytes_eq it.0.lock_hash lock) refl
    by_point false apart = off (bytes_eq gone lock) (of_lock lock (rows p))

-- ---- Each at its own

pub own-inserted : (es : List (Key × Row)) (k : Key) (row : Row) → lookup (is_at (key_cmp k)) es ≡ None → AllByRecursion IsOwn es → IsOwn (k, row)
    → AllByRecursion IsOwn (insert_entry key_cmp es k row)
own-inserted [] k row none own one = (one, tt)
own-inserted (e ∷ es) k row none own one = by_order (key_cmp k e.0) refl none (λ later. own-inserted es k row later own.1 one)
  where
    by_order : (order : Ordering) → key_cmp k e.0 ≡ order → cond (is_eq order) (Some e.1) (lookup (is_at (key_cmp k)) es) ≡ None
        → (lookup (is_at (key_cmp k)) es ≡ None → AllByRecursion IsOwn (insert_entry key_cmp es k row))
        → AllByRecursion IsOwn (match_ordering order ((k, row) ∷ e ∷ es) ((e.0, row) ∷ es) (e ∷ insert_entry key_cmp es k row))
    by_order Less is none rest = (one, (own.0, own.1))
    by_order Equal is none rest = absurd (cc)
    by_order Greater is none rest = (own.0, rest none)

pub own-removed : (test : Key → Bool) (es : List (Key × Row)) → AllByRecursion IsOwn es → AllByRecursion IsOwn (remove_entry test es)
own-removed test [] own = tt
own-removed test (e ∷ es) own = by_test (test e.0) (own-removed test es own.1)
  where
    by_test : (b : Bool) → AllByRecursion IsOwn (remove_entry test es) → AllByRecursion IsOwn (cond b es (e ∷ remove_entry test es))
    by_test true rest = own.1
    by_test false rest = (own.0, rest)

pub own-found : (es : List (Key × Row)) (lock : List ℕ) (o : OutPoint) (row : Row) → AllByRecursion IsOwn es → at es lock o ≡ Some row → row.lock_hash ≡ lock
own-found [] lock o row own found = absurd (cc)
own-found (e ∷ es) lock o row own found = by_test (is_at (key_cmp (key_of lock o)) e.0) refl found (own-found es lock o row own.1)
  where
    by_test : (b : Bool) → is_at (key_cmp (key_of lock o)) e.0 ≡ b → cond b (Some e.1) (at es lock o) ≡ Some row → (at es lock o ≡ Some row → row.lock_hash ≡ lock)
        → row.lock_hash ≡ lock
    by_test true is same rest =
        let parts = and_parts (bytes_eq lock e.0.0) (same_out_point o (record { tx_hash = e.0.1.0; index = e.0.1.1 }))
        (sym (key-is lock e.0.0 o (record { tx_hash = e.0.1.0; index = e.0.1.1 })) ∙ is) in
        let one : e.1 ≡ row = cc in
        ap (λ (r : Row). r.lock_hash) (sym one) ∙ own.0.lock ∙ sym (bytes-same lock e.0.0 parts.0)
    by_test false is same rest = rest same

-- ---- What is kept of a lock

pub counts-own : (row : Row) (lock : List ℕ) → row.lock_hash ≡ lock → counts lock row ≡ 1
counts-own row lock is = ap (λ (b : Bool). if b then 1 else 0) (ap (λ (l : List ℕ). bytes_eq l lock) is ∙ bytes-self lock)

pub holds-own : (row : Row) (lock : List ℕ) → row.lock_hash ≡ lock → holds lock row ≡ row.capacity
holds-own row lock is = ap (λ (b : Bool). if b then row.capacity else 0) (ap (λ (l : List ℕ). bytes_eq l lock) is ∙ bytes-self lock)

-- there are no more of a lock than rows
pub count-most : (es : List (Key × Row)) (lock : List ℕ) → sum_by (counts lock) (values_of es) ≤ length es
count-most [] lock = omega arith
count-most (e ∷ es) lock =
    let rest = count-most es lock in
    let one : counts lock e.1 ≤ 1 = at_most (bytes_eq e.1.lock_hash lock) in
    let all : sum_by (counts lock) (values_of (e ∷ es)) ≡ counts lock e.1 + sum_by (counts lock) (values_of es) = sum_by-cons (counts lock) e.1 (values_of es) in
    omega (arith, rest, one, all)
  where
    at_most : (b : Bool) → (if b then 1 else 0) ≤ 1
    at_most true = omega arith
    at_most false = omega arith

-- and each holds a u64 at most
pub holds-bound : (es : List (Key × Row)) (lock : List ℕ) → AllByRecursion IsOwn es
    → sum_by (holds lock) (values_of es) ≤ 18446744073709551615 * sum_by (counts lock) (values_of es)
holds-bound [] lock own = omega arith
holds-bound (e ∷ es) lock own =
    subst (λ (x : ℕ). x ≤ 18446744073709551615 * sum_by (counts lock) (values_of (e ∷ es))) (sym (sum_by-cons (holds lock) e.1 (values_of es)))
    (subst (λ (x : ℕ). holds lock e.1 + sum_by (holds lock) (values_of es) ≤ 18446744073709551615 * x) (sym (sum_by-cons (counts lock) e.1 (values_of es)))
    (by_test (bytes_eq e.1.lock_hash lock) (sum_by (holds lock) (values_of es)) (sum_by (counts lock) (values_of es)) (holds-bound es lock own.1)))
  where
    by_test : (b : Bool) (h n : ℕ) → h ≤ 18446744073709551615 * n → (if b then e.1.capacity else 0) + h ≤ 18446744073709551615 * ((if b then 1 else 0) + n)
    by_test true h n rest = let one = own.0.capacity in omega (arith, rest, one)
    by_test false h n rest = omega (arith, rest)

-- with one row more
pub more-sums : (f : Row → ℕ) (es : List (Key × Row)) (k : Key) (row : Row) → IsStrictlySortedBy key_cmp (keys_of es) → lookup (is_at (key_cmp k)) es ≡ None
    → sum_by f (values_of (insert_entry key_cmp es k row)) ≡ sum_by f (values_of es) + f row
more-sums f es k row sorted none =
    let all = sum_by-insert_entry f key_cmp-total es k row sorted in
    let zeroed : unwrap_or (option_map f (lookup (is_at (key_cmp k)) es)) 0 ≡ 0 = ap (λ (found : Option Row). unwrap_or (option_map f found) 0) none in
    omega (arith, all, zeroed)

-- with one row less
pub less-sums : (f : Row → ℕ) (test : Key → Bool) (es : List (Key × Row)) (row : Row) → lookup test es ≡ Some row
    → sum_by f (values_of (remove_entry test es)) + f row ≡ sum_by f (values_of es)
less-sums f test es row found =
    let all = sum_by-remove_entry f test es in
    let one : unwrap_or (option_map f (lookup test es)) 0 ≡ f row = ap (λ (r : Option Row). unwrap_or (option_map f r) 0) found in
    omega (arith, all, one)

-- a pair by its parts
pub pair-of : (a b c d : ℕ) → a ≡ c → b ≡ d → ◌≡◌ {A = ℕ × ℕ} (a, b) (c, d)
pair-of a b c d one other = ap (λ (x : ℕ). (x, b)) one ∙ ap (λ (y : ℕ). (c, y)) other

-- What is kept of each lock after one row more.
pub kept-more : (es : List (Key × Row)) (row : Row) (k : Key) (old new : List ℕ → ℕ × ℕ) (lock : List ℕ) → IsStrictlySortedBy key_cmp (keys_of es)
    → lookup (is_at (key_cmp k)) es ≡ None → ((l : List ℕ) → old l ≡ total_of l es)
    → new lock ≡ cond (is_eq (slice_cmp nat_cmp row.lock_hash lock)) ((old row.lock_hash).0 + 1, (old row.lock_hash).1 + row.capacity) (old lock)
    → new lock ≡ total_of lock (insert_entry key_cmp es k row)
kept-more es row k old new lock sorted none kept is =
    is ∙ ap (λ (b : Bool). cond b ((old row.lock_hash).0 + 1, (old row.lock_hash).1 + row.capacity) (old lock)) (sym (texts_ties row.lock_hash lock))
    ∙ by_lock (bytes_eq row.lock_hash lock) refl
  where
    count : sum_by (counts lock) (values_of (insert_entry key_cmp es k row)) ≡ sum_by (counts lock) (values_of es) + counts lock row
    count = more-sums (counts lock) es k row sorted none

    capacity : sum_by (holds lock) (values_of (insert_entry key_cmp es k row)) ≡ sum_by (holds lock) (values_of es) + holds lock row
    capacity = more-sums (holds lock) es k row sorted none

    by_lock : (b : Bool) → bytes_eq row.lock_hash lock ≡ b → cond b ((old row.lock_hash).0 + 1, (old row.lock_hash).1 + row.capacity) (old lock) ≡ total_of lock (insert_entry key_cmp es k row)
    by_lock true same =
        let own = bytes-same row.lock_hash lock same in
        ap (λ (l : List ℕ). ((old l).0 + 1, (old l).1 + row.capacity)) own
        ∙ ap (λ (t : ℕ × ℕ). (t.0 + 1, t.1 + row.capacity)) (kept lock)
        ∙ pair-of _ _ _ _ (sym (count ∙ ap (λ (n : ℕ). sum_by (counts lock) (values_of es) + n) (counts-own row lock own)))
        (sym (capacity ∙ ap (λ (n : ℕ). sum_by (holds lock) (values_of es) + n) (holds-own row lock own)))
    by_lock false apart =
        let c0 : counts lock row ≡ 0 = ap (λ (b : Bool). if b then 1 else 0) apart in
        let h0 : holds lock row ≡ 0 = ap (λ (b : Bool). if b then row.capacity else 0) apart in
        kept lock ∙ pair-of _ _ _ _ (omega (arith, count, c0)) (omega (arith, capacity, h0))

-- What is kept of each lock after one row less.
pub kept-less : (es : List (Key × Row)) (row : Row) (test : Key → Bool) (rest : ℕ × ℕ) (old new : List ℕ → ℕ × ℕ) (gone lock : List ℕ)
    → lookup test es ≡ Some row → row.lock_hash ≡ gone → ((l : List ℕ) → old l ≡ total_of l es)
    → (rest.0 + 1 ≡ (old gone).0) → (rest.1 + row.capacity ≡ (old gone).1)
    → new lock ≡ cond (is_eq (slice_cmp nat_cmp gone lock)) rest (old lock) → new lock ≡ total_of lock (remove_entry test es)
kept-less es row test rest old new gone lock found own kept one_less capacity_less is =
    is ∙ ap (λ (b : Bool). cond b rest (old lock)) (sym (texts_ties gone lock)) ∙ by_lock (bytes_eq gone lock) refl
  where
    count : sum_by (counts lock) (values_of (remove_entry test es)) + counts lock row ≡ sum_by (counts lock) (values_of es)
    count = less-sums (counts lock) test es row found

    capacity : sum_by (holds lock) (values_of (remove_entry test es)) + holds lock row ≡ sum_by (holds lock) (values_of es)
    capacity = less-sums (holds lock) test es row found

    by_lock : (b : Bool) → bytes_eq gone lock ≡ b → cond b rest (old lock) ≡ total_of lock (remove_entry test es)
    by_lock true same =
        let one = bytes-same gone lock same in
        let c1 = counts-own row lock (own ∙ one) in
        let h1 = holds-own row lock (own ∙ one) in
        let k0 : (old gone).0 ≡ sum_by (counts lock) (values_of es) = ap (λ (l : List ℕ). (old l).0) one ∙ ap (λ (t : ℕ × ℕ). t.0) (kept lock) in
        let k1 : (old gone).1 ≡ sum_by (holds lock) (values_of es) = ap (λ (l : List ℕ). (old l).1) one ∙ ap (λ (t : ℕ × ℕ). t.1) (kept lock) in
        pair-of rest.0 rest.1 _ _ (omega (arith, count, c1, k0, one_less)) (omega (arith, capacity, h1, k1, capacity_less))
    by_lock false apart =
        let c0 : counts lock row ≡ 0 = ap (λ (b : Bool). if b then 1 else 0) (ap (λ (l : List ℕ). bytes_eq l lock) own ∙ apart) in
        let h0 : holds lock row ≡ 0 = ap (λ (b : Bool). if b then row.capacity else 0) (ap (λ (l : List ℕ). bytes_eq l lock) own ∙ apart) in
        kept lock ∙ pair-of _ _ _ _ (omega (arith, count, c0)) (omega (arith, capacity, h0))

-- ---- An index with one row more, and with one less

-- what is kept of a lock where one is written
kept-written : (totals more : List (List ℕ × (ℕ × ℕ))) (written : Option (ℕ × ℕ)) (at_lock q : List ℕ)
    → lookup (is_at (slice_cmp nat_cmp q)) more ≡ cond (is_eq (slice_cmp nat_cmp at_lock q)) written (lookup (is_at (slice_cmp nat_cmp q)) totals)
    → kept_of q more ≡ cond (is_eq (slice_cmp nat_cmp at_lock q)) (unwrap_or written (0, 0)) (kept_of q totals)
kept-written totals more written at_lock q is =
    ap (λ (found : Option (ℕ × ℕ)). unwrap_or found (0, 0)) is ∙ by_test (is_eq (slice_cmp nat_cmp at_lock q))
  where
    by_test : (b : Bool) → unwrap_or (cond b written (lookup (is_at (slice_cmp nat_cmp q)) totals)) (0, 0)
        ≡ cond b (unwrap_or written (0, 0)) (unwrap_or (lookup (is_at (slice_cmp nat_cmp q)) totals) (0, 0))
    by_test true = refl
    by_test false = refl

pub totalled-more : (es new : List (Key × Row)) (totals more : List (List ℕ × (ℕ × ℕ))) (o : OutPoint) (row : Row) (total : ℕ × ℕ) → IsTotalled es totals
    → at es row.lock_hash o ≡ None → new ≡ insert_entry key_cmp es (key_of row.lock_hash o) row → IsStrictlySortedBy key_cmp (keys_of new)
    → IsOwn (key_of row.lock_hash o, row) → total ≡ total_of row.lock_hash es
    → ((q : List ℕ) → lookup (is_at (slice_cmp nat_cmp q)) more
    ≡ cond (is_eq (slice_cmp nat_cmp row.lock_hash q)) (Some (total.0 + 1, total.1 + row.capacity)) (lookup (is_at (slice_cmp nat_cmp q)) totals))
    → IsTotalled new more
totalled-more es new totals more o row total it none is sorted own same written = record {
  ordered = sorted;
  own = subst (λ (l : List (Key × Row)). AllByRecursion IsOwn l) (sym is) (own-inserted es (key_of row.lock_hash o) row none it.own own);
  kept = λ lock. kept-more es row (key_of row.lock_hash o) (λ l. kept_of l totals) (λ l. kept_of l more) lock it.ordered none it.kept
      (kept-written totals more (Some (total.0 + 1, total.1 + row.capacity)) row.lock_hash lock (written lock)
      ∙ ap (λ (t : ℕ × ℕ). cond (is_eq (slice_cmp nat_cmp row.lock_hash lock)) (t.0 + 1, t.1 + row.capacity) (kept_of lock totals)) (same ∙ sym (it.kept row.lock_hash)))
      ∙ ap (total_of lock) (sym is);
}

pub totalled-less : (es new : List (Key × Row)) (totals fewer : List (List ℕ × (ℕ × ℕ))) (lock : List ℕ) (o : OutPoint) (row : Row) (written : Option (ℕ × ℕ))
    → IsTotalled es totals → at es lock o ≡ Some row → new ≡ remove_entry (is_at (key_cmp (key_of lock o))) es → IsStrictlySortedBy key_cmp (keys_of new)
    → ((unwrap_or written (0, 0)).0 + 1 ≡ (total_of lock es).0) → ((unwrap_or written (0, 0)).1 + row.capacity ≡ (total_of lock es).1)
    → ((q : List ℕ) → lookup (is_at (slice_cmp nat_cmp q)) fewer ≡ cond (is_eq (slice_cmp nat_cmp lock q)) written (lookup (is_at (slice_cmp nat_cmp q)) totals))
    → IsTotalled new fewer
totalled-less es new totals fewer lock o row written it found is sorted count capacity writes = record {
  ordered = sorted;
  own = subst (λ (l : List (Key × Row)). AllByRecursion IsOwn l) (sym is) (own-removed (is_at (key_cmp (key_of lock o))) es it.own);
  kept = λ q. kept-less es row (is_at (key_cmp (key_of lock o))) (unwrap_or written (0, 0)) (λ l. kept_of l totals) (λ l. kept_of l fewer) lock q found
      (own-found es lock o row it.own found) it.kept
      (count ∙ ap (λ (t : ℕ × ℕ). t.0) (sym (it.kept lock))) (capacity ∙ ap (λ (t : ℕ × ℕ). t.1) (sym (it.kept lock)))
      (kept-written totals fewer written lock q (writes q))
      ∙ ap (total_of q) (sym is);
}

-- What is counted fits its types, also with one more.
pub record FitsMore (es : List (Key × Row)) (lock : List ℕ) : Type 0 where
  pub count : sum_by (counts lock) (values_of es) < 2 ^ 63
  pub capacity : sum_by (holds lock) (values_of es) + 18446744073709551615 < 2 ^ 128

pub fits-more : (es : List (Key × Row)) (lock : List ℕ) → AllByRecursion IsOwn es → length es < 2 ^ 63 → FitsMore es lock
fits-more es lock own few =
    let counted = count-most es lock in
    let held = holds-bound es lock own in
    record { count = omega (arith, counted, few); capacity = omega (arith, counted, few, held) }

-- A row that is there counts, with what it holds; alone it holds all.
pub record CountsIn (es : List (Key × Row)) (lock : List ℕ) (row : Row) : Type 0 where
  pub some : 0 < sum_by (counts lock) (values_of es)
  pub held : row.capacity ≤ sum_by (holds lock) (values_of es)
  pub alone : sum_by (counts lock) (values_of es) ≡ 1 → sum_by (holds lock) (values_of es) ≡ row.capacity

pub counts-in : (es : List (Key × Row)) (lock : List ℕ) (o : OutPoint) (row : Row) → AllByRecursion IsOwn es → at es lock o ≡ Some row → CountsIn es lock row
counts-in es lock o row own found =
    let its_lock = own-found es lock o row own found in
    let count = less-sums (counts lock) (is_at (key_cmp (key_of lock o))) es row found in
    let capacity = less-sums (holds lock) (is_at (key_cmp (key_of lock o))) es row found in
    let one = counts-own row lock its_lock in
    let held = holds-own row lock its_lock in
    let bound = holds-bound (remove_entry (is_at (key_cmp (key_of lock o))) es) lock (own-removed (is_at (key_cmp (key_of lock o))) es own) in
    record {
      some = omega (arith, count, one);
      held = omega (arith, capacity, held);
      alone = λ is. omega (arith, count, capacity, one, held, bound, is);
    }

-- what is not there is none
pub not-there : {X : Type 0} (found : Option X) → is_some found ≡ false → found ≡ None
not-there None is = refl
not-there (Some x) is = absurd (cc)
