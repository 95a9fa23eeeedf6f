-- Rows that are listed once each, and what those of one lock come to as rows come and go.
use Rattle.std.proofs.Common.{◌≡◌, ℕ, ◌+◌, ◌<◌, ⊎_elim, Bool, true, false, List, [], ◌∷◌, length, get_or, Option, Some, None, is_some, if◌then◌else◌, refl, sym, ap, ◌∙◌, subst, arith}
use Rattle.std.specs.Prelude.{⊤, IsTrue, not}
use Rattle.std.specs.List.{AllPairs, Contains, filter, sum_by}
use Rattle.std.specs.Str.{bytes_eq}
use Rattle.std.proofs.lemmas.List.Kept.{AllPairs-cons}
use Rattle.std.proofs.lemmas.List.Sums.{sum_by-cons}
use Rattle.std.proofs.lemmas.Option.{slice_get-get_or, get_or_from_slice_get}
use Rattle.chain_defs.specs.Schema.{OutPoint}
use Rattle.chain_defs.specs.Events.{same_out_point}
use Rattle.chain_defs.specs.Row.{Row, ListsRows}
use Rattle.chain_defs.specs.Undo.{without, with_row, with_rows, first_live}
use Rattle.chain_defs.specs.ByLock.{of_lock}
use Rattle.chain_defs.proofs.ByLockLaws.{here, there, cons-of, IsApart, rising-apart}
use Rattle.chain_defs.proofs.EventLemmas.{out_points-same}
use Rattle.chain_defs.proofs.NamingLemmas.{out_point-self, true-false}
use Rattle.cell_index.specs.Index.{without_all}
use Rattle.cell_index.specs.Balance.{is_of}
use Rattle.cell_index.proofs.RowLists.{Covers, head-apart, tail-apart}
use Rattle.cell_index.proofs.LoopLemmas.{free-parts}
use Rattle.cell_index.proofs.OfLockLemmas.{part}

-- Just the rows that there are, each once.
pub record Lists (rows : OutPoint → Option Row) (list : List (OutPoint × Row)) : Type 0 where
  pub once : AllPairs IsApart list
  pub each : Covers rows list

pub of-rising : (rows : OutPoint → Option Row) (list : List (OutPoint × Row)) → ListsRows rows list → Lists rows list
of-rising rows list lists = record { once = rising-apart list lists.rising; each = lists.each }

pub same-lists : (f g : OutPoint → Option Row) (list : List (OutPoint × Row)) → ((o : OutPoint) → f o ≡ g o) → Lists f list → Lists g list
same-lists f g list same lists = record {
  once = lists.once;
  each = λ o row. (λ has. sym (same o) ∙ (lists.each o row).0 has, λ is. (lists.each o row).1 (same o ∙ is));
}

no-row : (row : Row) → ◌≡◌ {A = Option Row} None (Some row) → ⊥
no-row row same = cc

one-row : (row other : Row) → Some row ≡ Some other → row ≡ other
one-row row other same = cc

-- one more
cons-lists : (one : OutPoint × Row) (list : List (OutPoint × Row)) (f : OutPoint → Option Row) → f one.0 ≡ None → Lists f list → Lists (with_row one f) (one ∷ list)
cons-lists one list f free lists = record {
  once = AllPairs-cons IsApart one list (λ k d within. apart (get_or list k d).0 (get_or list k d).1 (at k d within)) lists.once;
  each = λ o row. (λ has. into o row has, λ is. by_test o row (same_out_point one.0 o) refl is);
}
  where
    at : (k : ℕ) (d : OutPoint × Row) → k < length list → Contains list (get_or list k d)
    at k d within = (k, within, get_or_from_slice_get list k (get_or list k d) (get_or list k d) (slice_get-get_or list k d within))

    apart : (o : OutPoint) (row : Row) → Contains list (o, row) → same_out_point one.0 o ≡ false
    apart o row has = by_same (same_out_point one.0 o) refl
      where
        by_same : (b : Bool) → same_out_point one.0 o ≡ b → b ≡ false
        by_same false is = refl
        by_same true is = absurd (no-row row (sym free ∙ ap f (out_points-same one.0 o is) ∙ (lists.each o row).0 has))

    into : (o : OutPoint) (row : Row) → Contains (one ∷ list) (o, row) → with_row one f o ≡ Some row
    into o row has = ⊎_elim
        (λ same. ap (λ (b : Bool). if b then Some one.1 else f o) (ap (same_out_point one.0) (sym (ap (λ (x : OutPoint × Row). x.0) same)) ∙ out_point-self one.0)
        ∙ ap (λ (x : OutPoint × Row). Some x.1) same)
        (λ later. ap (λ (b : Bool). if b then Some one.1 else f o) (apart o row later) ∙ (lists.each o row).0 later)
        (cons-of one list (o, row) has)

    by_test : (o : OutPoint) (row : Row) (b : Bool) → same_out_point one.0 o ≡ b → (if b then Some one.1 else f o) ≡ Some row → Contains (one ∷ list) (o, row)
    by_test o row true same is =
        subst (λ (x : OutPoint × Row). Contains (one ∷ list) x)
        (ap (λ (p : OutPoint). (p, one.1)) (out_points-same one.0 o same) ∙ ap (λ (r : Row). (o, r)) (one-row one.1 row is)) (here one list)
    by_test o row false same is = there one list (o, row) ((lists.each o row).1 is)

-- one less, at the head
tail-lists : (one : OutPoint × Row) (later : List (OutPoint × Row)) (f : OutPoint → Option Row) → Lists f (one ∷ later) → Lists (without one.0 f) later
tail-lists one later f lists = record {
  once = tail-apart one later lists.once;
  each = λ o row. (
    λ has. ap (λ (b : Bool). if b then None else f o) (head-apart one later o row lists.once has) ∙ (lists.each o row).0 (there one later (o, row) has),
    λ is. by_test o row (same_out_point one.0 o) refl is,
  );
}
  where
    by_test : (o : OutPoint) (row : Row) (b : Bool) → same_out_point one.0 o ≡ b → (if b then None else f o) ≡ Some row → Contains later (o, row)
    by_test o row true same is = absurd (no-row row is)
    by_test o row false same is = ⊎_elim
        (λ head. absurd (true-false (same_out_point one.0 o) (ap (same_out_point one.0) (sym (ap (λ (x : OutPoint × Row). x.0) head)) ∙ out_point-self one.0) same))
        (λ behind. behind) (cons-of one later (o, row) ((lists.each o row).1 is))

head-row : (one : OutPoint × Row) (later : List (OutPoint × Row)) (f : OutPoint → Option Row) → Lists f (one ∷ later) → f one.0 ≡ Some one.1
head-row one later f lists = (lists.each one.0 one.1).0 (here one later)

-- Without one of them.
record Less (f : OutPoint → Option Row) (o : OutPoint) (row : Row) (list : List (OutPoint × Row)) : Type 0 where
  rest : List (OutPoint × Row)
  lists : Lists (without o f) rest
  sum : (number : OutPoint × Row → ℕ) → sum_by number list ≡ number (o, row) + sum_by number rest

less-one : (f : OutPoint → Option Row) (o : OutPoint) (row : Row) (list : List (OutPoint × Row)) → f o ≡ Some row → Lists f list → Less f o row list
less-one f o row [] is lists = absurd (none ((lists.each o row).1 is))
  where
    none : Contains {X = OutPoint × Row} [] (o, row) → ⊥
    none (k, lt, same) = omega (arith, lt)
less-one f o row (one ∷ later) is lists =
    by_test (same_out_point one.0 o) refl (λ there_still. less-one (without one.0 f) o row later there_still (tail-lists one later f lists))
  where
    by_test : (b : Bool) → same_out_point one.0 o ≡ b → (without one.0 f o ≡ Some row → Less (without one.0 f) o row later) → Less f o row (one ∷ later)
    by_test true same behind =
        let point = out_points-same one.0 o same in
        let own : one.1 ≡ row = one-row one.1 row (sym (head-row one later f lists) ∙ ap f point ∙ is) in
        record {
          rest = later;
          lists = subst (λ (p : OutPoint). Lists (without p f) later) point (tail-lists one later f lists);
          sum = λ number. sum_by-cons number one later
              ∙ ap (λ (x : OutPoint × Row). number x + sum_by number later) (ap (λ (p : OutPoint). (p, one.1)) point ∙ ap (λ (r : Row). (o, r)) own);
        }
    by_test false apart behind =
        let less = behind (ap (λ (b : Bool). if b then None else f o) apart ∙ is) in
        record {
          rest = one ∷ less.rest;
          lists = same-lists (with_row one (without o (without one.0 f))) (without o f) (one ∷ less.rest) back
              (cons-lists one less.rest (without o (without one.0 f)) gone less.lists);
          sum = λ number.
              let all = sum_by-cons number one later in
              let some = sum_by-cons number one less.rest in
              let rest = less.sum number in
              omega (arith, all, some, rest);
        }
      where
        gone : without o (without one.0 f) one.0 ≡ None
        gone = ap (λ (b : Bool). if same_out_point o one.0 then None else (if b then None else f one.0)) (out_point-self one.0) ∙ either (same_out_point o one.0)
          where
            either : (b : Bool) → ◌≡◌ {A = Option Row} (if b then None else None) None
            either true = refl
            either false = refl

        back : (p : OutPoint) → with_row one (without o (without one.0 f)) p ≡ without o f p
        back p = by_head (same_out_point one.0 p) refl
          where
            other : (b : Bool) → same_out_point o one.0 ≡ b → b ≡ false
            other false it = refl
            other true it = absurd (true-false (same_out_point one.0 o) (ap (same_out_point one.0) (out_points-same o one.0 it) ∙ out_point-self one.0) apart)

            by_head : (b : Bool) → same_out_point one.0 p ≡ b → (if b then Some one.1 else (if same_out_point o p then None else (if b then None else f p))) ≡ without o f p
            by_head true it =
                let point = out_points-same one.0 p it in
                sym (ap (λ (c : Bool). if c then None else f p) (ap (same_out_point o) (sym point) ∙ other (same_out_point o one.0) refl)
                ∙ ap f (sym point) ∙ head-row one later f lists)
            by_head false it = refl

-- Whatever the order, they come to the same.
pub sums-once : (f : OutPoint → Option Row) (one other : List (OutPoint × Row)) → Lists f one → Lists f other → (number : OutPoint × Row → ℕ)
    → sum_by number one ≡ sum_by number other
sums-once f [] [] lists others number = refl
sums-once f [] (x ∷ other) lists others number = absurd (none ((lists.each x.0 x.1).1 (head-row x other f others)))
  where
    none : Contains {X = OutPoint × Row} [] x → ⊥
    none (k, lt, same) = omega (arith, lt)
sums-once f (x ∷ one) other lists others number =
    let less = less-one f x.0 x.1 other (head-row x one f lists) others in
    let all = sum_by-cons number x one in
    let some : sum_by number other ≡ number x + sum_by number less.rest = less.sum number in
    let rest = sums-once (without x.0 f) one less.rest (tail-lists x one f lists) less.lists number in
    omega (arith, all, some, rest)

-- ---- Those of one lock

abbrev pub under_lock : List ℕ → (OutPoint → Option Row) → OutPoint → Option Row
under_lock lock rows o = of_lock lock (rows o)

-- A list of those of the rows as they are then, and what it comes to beside one from before.
pub record Comes (lock : List ℕ) (rows : OutPoint → Option Row) (list : List (OutPoint × Row)) (gone come : (OutPoint × Row → ℕ) → ℕ) : Type 0 where
  pub now : List (OutPoint × Row)
  pub lists : Lists (under_lock lock rows) now
  pub sum : (number : OutPoint × Row → ℕ) → sum_by number now + gone number ≡ sum_by number list + come number

abbrev pub nothing : (OutPoint × Row → ℕ) → ℕ
nothing number = 0

abbrev pub one_of : List ℕ → OutPoint × Row → (OutPoint × Row → ℕ) → ℕ
one_of lock one number = part (is_of lock) number one

pub with-one-of : (lock : List ℕ) (one : OutPoint × Row) (rows : OutPoint → Option Row) (list : List (OutPoint × Row)) → rows one.0 ≡ None
    → Lists (under_lock lock rows) list → Comes lock (with_row one rows) list nothing (one_of lock one)
with-one-of lock one rows list free lists = by_lock (is_of lock one) refl
  where
    by_lock : (b : Bool) → is_of lock one ≡ b → Comes lock (with_row one rows) list nothing (λ number. if b then number one else 0)
    by_lock true own = record {
      now = one ∷ list;
      lists = same-lists (with_row one (under_lock lock rows)) (under_lock lock (with_row one rows)) (one ∷ list) same
          (cons-lists one list (under_lock lock rows) (ap (of_lock lock) free) lists);
      sum = λ number. let all = sum_by-cons number one list in omega (arith, all);
    }
      where
        same : (o : OutPoint) → with_row one (under_lock lock rows) o ≡ under_lock lock (with_row one rows) o
        same o = by_point (same_out_point one.0 o)
          where
            by_point : (b : Bool) → (if b then Some one.1 else of_lock lock (rows o)) ≡ of_lock lock (if b then Some one.1 else rows o)
            by_point true = sym (ap (λ (c : Bool). if c then Some one.1 else None) own)
            by_point false = refl
    by_lock false other = record {
      now = list;
      lists = same-lists (under_lock lock rows) (under_lock lock (with_row one rows)) list same lists;
      sum = λ number. refl;
    }
      where
        same : (o : OutPoint) → under_lock lock rows o ≡ under_lock lock (with_row one rows) o
        same o = by_point (same_out_point one.0 o) refl
          where
            by_point : (b : Bool) → same_out_point one.0 o ≡ b → of_lock lock (rows o) ≡ of_lock lock (if b then Some one.1 else rows o)
            by_point true at =
                ap (of_lock lock) (ap rows (sym (out_points-same one.0 o at)) ∙ free) ∙ sym (ap (λ (c : Bool). if c then Some one.1 else None) other)
            by_point false at = refl

pub without-one-of : (lock : List ℕ) (one : OutPoint × Row) (rows : OutPoint → Option Row) (list : List (OutPoint × Row)) → rows one.0 ≡ Some one.1
    → Lists (under_lock lock rows) list → Comes lock (without one.0 rows) list (one_of lock one) nothing
without-one-of lock one rows list is lists = by_lock (is_of lock one) refl
  where
    found : (b : Bool) → is_of lock one ≡ b → under_lock lock rows one.0 ≡ (if b then Some one.1 else None)
    found b test = ap (of_lock lock) is ∙ ap (λ (c : Bool). if c then Some one.1 else None) test

    by_lock : (b : Bool) → is_of lock one ≡ b → Comes lock (without one.0 rows) list (λ number. if b then number one else 0) nothing
    by_lock true own =
        let less = less-one (under_lock lock rows) one.0 one.1 list (found true own) lists in
        record {
          now = less.rest;
          lists = same-lists (without one.0 (under_lock lock rows)) (under_lock lock (without one.0 rows)) less.rest same less.lists;
          sum = λ number. let all : sum_by number list ≡ number one + sum_by number less.rest = less.sum number in omega (arith, all);
        }
      where
        same : (o : OutPoint) → without one.0 (under_lock lock rows) o ≡ under_lock lock (without one.0 rows) o
        same o = by_point (same_out_point one.0 o)
          where
            by_point : (b : Bool) → (if b then None else of_lock lock (rows o)) ≡ of_lock lock (if b then None else rows o)
            by_point true = refl
            by_point false = refl
    by_lock false other = record {
      now = list;
      lists = same-lists (under_lock lock rows) (under_lock lock (without one.0 rows)) list same lists;
      sum = λ number. refl;
    }
      where
        same : (o : OutPoint) → under_lock lock rows o ≡ under_lock lock (without one.0 rows) o
        same o = by_point (same_out_point one.0 o) refl
          where
            by_point : (b : Bool) → same_out_point one.0 o ≡ b → of_lock lock (rows o) ≡ of_lock lock (if b then None else rows o)
            by_point true at = ap (under_lock lock rows) (sym (out_points-same one.0 o at)) ∙ found false other
            by_point false at = refl

-- ---- Rows that come or go one after the other

abbrev pub all_of : List ℕ → List (OutPoint × Row) → (OutPoint × Row → ℕ) → ℕ
all_of lock list number = sum_by (part (is_of lock) number) list

pub with-all-of : (lock : List ℕ) (come : List (OutPoint × Row)) (rows : OutPoint → Option Row) (list : List (OutPoint × Row)) → first_live come rows ≡ None
    → Lists (under_lock lock rows) list → Comes lock (with_rows come rows) list nothing (all_of lock come)
with-all-of lock [] rows list free lists = record { now = list; lists = lists; sum = λ number. refl }
with-all-of lock (one ∷ later) rows list free lists =
    let parts = free-parts one later rows free in
    let first = with-one-of lock one rows list parts.0 lists in
    let rest = with-all-of lock later (with_row one rows) first.now parts.1 first.lists in
    record {
      now = rest.now;
      lists = rest.lists;
      sum = λ number.
          let now : sum_by number first.now + 0 ≡ sum_by number list + one_of lock one number = first.sum number in
          let behind : sum_by number rest.now + 0 ≡ sum_by number first.now + all_of lock later number = rest.sum number in
          let both : all_of lock (one ∷ later) number ≡ one_of lock one number + all_of lock later number = sum_by-cons (part (is_of lock) number) one later in
          omega (arith, now, behind, both);
    }

-- Each of these, when it is its turn to go, is there as it is.
abbrev pub AreJust : List (OutPoint × Row) → (OutPoint → Option Row) → Type 0
AreJust [] rows = ⊤
AreJust (one ∷ later) rows = (rows one.0 ≡ Some one.1) × AreJust later (without one.0 rows)

pub are-just : (list : List (OutPoint × Row)) (rows : OutPoint → Option Row) → AllPairs IsApart list
    → ((o : OutPoint) (row : Row) → Contains list (o, row) → rows o ≡ Some row) → AreJust list rows
are-just [] rows apart each = tt
are-just (one ∷ later) rows apart each = (
  each one.0 one.1 (here one later),
  are-just later (without one.0 rows) (tail-apart one later apart)
      (λ o row has. ap (λ (b : Bool). if b then None else rows o) (head-apart one later o row apart has) ∙ each o row (there one later (o, row) has)),
)

pub without-all-of : (lock : List ℕ) (gone : List (OutPoint × Row)) (rows : OutPoint → Option Row) (list : List (OutPoint × Row)) → AreJust gone rows
    → Lists (under_lock lock rows) list → Comes lock (without_all gone rows) list (all_of lock gone) nothing
without-all-of lock [] rows list just lists = record { now = list; lists = lists; sum = λ number. refl }
without-all-of lock (one ∷ later) rows list just lists =
    let first = without-one-of lock one rows list just.0 lists in
    let rest = without-all-of lock later (without one.0 rows) first.now just.1 first.lists in
    record {
      now = rest.now;
      lists = rest.lists;
      sum = λ number.
          let now : sum_by number first.now + one_of lock one number ≡ sum_by number list + 0 = first.sum number in
          let behind : sum_by number rest.now + all_of lock later number ≡ sum_by number first.now + 0 = rest.sum number in
          let both : all_of lock (one ∷ later) number ≡ one_of lock one number + all_of lock later number = sum_by-cons (part (is_of lock) number) one later in
          omega (arith, now, behind, both);
    }
