-- The list of the cells of one lock: it has just their rows, in rising order, and no other list has.
use Rattle.std.proofs.Common.{◌≡◌, ℕ, zero, suc, ◌<◌, ◌⊎◌, inl, inr, ⊎_elim, Bool, true, false, List, [], ◌∷◌, length, map, get_or, Option, Some, None, if◌then◌else◌, refl, sym, ap, ◌∙◌, subst, arith}
use Rattle.std.specs.Prelude.{⊤, ◌↔◌}
use Rattle.std.specs.Option.{option_map}
use Rattle.std.specs.List.{AllByRecursion, AllPairs, Contains, IsDistinct, filter}
use Rattle.std.specs.BTreeMap.{insert_entry}
use Rattle.std.specs.Str.{bytes_eq}
use Rattle.std.specs.declared.cmp.Ordering.{Ordering}
use Rattle.std.specs.declared.cmp.Ordering.TheVariants.{Less, Equal, Greater}
use Rattle.std.specs.Ordering.{match_ordering, nat_cmp, ordering_reverse, ordering_then}
use Rattle.std.specs.Cmp.{IsTotalOrder, on_total, then_total, nat_cmp_total}
use Rattle.std.specs.Cmp.Lexicographic.{slice_cmp, nat_list_cmp_total}
use Rattle.std.proofs.lemmas.Cmp.{tied_itself}
use Rattle.std.proofs.lemmas.Map.Lookups.{exact_bytes, exact_unsigned}
use Rattle.std.proofs.lemmas.List.Kept.{AllPairs-cons}
use Rattle.chain_defs.specs.Schema.{OutPoint, Block}
use Rattle.chain_defs.specs.Branch.{branch}
use Rattle.chain_defs.specs.Cell.{Cell, script_hash}
use Rattle.chain_defs.specs.Events.{Event, same_out_point, cell_after, events}
use Rattle.chain_defs.specs.Row.{Row, row_on, live_row, out_point_cmp, IsRising, ListsRows}
use Rattle.chain_defs.specs.LiveCells.{live_cells}
use Rattle.chain_defs.specs.ByLock.{has_lock, with_row_on, in_order, cells_by_lock, of_lock, IsByLock, ListsByLock}
use Rattle.chain_defs.proofs.EventLemmas.{out_points-same}
use Rattle.chain_defs.proofs.NamingLemmas.{out_point-self, true-false}
use Rattle.chain_defs.proofs.LiveLaws.{lists-just-the-live, lists-each-once}

-- ---- Elements

pub here : {X : Type 0} (x : X) (xs : List X) → Contains (x ∷ xs) x
here x xs = (0, omega arith, refl)

pub there : {X : Type 0} (x : X) (xs : List X) (y : X) → Contains xs y → Contains (x ∷ xs) y
there x xs y (k, lt, is) = (suc k, omega (arith, lt), is)

pub cons-of : {X : Type 0} (x : X) (xs : List X) (y : X) → Contains (x ∷ xs) y → (x ≡ y) ⊎ Contains xs y
cons-of x xs y (zero, lt, is) = inl is
cons-of x xs y (suc k, lt, is) = inr (k, omega (arith, lt), is)

nothing-in : {X : Type 0} (x : X) → Contains [] x → ⊥
nothing-in x (k, lt, is) = omega (arith, lt)

at-place : {X : Type 0} (xs : List X) (k : ℕ) (d : X) → k < length xs → Contains xs (get_or xs k d)
at-place [] k d lt = absurd (omega (arith, lt))
at-place (x ∷ xs) zero d lt = here x xs
at-place (x ∷ xs) (suc k) d lt = there x xs (get_or xs k d) (at-place xs k d (omega (arith, lt)))

-- ---- The order of out-points

pub out-points-total : IsTotalOrder out_point_cmp
out-points-total = then_total (on_total (λ (o : OutPoint). o.tx_hash) nat_list_cmp_total) (on_total (λ (o : OutPoint). o.index) nat_cmp_total)

less-equal : Less ≡ Equal → ⊥
less-equal is = cc

-- no out-point is before itself, and of two only one is before the other
not-itself : (o : OutPoint) → out_point_cmp o o ≡ Less → ⊥
not-itself o less = less-equal (sym less ∙ tied_itself out-points-total o)

not-both : (one other : OutPoint) → out_point_cmp one other ≡ Less → out_point_cmp other one ≡ Less → ⊥
not-both one other before after = not-itself one (out-points-total.trans one other one before after)

after-greater : (one other : OutPoint) → out_point_cmp one other ≡ Greater → out_point_cmp other one ≡ Less
after-greater one other is = out-points-total.antisymm other one ∙ ap ordering_reverse is

-- ---- Rising rows

-- two rows are not of one out-point
abbrev pub IsApart : OutPoint × Row → OutPoint × Row → Type 0
IsApart one other = same_out_point one.0 other.0 ≡ false

less-apart : (one other : OutPoint) (b : Bool) → out_point_cmp one other ≡ Less → same_out_point one other ≡ b → b ≡ false
less-apart one other false less is = refl
less-apart one other true less is =
    absurd (not-itself one (ap (λ (o : OutPoint). out_point_cmp one o) (out_points-same one other is) ∙ less))

pub rising-apart : (list : List (OutPoint × Row)) → IsRising list → AllPairs IsApart list
rising-apart list rising i j d before within = less-apart (get_or list i d).0 (get_or list j d).0 _ (rising i j d before within) refl

pub head-less : (one : OutPoint × Row) (later : List (OutPoint × Row)) (it : OutPoint × Row) → IsRising (one ∷ later) → Contains later it
    → out_point_cmp one.0 it.0 ≡ Less
head-less one later it rising (k, lt, is) =
    subst (λ (x : OutPoint × Row). out_point_cmp one.0 x.0 ≡ Less) is (rising 0 (suc k) it (omega arith) (omega (arith, lt)))

tail-rising : (one : OutPoint × Row) (later : List (OutPoint × Row)) → IsRising (one ∷ later) → IsRising later
tail-rising one later rising i j d before within = rising (suc i) (suc j) d (omega (arith, before)) (omega (arith, within))

pub cons-rising : (one : OutPoint × Row) (later : List (OutPoint × Row)) → ((it : OutPoint × Row) → Contains later it → out_point_cmp one.0 it.0 ≡ Less)
    → IsRising later → IsRising (one ∷ later)
cons-rising one later less rising =
    AllPairs-cons (λ (x y : OutPoint × Row). out_point_cmp x.0 y.0 ≡ Less) one later (λ k d within. less (get_or later k d) (at-place later k d within)) rising

-- ---- One that comes into its place

-- no out-point of the rows is this
abbrev AreOther : OutPoint → List (OutPoint × Row) → Type 0
AreOther o list = (it : OutPoint × Row) → Contains list it → same_out_point o it.0 ≡ false

abbrev placed : Ordering → OutPoint × Row → OutPoint × Row → List (OutPoint × Row) → List (OutPoint × Row) → List (OutPoint × Row)
placed order one first later rest = match_ordering order (one ∷ first ∷ later) ((first.0, one.1) ∷ later) (first ∷ rest)

greater-is-equal : Greater ≡ Equal → ⊥
greater-is-equal is = cc

then-equal : (first later : Ordering) → ordering_then first later ≡ Equal → (first ≡ Equal) × (later ≡ Equal)
then-equal Less later is = absurd (less-equal is)
then-equal Equal later is = (refl, is)
then-equal Greater later is = absurd (greater-is-equal is)

equal-same : (one other : OutPoint) → out_point_cmp one other ≡ Equal → one ≡ other
equal-same one other is =
    let parts = then-equal (slice_cmp nat_cmp one.tx_hash other.tx_hash) (nat_cmp one.index other.index) is in
    ap (λ (h : List ℕ). record { tx_hash = h; index = one.index }) (exact_bytes one.tx_hash other.tx_hash parts.0)
    ∙ ap (λ (n : ℕ). record { tx_hash = other.tx_hash; index = n }) (exact_unsigned one.index other.index parts.1)

never-equal : (o : OutPoint) (first : OutPoint × Row) (later : List (OutPoint × Row)) → AreOther o (first ∷ later) → out_point_cmp o first.0 ≡ Equal → ⊥
never-equal o first later other is =
    true-false (same_out_point o first.0) (ap (same_out_point o) (sym (equal-same o first.0 is)) ∙ out_point-self o) (other first (here first later))

other-later : (o : OutPoint) (first : OutPoint × Row) (later : List (OutPoint × Row)) → AreOther o (first ∷ later) → AreOther o later
other-later o first later other it has = other it (there first later it has)

-- it is there, and so are the others
record HasPlaced (one : OutPoint × Row) (list placed_list : List (OutPoint × Row)) : Type 0 where
  back : (it : OutPoint × Row) → Contains placed_list it → (one ≡ it) ⊎ Contains list it
  one_in : Contains placed_list one
  rest_in : (it : OutPoint × Row) → Contains list it → Contains placed_list it
  rises : IsRising list → IsRising placed_list

placed-by : (one first : OutPoint × Row) (later rest : List (OutPoint × Row)) (order : Ordering) → out_point_cmp one.0 first.0 ≡ order
    → AreOther one.0 (first ∷ later) → HasPlaced one later rest → HasPlaced one (first ∷ later) (placed order one first later rest)
placed-by one first later rest Less is other behind = record {
  back = λ it has. cons-of one (first ∷ later) it has;
  one_in = here one (first ∷ later);
  rest_in = λ it has. there one (first ∷ later) it has;
  rises = λ rising. cons-rising one (first ∷ later)
      (λ it has. ⊎_elim (λ same. subst (λ (x : OutPoint × Row). out_point_cmp one.0 x.0 ≡ Less) same is)
      (λ in_later. out-points-total.trans one.0 first.0 it.0 is (head-less first later it rising in_later)) (cons-of first later it has))
      rising;
}
placed-by one first later rest Equal is other behind = absurd (never-equal one.0 first later other is)
placed-by one first later rest Greater is other behind = record {
  back = λ it has. ⊎_elim (λ same. inr (subst (λ (x : OutPoint × Row). Contains (first ∷ later) x) same (here first later)))
      (λ in_rest. ⊎_elim (λ same. inl same) (λ in_later. inr (there first later it in_later)) (behind.back it in_rest)) (cons-of first rest it has);
  one_in = there first rest one behind.one_in;
  rest_in = λ it has. ⊎_elim (λ same. subst (λ (x : OutPoint × Row). Contains (first ∷ rest) x) same (here first rest))
      (λ in_later. there first rest it (behind.rest_in it in_later)) (cons-of first later it has);
  rises = λ rising. cons-rising first rest
      (λ it has. ⊎_elim (λ same. subst (λ (x : OutPoint × Row). out_point_cmp first.0 x.0 ≡ Less) same (after-greater one.0 first.0 is))
      (λ in_later. head-less first later it rising in_later) (behind.back it has))
      (behind.rises (tail-rising first later rising));
}

pub none-rises : IsRising []
none-rises i j d before within = absurd (omega (arith, within))

one-rises : (one : OutPoint × Row) → IsRising (one ∷ [])
one-rises one = cons-rising one [] (λ it has. absurd (nothing-in it has)) none-rises

in-place : (one : OutPoint × Row) (list : List (OutPoint × Row)) → AreOther one.0 list → HasPlaced one list (insert_entry out_point_cmp list one.0 one.1)
in-place one [] other = record {
  back = λ it has. cons-of one [] it has;
  one_in = here one [];
  rest_in = λ it has. absurd (nothing-in it has);
  rises = λ rising. one-rises one;
}
in-place one (first ∷ later) other =
    placed-by one first later (insert_entry out_point_cmp later one.0 one.1) (out_point_cmp one.0 first.0) refl other
    (in-place one later (other-later one.0 first later other))

-- ---- All in order

-- No out-point comes twice.
abbrev AreOnce : List (OutPoint × Row) → Type 0
AreOnce [] = ⊤
AreOnce (one ∷ later) = AreOther one.0 later × AreOnce later

-- the rows of a list in rising order, and no others
record Orders (list ordered : List (OutPoint × Row)) : Type 0 where
  rises : IsRising ordered
  has : (it : OutPoint × Row) → Contains ordered it ↔ Contains list it

orders : (list : List (OutPoint × Row)) → AreOnce list → Orders list (in_order list)
unfolding in_order
orders [] once = record { rises = none-rises; has = λ it. (λ x. x, λ x. x) }
orders (one ∷ later) once =
    let rest = orders later once.1 in
    let put = in-place one (in_order later) (λ it has. once.0 it ((rest.has it).0 has)) in
    record {
      rises = put.rises rest.rises;
      has = λ it. (
        λ has. ⊎_elim (λ same. subst (λ (x : OutPoint × Row). Contains (one ∷ later) x) same (here one later))
            (λ in_later. there one later it ((rest.has it).0 in_later)) (put.back it has),
        λ has. ⊎_elim (λ same. subst (λ (x : OutPoint × Row). Contains (insert_entry out_point_cmp (in_order later) one.0 one.1) x) same put.one_in)
            (λ in_later. put.rest_in it ((rest.has it).1 in_later)) (cons-of one later it has),
      );
    }

-- ---- No other list

same-head : (x y : OutPoint × Row) (xs ys : List (OutPoint × Row)) → IsRising (x ∷ xs) → IsRising (y ∷ ys)
    → Contains (y ∷ ys) x → Contains (x ∷ xs) y → x ≡ y
same-head x y xs ys rises others x_in y_in = ⊎_elim (λ same. sym same)
    (λ x_later. ⊎_elim (λ same. same)
    (λ y_later. absurd (not-both x.0 y.0 (head-less x xs y rises y_later) (head-less y ys x others x_later))) (cons-of x xs y y_in))
    (cons-of y ys x x_in)

-- what is after the head is after it in the other list
after-head : (x y it : OutPoint × Row) (xs ys : List (OutPoint × Row)) → x ≡ y → IsRising (x ∷ xs) → Contains xs it → Contains (y ∷ ys) it → Contains ys it
after-head x y it xs ys same rises in_xs in_all = ⊎_elim
    (λ head. absurd (not-itself x.0 (subst (λ (z : OutPoint × Row). out_point_cmp x.0 z.0 ≡ Less) (sym head ∙ sym same) (head-less x xs it rises in_xs))))
    (λ later. later) (cons-of y ys it in_all)

pub rising-unique : (xs ys : List (OutPoint × Row)) → IsRising xs → IsRising ys → ((it : OutPoint × Row) → Contains xs it ↔ Contains ys it) → xs ≡ ys
rising-unique [] [] rises others same = refl
rising-unique [] (y ∷ ys) rises others same = absurd (nothing-in y ((same y).1 (here y ys)))
rising-unique (x ∷ xs) [] rises others same = absurd (nothing-in x ((same x).0 (here x xs)))
rising-unique (x ∷ xs) (y ∷ ys) rises others same =
    let head = same-head x y xs ys rises others ((same x).0 (here x xs)) ((same y).1 (here y ys)) in
    ap (λ (z : OutPoint × Row). z ∷ xs) head
    ∙ ap (λ (later : List (OutPoint × Row)). y ∷ later)
    (rising-unique xs ys (tail-rising x xs rises) (tail-rising y ys others)
    (λ it. (
      λ has. after-head x y it xs ys head rises has ((same it).0 (there x xs it has)),
      λ has. after-head y x it ys xs (sym head) others has ((same it).1 (there y ys it has)),
    )))

pub lists-once : (rows : OutPoint → Option Row) (xs ys : List (OutPoint × Row)) → ListsRows rows xs → ListsRows rows ys → xs ≡ ys
lists-once rows xs ys one other =
    rising-unique xs ys one.rising other.rising
    (λ it. (λ has. (other.each it.0 it.1).1 ((one.each it.0 it.1).0 has), λ has. (one.each it.0 it.1).1 ((other.each it.0 it.1).0 has)))

-- ---- The live cells of one lock

abbrev rows_of : List Block → ℕ → List ℕ → List (OutPoint × Cell) → List (OutPoint × Row)
rows_of kept place lock cells = map (with_row_on kept place) (filter (has_lock lock) cells)

-- a row that is of a cell of the lock
record IsRowOf (kept : List Block) (place : ℕ) (lock : List ℕ) (cells : List (OutPoint × Cell)) (it : OutPoint × Row) : Type 0 where
  cell : Cell
  listed : Contains cells (it.0, cell)
  of : bytes_eq (script_hash cell.output.lock) lock ≡ true
  row : row_on kept place cell ≡ it.1

row-later : (kept : List Block) (place : ℕ) (lock : List ℕ) (x : OutPoint × Cell) (cells : List (OutPoint × Cell)) (it : OutPoint × Row)
    → IsRowOf kept place lock cells it → IsRowOf kept place lock (x ∷ cells) it
row-later kept place lock x cells it is = record { cell = is.cell; listed = there x cells (it.0, is.cell) is.listed; of = is.of; row = is.row }

row-of : (kept : List Block) (place : ℕ) (lock : List ℕ) (cells : List (OutPoint × Cell)) (it : OutPoint × Row) → Contains (rows_of kept place lock cells) it
    → IsRowOf kept place lock cells it
row-of kept place lock [] it has = absurd (nothing-in it has)
row-of kept place lock (x ∷ cells) it has = by_test (has_lock lock x) refl has (row-of kept place lock cells it)
  where
    by_test : (b : Bool) → has_lock lock x ≡ b → Contains (map (with_row_on kept place) (if b then x ∷ filter (has_lock lock) cells else filter (has_lock lock) cells)) it
        → (Contains (rows_of kept place lock cells) it → IsRowOf kept place lock cells it) → IsRowOf kept place lock (x ∷ cells) it
    by_test true of in_list rest = ⊎_elim
        (λ same. subst (λ (z : OutPoint × Row). IsRowOf kept place lock (x ∷ cells) z) same (record { cell = x.1; listed = here x cells; of = of; row = refl }))
        (λ later. row-later kept place lock x cells it (rest later)) (cons-of (with_row_on kept place x) (rows_of kept place lock cells) it in_list)
    by_test false of in_list rest = row-later kept place lock x cells it (rest in_list)

of-row : (kept : List Block) (place : ℕ) (lock : List ℕ) (cells : List (OutPoint × Cell)) (it : OutPoint × Row) → IsRowOf kept place lock cells it
    → Contains (rows_of kept place lock cells) it
of-row kept place lock [] it is = absurd (nothing-in (it.0, is.cell) is.listed)
of-row kept place lock (x ∷ cells) it is = by_test (has_lock lock x) refl (λ in_later. of-row kept place lock cells it (record { cell = is.cell; listed = in_later; of = is.of; row = is.row }))
  where
    by_test : (b : Bool) → has_lock lock x ≡ b → (Contains cells (it.0, is.cell) → Contains (rows_of kept place lock cells) it)
        → Contains (map (with_row_on kept place) (if b then x ∷ filter (has_lock lock) cells else filter (has_lock lock) cells)) it
    by_test true of rest = ⊎_elim
        (λ same. subst (λ (z : OutPoint × Row). Contains (with_row_on kept place x ∷ rows_of kept place lock cells) z)
        (ap (with_row_on kept place) same ∙ ap (λ (r : Row). (it.0, r)) is.row) (here (with_row_on kept place x) (rows_of kept place lock cells)))
        (λ later. there (with_row_on kept place x) (rows_of kept place lock cells) it (rest later)) (cons-of x cells (it.0, is.cell) is.listed)
    by_test false of rest = ⊎_elim
        (λ same. absurd (true-false (has_lock lock x) (ap (has_lock lock) same ∙ is.of) of))
        rest (cons-of x cells (it.0, is.cell) is.listed)

-- no out-point of the cells is this
other-cells : (p : OutPoint) (cells : List (OutPoint × Cell)) → AllByRecursion (λ (o : OutPoint). same_out_point p o ≡ false) (map (λ (listed : OutPoint × Cell). listed.0) cells)
    → (o : OutPoint) (cell : Cell) → Contains cells (o, cell) → same_out_point p o ≡ false
other-cells p [] apart o cell has = absurd (nothing-in (o, cell) has)
other-cells p (x ∷ cells) apart o cell has = ⊎_elim
    (λ same. subst (λ (z : OutPoint × Cell). same_out_point p z.0 ≡ false) same apart.0)
    (λ later. other-cells p cells apart.1 o cell later) (cons-of x cells (o, cell) has)

once-each : (kept : List Block) (place : ℕ) (lock : List ℕ) (cells : List (OutPoint × Cell))
    → IsDistinct same_out_point (map (λ (listed : OutPoint × Cell). listed.0) cells) → AreOnce (rows_of kept place lock cells)
unfolding IsDistinct
once-each kept place lock [] distinct = tt
once-each kept place lock (x ∷ cells) distinct = by_test (has_lock lock x) (once-each kept place lock cells distinct.1)
  where
    other : AreOther x.0 (rows_of kept place lock cells)
    other it has = let is = row-of kept place lock cells it has in other-cells x.0 cells distinct.0 it.0 is.cell is.listed

    by_test : (b : Bool) → AreOnce (rows_of kept place lock cells)
        → AreOnce (map (with_row_on kept place) (if b then x ∷ filter (has_lock lock) cells else filter (has_lock lock) cells))
    by_test true rest = (other, rest)
    by_test false rest = rest

-- ---- They are the rows of the branch

row-is : (kept : List Block) (place : ℕ) (o : OutPoint) → live_row kept place o ≡ option_map (row_on kept place) (cell_after (events (branch kept place)) o)
unfolding live_row
row-is kept place o = refl

of-true : (lock : List ℕ) (row : Row) → bytes_eq row.lock_hash lock ≡ true → of_lock lock (Some row) ≡ Some row
of-true lock row is = ap (λ (b : Bool). if b then Some row else None) is

-- a row of the lock is of a live cell of the lock
live-of : (kept : List Block) (place : ℕ) (lock : List ℕ) (found : Option Cell) (row : Row) → of_lock lock (option_map (row_on kept place) found) ≡ Some row
    → (cell : Cell) × (found ≡ Some cell) × (bytes_eq (script_hash cell.output.lock) lock ≡ true) × (row_on kept place cell ≡ row)
live-of kept place lock None row is = absurd (cc)
live-of kept place lock (Some cell) row is = by_test (bytes_eq (script_hash cell.output.lock) lock) refl is
  where
    by_test : (b : Bool) → bytes_eq (script_hash cell.output.lock) lock ≡ b → (if b then Some (row_on kept place cell) else None) ≡ Some row
        → (other : Cell) × (Some cell ≡ Some other) × (bytes_eq (script_hash other.output.lock) lock ≡ true) × (row_on kept place other ≡ row)
    by_test true of same = (cell, refl, of, cc)
    by_test false of same = absurd (cc)

list-is : (kept : List Block) (place : ℕ) (lock : List ℕ) → cells_by_lock kept place lock ≡ in_order (rows_of kept place lock (live_cells (events (branch kept place))))
unfolding cells_by_lock
list-is kept place lock = refl

by-lock : (kept : List Block) (place : ℕ) (lock : List ℕ) → IsByLock kept place lock (in_order (rows_of kept place lock (live_cells (events (branch kept place)))))
by-lock kept place lock = record {
  rising = ordered.rises;
  each = λ o row. (
    λ has.
        let is = row-of kept place lock cells (o, row) ((ordered.has (o, row)).0 has) in
        let live : live_row kept place o ≡ Some row =
        row-is kept place o ∙ ap (option_map (row_on kept place)) ((lists-just-the-live all o is.cell).0 is.listed) ∙ ap (λ (r : Row). Some r) is.row in
        ap (of_lock lock) live ∙ of-true lock row (subst (λ (r : Row). bytes_eq r.lock_hash lock ≡ true) is.row is.of),
    λ is.
        let it = live-of kept place lock (cell_after all o) row (sym (ap (of_lock lock) (row-is kept place o)) ∙ is) in
        (ordered.has (o, row)).1
        (of-row kept place lock cells (o, row) (record { cell = it.0; listed = (lists-just-the-live all o it.0).1 it.1; of = it.2; row = it.3 })),
  );
}
  where
    all : List Event
    all = events (branch kept place)

    cells : List (OutPoint × Cell)
    cells = live_cells all

    ordered : Orders (rows_of kept place lock cells) (in_order (rows_of kept place lock cells))
    ordered = orders (rows_of kept place lock cells) (once-each kept place lock cells (lists-each-once all))

pub lists-by-lock : ListsByLock
lists-by-lock kept place lock list = (
  λ is. lists-once (λ o. of_lock lock (live_row kept place o)) list _ is (by-lock kept place lock) ∙ sym (list-is kept place lock),
  λ is. subst (λ (l : List (OutPoint × Row)). IsByLock kept place lock l) (sym (is ∙ list-is kept place lock)) (by-lock kept place lock),
)
