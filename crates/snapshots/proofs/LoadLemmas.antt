-- The rows that bytes hold, one after the other.
use Rattle.std.proofs.Common.{◌≡◌, ℕ, ◌+◌, ◌-◌, ◌*◌, ◌<◌, ◌≤◌, true, false, List, [], ◌∷◌, ◌++◌, length, map, take, drop, get_or, Option, Some, None, refl, sym, ap, ◌∙◌, subst, take-append-drop, length-append, arith}
use Rattle.std.specs.Prelude.{if◌then◌else◌}
use Rattle.std.specs.List.{All, concat, slice_range}
use Rattle.std.proofs.Math.Seq.{get_or-append_seam}
use Rattle.std.proofs.lemmas.List.{take_at, drop_at, drop_more, map-append, length-take-le, length_push, get_or_append_left}
use Rattle.std.proofs.lemmas.List.Elements.{All-push}
use Rattle.std.proofs.lemmas.List.Folds.{concat-append}
use Rattle.chain_defs.specs.Schema.{OutPoint}
use Rattle.chain_defs.specs.Events.{same_out_point}
use Rattle.chain_defs.specs.Row.{Row, ListsRows}
use Rattle.chain_defs.specs.Ext.{row_bytes, is_row}
use Rattle.cell_state.proofs.ExtLemmas.{one_read_more}
use Rattle.cell_state.proofs.RowByteLemmas.{row-form}
use Rattle.chain_defs.specs.Fits.{FitsRow}
use Rattle.chain_defs.proofs.TellLaws.{length-row, bytes-tell-rows}
use Rattle.disk_defs.proofs.Fields.{rows_bytes, rows-length, same-rows}
use Rattle.snapshots.specs.Rows.{IsHeld, is_after_last, IsNextRow, AreRows}
use Rattle.snapshots.proofs.Order.{last_from, last-push, stands-after, lists-push, rising-push, not-listed}

-- So many rows are loaded, of which this is the last.
pub record HasLoaded (kept i : ℕ) (bytes : List ℕ) (rows : OutPoint → Option Row) (last : Option OutPoint) : Type 0 where
  pub list : List (OutPoint × Row)
  pub rows_are : AreRows kept i (take (161 * i) bytes) list
  pub lists : ListsRows rows list
  pub last_is : last ≡ last_from None list

no-rows : (kept : ℕ) → AreRows kept 0 [] []
no-rows kept = record {
  are = refl;
  as_many = refl;
  fits = λ i d below. absurd (omega (arith, below));
  rising = λ i j d before within. absurd (omega (arith, within));
  held = λ i d below. absurd (omega (arith, below));
}

none-some : {A : Type 0} (x : A) → None ≡ Some x → ⊥
none-some x same = cc

pub loaded-none : (kept : ℕ) (bytes : List ℕ) (rows : OutPoint → Option Row) → ((o : OutPoint) → rows o ≡ None) → HasLoaded kept 0 bytes rows None
loaded-none kept bytes rows empty = record {
  list = [];
  rows_are = no-rows kept;
  lists = record {
    rising = λ i j d before within. absurd (omega (arith, within));
    each = λ o row. (λ has. absurd (omega (arith, has.1)), λ held. absurd (none-some row (sym (empty o) ∙ held)));
  };
  last_is = refl;
}

-- one row more
pub loaded-more : (kept i next : ℕ) (bytes : List ℕ) (rows more : OutPoint → Option Row) (last : Option OutPoint) (it : OutPoint × Row) → next ≡ i + 1
    → HasLoaded kept i bytes rows last → IsNextRow kept last (slice_range bytes (161 * i) (161 * i + 161)) it
    → ((o : OutPoint) → more o ≡ (if same_out_point it.0 o then Some it.1 else rows o)) → HasLoaded kept next bytes more (Some it.0)
loaded-more kept i next bytes rows more last it one so_far row is =
    let after : is_after_last (last_from None so_far.list) it.0 ≡ true = subst (λ (p : Option OutPoint). is_after_last p it.0 ≡ true) so_far.last_is row.after in
    let grown : AreRows kept next (take (161 * next) bytes) (so_far.list ++ it ∷ []) = record {
      are = one_read_more row_bytes so_far.list it bytes (161 * i) 161 (161 * next) (omega (arith, one)) so_far.rows_are.are row.is;
      as_many = length_push so_far.list it ∙ ap (λ (n : ℕ). n + 1) so_far.rows_are.as_many ∙ sym one;
      fits = All-push FitsRow so_far.list it so_far.rows_are.fits row.fits;
      rising = rising-push so_far.list it so_far.rows_are.rising after;
      held = All-push (IsHeld kept) so_far.list it so_far.rows_are.held row.held;
    } in
    record {
      list = so_far.list ++ it ∷ [];
      rows_are = grown;
      lists = lists-push rows more so_far.list it so_far.lists after is;
      last_is = sym (last-push None so_far.list it);
    }

-- ---- What is refused

-- rows cut at one of them
record IsCut (list : List (OutPoint × Row)) (i : ℕ) : Type 0 where
  before : List (OutPoint × Row)
  it : OutPoint × Row
  later : List (OutPoint × Row)
  parts : list ≡ before ++ it ∷ later
  long : length before ≡ i

cut-at : (list : List (OutPoint × Row)) (i : ℕ) → i < length list → IsCut list i
cut-at [] i within = absurd (omega (arith, within))
cut-at (first ∷ list) i within = record {
  before = take i (first ∷ list);
  it = get_or (first ∷ list) i first;
  later = drop (i + 1) (first ∷ list);
  parts = sym (take-append-drop i (first ∷ list)) ∙ ap (λ (l : List (OutPoint × Row)). take i (first ∷ list) ++ l) (drop_more (first ∷ list) i first within);
  long = length-take-le i (first ∷ list) (omega (arith, within));
}

-- what holds of each holds of those before one, and of it
all-before : (P : OutPoint × Row → Type 0) (before : List (OutPoint × Row)) (it : OutPoint × Row) (later : List (OutPoint × Row)) → All P (before ++ it ∷ later) → All P before
all-before P before it later all i d below = subst P (get-left i d below) (all i d (omega (arith, below, length-append before (it ∷ later))))
  where
    get-left : (k : ℕ) (e : OutPoint × Row) → k < length before → get_or (before ++ it ∷ later) k e ≡ get_or before k e
    get-left k e lt = get_or_append_left before (it ∷ later) e k lt

at-cut : (P : OutPoint × Row → Type 0) (before : List (OutPoint × Row)) (it : OutPoint × Row) (later : List (OutPoint × Row)) → All P (before ++ it ∷ later) → P it
at-cut P before it later all =
    subst P (get_or-append_seam before it later it) (all (length before) it (omega (arith, length-append before (it ∷ later))))

split-bytes : (before : List (OutPoint × Row)) (it : OutPoint × Row) (later : List (OutPoint × Row))
    → rows_bytes (before ++ it ∷ later) ≡ rows_bytes before ++ (row_bytes it ++ rows_bytes later)
split-bytes before it later = ap concat (map-append row_bytes before (it ∷ later)) ∙ concat-append (map row_bytes before) (map row_bytes (it ∷ later))

-- the row of such a list at a place stands there in the bytes, and it may stand after those before it
next-of : (kept count i : ℕ) (bytes : List ℕ) (last : Option OutPoint) (before : List (OutPoint × Row)) (it : OutPoint × Row) (later so_far : List (OutPoint × Row))
    → AreRows kept count bytes (before ++ it ∷ later) → length before ≡ i → AreRows kept i (take (161 * i) bytes) so_far → last ≡ last_from None so_far
    → IsNextRow kept last (slice_range bytes (161 * i) (161 * i + 161)) it
next-of kept count i bytes last before it later so_far rows long loaded last_is =
    let fits = all-before FitsRow before it later rows.fits in
    let here = at-cut FitsRow before it later rows.fits in
    let size : length (rows_bytes before) ≡ 161 * i = rows-length before fits ∙ ap (λ (n : ℕ). 161 * n) long in
    let whole : rows_bytes before ++ (row_bytes it ++ rows_bytes later) ≡ bytes = sym (split-bytes before it later) ∙ rows.are in
    let first : take (161 * i) bytes ≡ rows_bytes before = ap (take (161 * i)) (sym whole) ∙ take_at (rows_bytes before) (row_bytes it ++ rows_bytes later) (161 * i) size in
    let rest : drop (161 * i) bytes ≡ row_bytes it ++ rows_bytes later =
    ap (drop (161 * i)) (sym whole) ∙ drop_at (rows_bytes before) (row_bytes it ++ rows_bytes later) (161 * i) size in
    let same : so_far ≡ before = same-rows so_far before (loaded.as_many ∙ sym long) loaded.fits fits (loaded.are ∙ first) in
    let width : 161 * i + 161 - 161 * i ≡ 161 = omega arith in
    let row : slice_range bytes (161 * i) (161 * i + 161) ≡ row_bytes it =
    ap (λ (n : ℕ). take n (drop (161 * i) bytes)) width ∙ ap (take 161) rest ∙ take_at (row_bytes it) (rows_bytes later) 161 (length-row it here) in
    record {
      is = sym row;
      fits = here;
      held = at-cut (IsHeld kept) before it later rows.held;
      after = subst (λ (p : Option OutPoint). is_after_last p it.0 ≡ true) (sym (last_is ∙ ap (last_from None) same)) (stands-after before it later rows.rising);
    }

-- where no row may come next, the bytes are those of no rows
pub refused-here : (kept count i : ℕ) (bytes : List ℕ) (rows : OutPoint → Option Row) (last : Option OutPoint) (found : Option (OutPoint × Row)) → i < count
    → HasLoaded kept i bytes rows last → found ≡ None
    → ((it : OutPoint × Row) → IsNextRow kept last (slice_range bytes (161 * i) (161 * i + 161)) it → found ≡ Some it)
    → (list : List (OutPoint × Row)) → AreRows kept count bytes list → ⊥
refused-here kept count i bytes rows last found below loaded none exact list are =
    let cut = cut-at list i (omega (arith, below, are.as_many)) in
    let next = next-of kept count i bytes last cut.before cut.it cut.later loaded.list (subst (AreRows kept count bytes) cut.parts are) cut.long loaded.rows_are loaded.last_is in
    none-some cut.it (sym none ∙ exact cut.it next)

-- ---- One row

true-false : true ≡ false → ⊥
true-false is = cc

pub no-form : (kept : ℕ) (last : Option OutPoint) (row : List ℕ) (it : OutPoint × Row) → false ≡ is_row row → IsNextRow kept last row it → ⊥
no-form kept last row it none next = true-false (sym (row-form it next.fits) ∙ ap is_row next.is ∙ sym none)

-- the row that the bytes hold is the only one
pub only-this : (kept : ℕ) (last : Option OutPoint) (row : List ℕ) (x it : OutPoint × Row) → FitsRow x → row_bytes x ≡ row → IsNextRow kept last row it → x ≡ it
only-this kept last row x it fits is next = bytes-tell-rows x it fits next.fits (is ∙ sym next.is)

pub not-kept : (kept : ℕ) (last : Option OutPoint) (row : List ℕ) (x it : OutPoint × Row) → FitsRow x → row_bytes x ≡ row → kept ≤ x.1.block → IsNextRow kept last row it → ⊥
not-kept kept last row x it fits is above next =
    let same : x ≡ it = only-this kept last row x it fits is next in
    absurd (omega (arith, above, next.held.block, ap (λ (y : OutPoint × Row). y.1.block) same))

pub not-within : (kept : ℕ) (last : Option OutPoint) (row : List ℕ) (x it : OutPoint × Row) → FitsRow x → row_bytes x ≡ row → x.1.capacity < x.1.occupied
    → IsNextRow kept last row it → ⊥
not-within kept last row x it fits is above next =
    let same : x ≡ it = only-this kept last row x it fits is next in
    absurd (omega (arith, above, next.held.occupied, ap (λ (y : OutPoint × Row). y.1.occupied) same, ap (λ (y : OutPoint × Row). y.1.capacity) same))

pub not-after : (kept : ℕ) (last : Option OutPoint) (row : List ℕ) (x it : OutPoint × Row) → FitsRow x → row_bytes x ≡ row → is_after_last last x.0 ≡ false
    → IsNextRow kept last row it → ⊥
not-after kept last row x it fits is before next =
    let same : x ≡ it = only-this kept last row x it fits is next in
    true-false (sym next.after ∙ ap (λ (y : OutPoint × Row). is_after_last last y.0) (sym same) ∙ before)

-- a row that may come next is new
pub new-here : (kept i : ℕ) (bytes row : List ℕ) (rows : OutPoint → Option Row) (last : Option OutPoint) (it : OutPoint × Row) → HasLoaded kept i bytes rows last
    → IsNextRow kept last row it → rows it.0 ≡ None
new-here kept i bytes row rows last it loaded next =
    not-listed rows loaded.list it.0 loaded.lists (subst (λ (p : Option OutPoint). is_after_last p it.0 ≡ true) loaded.last_is next.after)
