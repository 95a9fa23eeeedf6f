-- Rows in rising order: one more at the end, and one that the rows do not have.
use Rattle.std.proofs.Common.{◌≡◌, ℕ, zero, suc, ◌<◌, ⊎_elim, Bool, true, false, eqb, List, [], ◌∷◌, ◌++◌, length, get_or, Option, Some, None, refl, sym, ap, ◌∙◌, subst, arith}
use Rattle.std.specs.Prelude.{if◌then◌else◌}
use Rattle.std.specs.List.{Contains}
use Rattle.std.specs.Str.{bytes_eq}
use Rattle.std.specs.declared.cmp.Ordering.{Ordering}
use Rattle.std.specs.declared.cmp.Ordering.TheVariants.{Less, Equal, Greater}
use Rattle.std.specs.Ordering.{is_lt}
use Rattle.std.specs.Cmp.{IsTotalOrder, on_total, then_total, nat_cmp_total}
use Rattle.std.specs.Cmp.Lexicographic.{nat_list_cmp_total}
use Rattle.std.proofs.lemmas.Bool.{and_parts, and_from}
use Rattle.std.proofs.lemmas.Bool.Decides.{Decides-eqb}
use Rattle.std.proofs.lemmas.Slice.Eq.{bytes_eq-Decides}
use Rattle.std.proofs.lemmas.Cmp.{tied_itself}
use Rattle.std.proofs.lemmas.List.Elements.{Contains-push, Contains-push_cases, Contains-append_left}
use Rattle.std.proofs.lemmas.List.Quantifiers.{all_pairs_push}
use Rattle.chain_defs.specs.Schema.{OutPoint}
use Rattle.chain_defs.specs.Events.{same_out_point}
use Rattle.chain_defs.specs.Row.{Row, out_point_cmp, IsRising, ListsRows}
use Rattle.snapshots.specs.Rows.{is_after_last}

-- ---- The order

pub out-points-total : IsTotalOrder out_point_cmp
out-points-total = then_total (on_total (λ (o : OutPoint). o.tx_hash) nat_list_cmp_total) (on_total (λ (o : OutPoint). o.index) nat_cmp_total)

less-equal : Less ≡ Equal → ⊥
less-equal is = cc

is-less : (order : Ordering) → is_lt order ≡ true → order ≡ Less
is-less Less is = refl
is-less Equal is = absurd (cc)
is-less Greater is = absurd (cc)

not-itself : (o : OutPoint) → out_point_cmp o o ≡ Less → ⊥
not-itself o less = less-equal (sym less ∙ tied_itself out-points-total o)

rising-tail : (it : OutPoint × Row) (later : List (OutPoint × Row)) → IsRising (it ∷ later) → IsRising later
rising-tail it later rising i j d before within = rising (suc i) (suc j) d (omega (arith, before)) (omega (arith, within))

-- ---- The last row

-- the out-point of the last row, or this where there is none
abbrev pub last_from : Option OutPoint → List (OutPoint × Row) → Option OutPoint
last_from start [] = start
last_from start (it ∷ later) = last_from (Some it.0) later

pub last-push : (start : Option OutPoint) (list : List (OutPoint × Row)) (it : OutPoint × Row) → last_from start (list ++ it ∷ []) ≡ Some it.0
last-push start [] it = refl
last-push start (first ∷ later) it = last-push (Some first.0) later it

-- what stands after the last stands after each
pub all-before : (start : Option OutPoint) (list : List (OutPoint × Row)) (o : OutPoint) → IsRising list → is_after_last (last_from start list) o ≡ true
    → (k : ℕ) (d : OutPoint × Row) → k < length list → out_point_cmp (get_or list k d).0 o ≡ Less
all-before start [] o rising after k d within = absurd (omega (arith, within))
all-before start (it ∷ []) o rising after zero d within = is-less (out_point_cmp it.0 o) after
all-before start (it ∷ []) o rising after (suc k) d within = absurd (omega (arith, within))
all-before start (it ∷ (next ∷ later)) o rising after zero d within =
    out-points-total.trans it.0 next.0 o (rising 0 1 d (omega arith) (omega arith))
    (all-before (Some it.0) (next ∷ later) o (rising-tail it (next ∷ later) rising) after zero d (omega arith))
all-before start (it ∷ (next ∷ later)) o rising after (suc k) d within =
    all-before (Some it.0) (next ∷ later) o (rising-tail it (next ∷ later) rising) after k d (omega (arith, within))

pub rising-push : (list : List (OutPoint × Row)) (it : OutPoint × Row) → IsRising list → is_after_last (last_from None list) it.0 ≡ true → IsRising (list ++ it ∷ [])
rising-push list it rising after =
    all_pairs_push (λ (one other : OutPoint × Row). out_point_cmp one.0 other.0 ≡ Less) list it rising (all-before None list it.0 rising after)

less-after : (one other : OutPoint) → out_point_cmp one other ≡ Less → is_after_last (Some one) other ≡ true
less-after one other less = ap is_lt less

last-after : (start : Option OutPoint) (it : OutPoint × Row) (before : List (OutPoint × Row)) (x : OutPoint × Row) (later : List (OutPoint × Row))
    → IsRising (it ∷ (before ++ x ∷ later)) → is_after_last (last_from start (it ∷ before)) x.0 ≡ true
last-after start it [] x later rising = less-after it.0 x.0 (rising 0 1 x (omega arith) (omega arith))
last-after start it (next ∷ before) x later rising = last-after (Some it.0) next before x later (rising-tail it (next ∷ (before ++ x ∷ later)) rising)

-- in rows that rise each stands after the one before it
pub stands-after : (before : List (OutPoint × Row)) (x : OutPoint × Row) (later : List (OutPoint × Row)) → IsRising (before ++ x ∷ later)
    → is_after_last (last_from None before) x.0 ≡ true
stands-after [] x later rising = refl
stands-after (it ∷ before) x later rising = last-after None it before x later rising

-- ---- Rows as a function

same-is : (one other : OutPoint) → same_out_point one other ≡ true → one ≡ other
same-is one other same =
    let parts = and_parts (bytes_eq one.tx_hash other.tx_hash) (eqb one.index other.index) same in
    let hash : one.tx_hash ≡ other.tx_hash = (bytes_eq-Decides one.tx_hash other.tx_hash).0 parts.0 in
    let index : one.index ≡ other.index = (Decides-eqb one.index other.index).0 parts.1 in
    (λ t. record { tx_hash = hash t; index = index t })

itself : (o : OutPoint) → same_out_point o o ≡ true
itself o = and_from (bytes_eq o.tx_hash o.tx_hash) (eqb o.index o.index) ((bytes_eq-Decides o.tx_hash o.tx_hash).1 refl) ((Decides-eqb o.index o.index).1 refl)

true-false : true ≡ false → ⊥
true-false is = cc

-- a row that stands after all of these is none of them
pub not-listed : (rows : OutPoint → Option Row) (list : List (OutPoint × Row)) (o : OutPoint) → ListsRows rows list → is_after_last (last_from None list) o ≡ true
    → rows o ≡ None
not-listed rows list o lists after = by-found (rows o) refl
  where
    by-found : (found : Option Row) → rows o ≡ found → found ≡ None
    by-found None is = refl
    by-found (Some row) is =
        let place = (lists.each o row).1 is in
        let here : (get_or list place.0 (o, row)).0 ≡ o = ap (λ (it : OutPoint × Row). it.0) place.2 in
        absurd (not-itself o (subst (λ (p : OutPoint). out_point_cmp p o ≡ Less) here (all-before None list o lists.rising after place.0 (o, row) place.1)))

some-is : {A : Type 0} (x y : A) → Some x ≡ Some y → x ≡ y
some-is x y same = cc

none-some : {A : Type 0} (x : A) → None ≡ Some x → ⊥
none-some x same = cc

pub lists-push : (rows more : OutPoint → Option Row) (list : List (OutPoint × Row)) (it : OutPoint × Row) → ListsRows rows list
    → is_after_last (last_from None list) it.0 ≡ true → ((o : OutPoint) → more o ≡ (if same_out_point it.0 o then Some it.1 else rows o))
    → ListsRows more (list ++ it ∷ [])
lists-push rows more list it lists after is = record {
  rising = rising-push list it lists.rising after;
  each = λ o row. (to o row, from o row);
}
  where
    absent : rows it.0 ≡ None
    absent = not-listed rows list it.0 lists after

    as-row : (o : OutPoint) (b : Bool) → same_out_point it.0 o ≡ b → more o ≡ (if b then Some it.1 else rows o)
    as-row o b same = is o ∙ ap (λ (c : Bool). if c then Some it.1 else rows o) same

    old : (o : OutPoint) (row : Row) (b : Bool) → same_out_point it.0 o ≡ b → rows o ≡ Some row → more o ≡ Some row
    old o row true same held = absurd (none-some row (sym absent ∙ ap rows (same-is it.0 o same) ∙ held))
    old o row false same held = as-row o false same ∙ held

    new : (o : OutPoint) (row : Row) (b : Bool) → same_out_point it.0 o ≡ b → it ≡ (o, row) → more o ≡ Some row
    new o row true same named = as-row o true same ∙ ap (λ (x : OutPoint × Row). Some x.1) named
    new o row false same named =
        absurd (true-false (sym (itself it.0) ∙ ap (same_out_point it.0) (ap (λ (x : OutPoint × Row). x.0) named) ∙ same))

    to : (o : OutPoint) (row : Row) → Contains (list ++ it ∷ []) (o, row) → more o ≡ Some row
    to o row has =
        ⊎_elim (λ there. old o row (same_out_point it.0 o) refl ((lists.each o row).0 there)) (λ named. new o row (same_out_point it.0 o) refl named)
        (Contains-push_cases list it (o, row) has)

    from-old : (o : OutPoint) (row : Row) → rows o ≡ Some row → Contains (list ++ it ∷ []) (o, row)
    from-old o row held = Contains-append_left list (it ∷ []) (o, row) ((lists.each o row).1 held)

    from-new : (o : OutPoint) (row : Row) → it.0 ≡ o → it.1 ≡ row → Contains (list ++ it ∷ []) (o, row)
    from-new o row point value = subst (λ (x : OutPoint × Row). Contains (list ++ it ∷ []) x) (λ t. (point t, value t)) (Contains-push list it)

    by : (o : OutPoint) (row : Row) (b : Bool) → same_out_point it.0 o ≡ b → more o ≡ Some row → Contains (list ++ it ∷ []) (o, row)
    by o row true same held = from-new o row (same-is it.0 o same) (some-is it.1 row (sym (as-row o true same) ∙ held))
    by o row false same held = from-old o row (sym (as-row o false same) ∙ held)

    from : (o : OutPoint) (row : Row) → more o ≡ Some row → Contains (list ++ it ∷ []) (o, row)
    from o row held = by o row (same_out_point it.0 o) refl held
