-- Rows of blocks before a place: they stay so as blocks are taken back and applied, and those of a branch are.
use Rattle.std.proofs.Common.{◌≡◌, ℕ, zero, suc, ◌<◌, ◌≤◌, ◌==◌, Bool, true, false, List, [], ◌∷◌, ◌++◌, Option, Some, None, if◌then◌else◌, refl, sym, ap, ◌∙◌, subst, arith}
use Rattle.std.specs.Prelude.{slice_index}
use Rattle.std.specs.List.{list_all, list_any}
use Rattle.std.specs.Option.{option_map}
use Rattle.std.proofs.lemmas.Bool.{and_from, and_parts, lt-ltb, ltb-true, or_left, or_right, eq-eqb}
use Rattle.std.proofs.lemmas.Option.{same_Some}
use Rattle.chain_defs.specs.Schema.{OutPoint, Block}
use Rattle.chain_defs.specs.Branch.{branch, branch_places}
use Rattle.chain_defs.specs.Cell.{Cell}
use Rattle.chain_defs.specs.Events.{Event, Makes, Spends, same_out_point, last_naming, live_cell}
use Rattle.chain_defs.specs.Row.{Row, row_of, row_on, row_or, row_after, live_row}
use Rattle.chain_defs.specs.CellLaws.{makes}
use Rattle.chain_defs.specs.Undo.{without, row_at, spent_of, with_row, with_rows, without_made, undone}
use Rattle.cell_state.specs.Moves.{AreRowsBelow, is_below}
use Rattle.cell_state.proofs.DistanceLemmas.{has, within-own}

pub below-same : (one other : OutPoint → Option Row) (place : ℕ) → ((o : OutPoint) → one o ≡ other o) → AreRowsBelow place other → AreRowsBelow place one
below-same one other place same below o row is = below o row (sym (same o) ∙ is)

pub none-below : {place : ℕ} → AreRowsBelow place (λ _. None)
none-below o row is = absurd (cc)

-- what is there where others were dropped
left : (test : Bool) (found : Option Row) (row : Row) → (if test then None else found) ≡ Some row → found ≡ Some row
left true found row is = absurd (cc)
left false found row is = is

without-below : (gone : OutPoint) (rows : OutPoint → Option Row) (place : ℕ) → AreRowsBelow place rows → AreRowsBelow place (without gone rows)
without-below gone rows place below o row is = below o row (left (same_out_point gone o) (rows o) row is)

-- ---- Rows that are spent

pub spent-below : (events : List Event) (rows : OutPoint → Option Row) (place : ℕ) → AreRowsBelow place rows → list_all (is_below place) (spent_of events rows) ≡ true
unfolding spent_of
spent-below [] rows place below = refl
spent-below (Makes o cell ∷ later) rows place below = spent-below later (without o rows) place (without-below o rows place below)
spent-below (Spends o ∷ later) rows place below = by_row (rows o) refl (spent-below later (without o rows) place (without-below o rows place below))
  where
    by_row : (found : Option Row) → rows o ≡ found → list_all (is_below place) (spent_of later (without o rows)) ≡ true
        → list_all (is_below place) (row_at o found ++ spent_of later (without o rows)) ≡ true
    by_row None is rest = rest
    by_row (Some row) is rest = and_from _ _ (lt-ltb row.block place (below o row is)) rest

-- ---- Rows that are put back

with_row-below : (one : OutPoint × Row) (rows : OutPoint → Option Row) (place : ℕ) → one.1.block < place → AreRowsBelow place rows → AreRowsBelow place (with_row one rows)
with_row-below one rows place here below o row is = by_test (same_out_point one.0 o) is
  where
    by_test : (test : Bool) → (if test then Some one.1 else rows o) ≡ Some row → row.block < place
    by_test true is = subst (λ (r : Row). r.block < place) (same_Some one.1 row is) here
    by_test false is = below o row is

with_rows-below : (spent : List (OutPoint × Row)) (rows : OutPoint → Option Row) (place : ℕ) → list_all (is_below place) spent ≡ true → AreRowsBelow place rows
    → AreRowsBelow place (with_rows spent rows)
with_rows-below [] rows place all below = below
with_rows-below (one ∷ later) rows place all below =
    let both = and_parts (is_below place one) (list_all (is_below place) later) all in
    with_rows-below later (with_row one rows) place both.1 (with_row-below one rows place (ltb-true one.1.block place both.0) below)

all-more : (spent : List (OutPoint × Row)) (place end : ℕ) → place ≤ end → list_all (is_below place) spent ≡ true → list_all (is_below end) spent ≡ true
all-more [] place end less all = refl
all-more (one ∷ later) place end less all =
    let both = and_parts (is_below place one) (list_all (is_below place) later) all in
    let under : one.1.block < place = ltb-true one.1.block place both.0 in
    and_from (is_below end one) (list_all (is_below end) later) (lt-ltb one.1.block end (omega (arith, under, less))) (all-more later place end less both.1)

-- a block that is taken back
pub undone-below : (events : List Event) (spent : List (OutPoint × Row)) (rows : OutPoint → Option Row) (place end : ℕ) → list_all (is_below place) spent ≡ true
    → place < end → AreRowsBelow end rows → AreRowsBelow end (undone events spent rows)
unfolding undone
undone-below events spent rows place end all less below =
    with_rows-below spent (without_made events rows) end (all-more spent place end (omega (arith, less)) all)
    (λ o row is. below o row (left (list_any (makes o) events) (rows o) row is))

-- one that is applied
pub after-below : (place : ℕ) (events : List Event) (rows : OutPoint → Option Row) (end : ℕ) → place < end → AreRowsBelow end rows
    → AreRowsBelow end (row_after place events rows)
unfolding row_after
after-below place events rows end less below o row is = by_last (last_naming o events) is
  where
    by_last : (last : Option Event) → row_or place (rows o) last ≡ Some row → row.block < end
    by_last None is = below o row is
    by_last (Some (Spends other)) is = absurd (cc)
    by_last (Some (Makes made cell)) is = subst (λ (r : Row). r.block < end) (same_Some (row_of place cell) row is) less

-- ---- The rows of a branch

index-below : (places : List ℕ) (i end : ℕ) → 0 < end → ((x : ℕ) → has places x ≡ true → x < end) → slice_index places i < end
index-below [] zero end some each = some
index-below [] (suc i) end some each = some
index-below (x ∷ xs) zero end some each = each x (or_left (x == x) (has xs x) (eq-eqb x x refl))
index-below (x ∷ xs) (suc i) end some each = index-below xs i end some (λ y there. each y (or_right (x == y) (has xs y) there))

pub live-below : (kept : List Block) (place end : ℕ) → place < end → AreRowsBelow end (live_row kept place)
unfolding live_row
live-below kept place end less o row is = by_cell (live_cell (branch kept place) o) is
  where
    within : (x : ℕ) → has (branch_places kept place) x ≡ true → x < end
    within x there = let own = within-own (suc place) kept place x (omega arith) there in omega (arith, own, less)

    by_cell : (cell : Option Cell) → option_map (row_on kept place) cell ≡ Some row → row.block < end
    by_cell None is = absurd (cc)
    by_cell (Some cell) is =
        subst (λ (r : Row). r.block < end) (same_Some (row_on kept place cell) row is)
        (index-below (branch_places kept place) cell.height end (omega (arith, less)) within)
