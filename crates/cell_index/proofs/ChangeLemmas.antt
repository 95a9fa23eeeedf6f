-- What a block changes, as rows that go and come.
use Rattle.std.proofs.Common.{◌≡◌, ℕ, Bool, true, false, List, [], Option, Some, None, is_some, if◌then◌else◌, refl, sym, ap, ◌∙◌, subst}
use Rattle.std.specs.Prelude.{not, IsTrue, IsSome}
use Rattle.std.specs.List.{find, list_any}
use Rattle.chain_defs.specs.Schema.{OutPoint}
use Rattle.chain_defs.specs.Cell.{Cell}
use Rattle.chain_defs.specs.Events.{Event, Makes, Spends, names, last_naming}
use Rattle.chain_defs.specs.Row.{Row, row_of, row_or, row_after, ListsRows}
use Rattle.chain_defs.specs.Fit.{are_live, AllFit}
use Rattle.chain_defs.specs.CellLaws.{makes}
use Rattle.chain_defs.specs.Undo.{spent_of, without_made, with_rows, first_live, undone, first_clash}
use Rattle.chain_defs.specs.UndoLaws.{is_spend, AreSpentOf, ComesBefore}
use Rattle.chain_defs.specs.ByLock.{of_lock}
use Rattle.chain_defs.proofs.ByLockLaws.{rising-apart}
use Rattle.chain_defs.proofs.NamingLemmas.{true-false, unnamed-last, unnamed-made, named-last, last-made, first-fits}
use Rattle.chain_defs.proofs.PutLemmas.{put_at, with_rows-at}
use Rattle.chain_defs.proofs.SpentLaws.{spends-rows-once}
use Rattle.chain_defs.proofs.BackLaws.{takes-back}
use Rattle.std.proofs.lemmas.Slice.Eq.{bytes_eq-Decides}
use Rattle.cell_index.specs.Index.{without_all, AreThere}
use Rattle.cell_index.proofs.RowLists.{is_of, any-of, of-any, any-where-some, without_all-at, are-there, put-one, none-live, live-same}

-- the row after events, by the last of them that names its out-point
pub row-after : (place : ℕ) (events : List Event) (before : OutPoint → Option Row) (o : OutPoint) → row_after place events before o ≡ row_or place (before o) (last_naming o events)
unfolding row_after
row-after place events before o = refl

-- ---- Under its own lock a row is there

pub of-own : (row : Row) → of_lock row.lock_hash (Some row) ≡ Some row
of-own row = ap (λ (b : Bool). if b then Some row else None) ((bytes_eq-Decides row.lock_hash row.lock_hash).1 refl)

pub some-under : (lock : List ℕ) (found : Option Row) (row : Row) → found ≡ Some row → row.lock_hash ≡ lock → IsSome (of_lock lock found)
some-under lock found row is same =
    subst (λ (f : Option Row). IsSome f) (sym (ap (λ (f : Option Row). of_lock lock f) is ∙ ap (λ (l : List ℕ). of_lock l (Some row)) (sym same) ∙ of-own row)) (some row)
  where
    some : (r : Row) → IsSome (Some r)
    some r = refl

-- ---- A block that is taken

-- what is left of what the events make
abbrev left_rows : ℕ → List Event → OutPoint → Option Row
left_rows place events = row_after place events (λ _. None)

-- What was there, named by events that fit, is spent first.
spent-first : (events : List Event) (before : OutPoint → Option Row) (o : OutPoint) (row : Row) → AllFit events (are_live before) → before o ≡ Some row
    → (last_naming o events ≡ None → ⊥) → IsTrue (is_spend (find (names o) events))
spent-first events before o row fit is named = by_first (find (names o) events) refl
  where
    by_first : (first : Option Event) → find (names o) events ≡ first → IsTrue (is_spend first)
    by_first None none = absurd (named (unnamed-last o events none))
    by_first (Some (Makes p cell)) found =
        let it = first-fits o events (are_live before) (Makes p cell) fit found in
        absurd (dead (subst (λ (q : OutPoint). IsTrue (not (is_some (before q)))) it.0 it.1))
      where
        dead : IsTrue (not (is_some (before o))) → ⊥
        dead live = true-false (not (is_some (before o))) live (ap (λ (f : Option Row). not (is_some f)) is)
    by_first (Some (Spends p)) found = refl

-- Without what they spend, no row is there that the events name.
gone : (events : List Event) (before : OutPoint → Option Row) (o : OutPoint) → AllFit events (are_live before) → (last_naming o events ≡ None → ⊥)
    → without_all (spent_of events before) before o ≡ None
gone events before o fit named = without_all-at (spent_of events before) before o ∙ by_row (before o) refl
  where
    by_row : (found : Option Row) → before o ≡ found → (if list_any (is_of o) (spent_of events before) then None else found) ≡ None
    by_row None is = by_test (list_any (is_of o) (spent_of events before))
      where
        by_test : (b : Bool) → ◌≡◌ {A = Option Row} (if b then None else None) None
        by_test true = refl
        by_test false = refl
    by_row (Some row) is =
        ap (λ (b : Bool). if b then None else Some row)
        (any-of (spent_of events before) o row (((spends-rows-once events before).each o row).1 (is, spent-first events before o row fit is named)))

-- What the events do not name stays.
stays : (events : List Event) (before : OutPoint → Option Row) (o : OutPoint) → last_naming o events ≡ None
    → without_all (spent_of events before) before o ≡ before o
stays events before o none = without_all-at (spent_of events before) before o ∙ ap (λ (b : Bool). if b then None else before o) (by_any (list_any (is_of o) (spent_of events before)) refl)
  where
    by_first : (first : Option Event) → find (names o) events ≡ first → IsTrue (is_spend first) → ⊥
    by_first None is spend = cc
    by_first (Some event) is spend = named-last o events event is none

    by_any : (b : Bool) → list_any (is_of o) (spent_of events before) ≡ b → b ≡ false
    by_any true any =
        let it = of-any (spent_of events before) o any in
        absurd (by_first (find (names o) events) refl (((spends-rows-once events before).each o it.0).0 it.1).1)
    by_any false any = refl

-- what comes is put over what stays
with-left : (place : ℕ) (events : List Event) (rows : OutPoint → Option Row) (left : List (OutPoint × Row)) (o : OutPoint) (found : Option Row)
    → ListsRows (left_rows place events) left → left_rows place events o ≡ found
    → with_rows left rows o ≡ elim found [ None ↦ rows o | Some row ↦ Some row ]
with-left place events rows left o None lists is =
    with_rows-at left rows o ∙ put-one left o empty (rows o) (λ other has. absurd (no other (sym is ∙ (lists.each o other).0 has)))
    ∙ ap (λ (b : Bool). if b then Some empty else rows o) (any-where-some (left_rows place events) left o lists.each ∙ ap is_some is)
  where
    empty : Row
    empty = record { block = 0; transaction = 0; capacity = 0; occupied = 0; lock_hash = []; type_hash = None; data_hash = []; data_len = 0 }

    no : (row : Row) → ◌≡◌ {A = Option Row} None (Some row) → ⊥
    no row same = cc
with-left place events rows left o (Some row) lists is =
    with_rows-at left rows o ∙ put-one left o row (rows o) (λ other has. same other (sym (sym is ∙ (lists.each o other).0 has)))
    ∙ ap (λ (b : Bool). if b then Some row else rows o) (any-where-some (left_rows place events) left o lists.each ∙ ap is_some is)
  where
    same : (other : Row) → Some other ≡ Some row → other ≡ row
    same other e = cc

-- A row that is left was made by the last event that names its out-point.
left-made : (place : ℕ) (events : List Event) (o : OutPoint) (row : Row) → left_rows place events o ≡ Some row
    → (p : OutPoint) × (cell : Cell) × (last_naming o events ≡ Some (Makes p cell)) × (row_of place cell ≡ row)
left-made place events o row is = by_last (last_naming o events) refl (sym (row-after place events (λ _. None) o) ∙ is)
  where
    by_last : (last : Option Event) → last_naming o events ≡ last → row_or place None last ≡ Some row
        → (p : OutPoint) × (cell : Cell) × (last_naming o events ≡ Some (Makes p cell)) × (row_of place cell ≡ row)
    by_last None at same = absurd (cc)
    by_last (Some (Makes p cell)) at same = (p, cell, at, cc)
    by_last (Some (Spends p)) at same = absurd (cc)

some-named : (o : OutPoint) (events : List Event) (event : Event) → last_naming o events ≡ Some event → last_naming o events ≡ None → ⊥
some-named o events event is none = no (sym none ∙ is)
  where
    no : ◌≡◌ {A = Option Event} None (Some event) → ⊥
    no same = cc

-- What a block that fits does to the rows before it: what it spends goes, and then what it leaves comes.
pub record Takes (place : ℕ) (events : List Event) (before : OutPoint → Option Row) (spent left : List (OutPoint × Row)) : Type 0 where
  pub there : AreThere spent before
  pub free : first_live left (without_all spent before) ≡ None
  pub rows : (o : OutPoint) → with_rows left (without_all spent before) o ≡ row_after place events before o

pub takes : (place : ℕ) (events : List Event) (before : OutPoint → Option Row) (left : List (OutPoint × Row)) → AllFit events (are_live before)
    → ListsRows (left_rows place events) left → Takes place events before (spent_of events before) left
takes place events before left fit lists = record {
  there = are-there (spent_of events before) before once.once
      (λ o row has. some-under row.lock_hash (before o) row ((once.each o row).0 has).0 refl);
  free = none-live left (without_all (spent_of events before) before) (rising-apart left lists.rising)
      (λ o row has. let made = left-made place events o row ((lists.each o row).0 has) in gone events before o fit (some-named o events (Makes made.0 made.1) made.2));
  rows = λ o. with-left place events (without_all (spent_of events before) before) left o (row_or place None (last_naming o events)) lists (row-after place events (λ _. None) o)
      ∙ by_last o (last_naming o events) refl
      ∙ sym (row-after place events before o);
}
  where
    once : AreSpentOf events before (spent_of events before)
    once = spends-rows-once events before

    by_last : (o : OutPoint) (last : Option Event) → last_naming o events ≡ last
        → elim (row_or place None last) [ None ↦ without_all (spent_of events before) before o | Some row ↦ Some row ] ≡ row_or place (before o) last
    by_last o None is = stays events before o is
    by_last o (Some (Makes p cell)) is = refl
    by_last o (Some (Spends p)) is = gone events before o fit (some-named o events (Spends p) is)

-- ---- A block that is taken back

-- What is left of what the events make goes: none of what they make is there then.
without-left : (place other : ℕ) (events : List Event) (before after : OutPoint → Option Row) (left : List (OutPoint × Row)) (o : OutPoint)
    → ListsRows (left_rows place events) left → after o ≡ row_after other events before o → without_all left after o ≡ without_made events after o
without-left place other events before after left o lists is =
    without_all-at left after o
    ∙ ap (λ (b : Bool). if b then None else after o) (any-where-some (left_rows place events) left o lists.each ∙ ap is_some (row-after place events (λ _. None) o))
    ∙ by_last (last_naming o events) refl
  where
    unmade : (first : Option Event) → find (names o) events ≡ first → last_naming o events ≡ None → list_any (makes o) events ≡ false
    unmade None found none = unnamed-made o events found
    unmade (Some event) found none = absurd (named-last o events event found none)

    either : (b : Bool) → ◌≡◌ {A = Option Row} None (if b then None else None)
    either true = refl
    either false = refl

    by_last : (last : Option Event) → last_naming o events ≡ last
        → (if is_some (row_or place None last) then None else after o) ≡ (if list_any (makes o) events then None else after o)
    by_last None at = sym (ap (λ (b : Bool). if b then None else after o) (unmade (find (names o) events) refl at))
    by_last (Some (Makes p cell)) at = sym (ap (λ (b : Bool). if b then None else after o) (last-made o events p cell at))
    by_last (Some (Spends p)) at =
        let none : after o ≡ None = is ∙ row-after other events before o ∙ ap (row_or other (before o)) at in
        none ∙ either (list_any (makes o) events) ∙ ap (λ (found : Option Row). if list_any (makes o) events then None else found) (sym none)

-- What a block that can be taken back does to the rows after it: what it leaves goes, and then what it spent comes.
pub record TakesBack (before after : OutPoint → Option Row) (spent left : List (OutPoint × Row)) : Type 0 where
  pub there : AreThere left after
  pub free : first_live spent (without_all left after) ≡ None
  pub rows : (o : OutPoint) → with_rows spent (without_all left after) o ≡ before o

clash-is : (events : List Event) (spent : List (OutPoint × Row)) (after : OutPoint → Option Row) → first_clash events spent after ≡ first_live spent (without_made events after)
unfolding first_clash
clash-is events spent after = refl

undone-is : (events : List Event) (spent : List (OutPoint × Row)) (after : OutPoint → Option Row) (o : OutPoint) → undone events spent after o ≡ with_rows spent (without_made events after) o
unfolding undone
undone-is events spent after o = refl

pub takes_back : (place : ℕ) (events : List Event) (before after : OutPoint → Option Row) (spent left : List (OutPoint × Row)) → ComesBefore events spent after before
    → ListsRows (left_rows place events) left → TakesBack before after spent left
takes_back place events before after spent left it lists = record {
  there = are-there left after (rising-apart left lists.rising)
      (λ o row has.
      let made = left-made place events o row ((lists.each o row).0 has) in
      let found : after o ≡ Some (row_of it.place made.1) = it.after_is o ∙ row-after it.place events before o ∙ ap (row_or it.place (before o)) made.2 in
      some-under row.lock_hash (after o) (row_of it.place made.1) found (ap (λ (r : Row). r.lock_hash) made.3));
  free = live-same spent (without_all left after) (without_made events after) same ∙ sym (clash-is events spent after) ∙ back.0;
  rows = λ o. with_rows-at spent (without_all left after) o
      ∙ ap (put_at spent o) (same o)
      ∙ sym (with_rows-at spent (without_made events after) o)
      ∙ sym (undone-is events spent after o)
      ∙ back.1 o;
}
  where
    same : (o : OutPoint) → without_all left after o ≡ without_made events after o
    same o = without-left place it.place events before after left o lists (it.after_is o)

    back : (first_clash events spent after ≡ None) × ((o : OutPoint) → undone events spent after o ≡ before o)
    back = takes-back events spent after before it
