-- On the passes over events.
use Rattle.std.proofs.Common.{◌≡◌, ℕ, ◌+◌, ◌≤◌, Bool, true, false, List, [], ◌∷◌, ◌++◌, Option, Some, None, if◌then◌else◌, refl, sym, ap, ◌∙◌, subst, arith}
use Rattle.std.specs.Prelude.{not, IsTrue}
use Rattle.std.proofs.lemmas.Bool.{not_from_false}
use Rattle.std.proofs.lemmas.List.{append_assoc}
use Rattle.chain_defs.specs.Schema.{OutPoint}
use Rattle.chain_defs.specs.Cell.{Cell}
use Rattle.chain_defs.specs.Events.{Event, Makes, Spends, same_out_point, out_point_of, names, last_naming}
use Rattle.chain_defs.specs.Row.{Row, row_of, row_or, row_left}
use Rattle.cell_state.specs.Fit.{IsFirstOdd}
use Rattle.chain_defs.specs.Fit.{are_live, live_by, live_after, fits, AllFit}
use Rattle.cell_state.specs.declared.odd.Odd.TheVariants as odd
use Rattle.cell_state.specs.Slots.{StateValue, at, rows, row_before, is_live, settled, AreSettled}
use Rattle.cell_state.specs.Passes.{makes_in, spent_mark, made_mark, AreMarked, unmarked, unmarked_by, settled_made, settled_spent, Settles, HaveRowsAfter}
use Rattle.cell_state.specs.declared.slots.Slot.{Slot}
use Rattle.cell_state.specs.declared.slots.Slot.TheVariants.{Live, Spent, Added, Gone}
use Rattle.cell_state.proofs.SlotLemmas.{at-each}
use Rattle.cell_state.proofs.NamingLemmas.{last-push, naming-nil, unnamed-front, row-after, live-marked}
use Rattle.chain_defs.proofs.FitLemmas.{fit-none, fit-push}

-- one more event is done
parts-push : (all done : List Event) (event : Event) (left : List Event) → done ++ event ∷ left ≡ all → (done ++ event ∷ []) ++ left ≡ all
parts-push all done event left parts = append_assoc done (event ∷ []) left ∙ parts

-- what a change at the out-point of an event leaves at each
abbrev Changes : (Option Slot → Option Slot) → Event → StateValue → StateValue → Type 0
Changes f event old new = (o : OutPoint) → at new o ≡ (if names o event then f (at old o) else at old o)

pub changes-at : (f : Option Slot → Option Slot) (event : Event) (old new : StateValue)
    → ((o : OutPoint) → at new o ≡ (if same_out_point (out_point_of event) o then f (at old (out_point_of event)) else at old o)) → Changes f event old new
changes-at f event old new is o = is o ∙ at-each f old (out_point_of event) o

-- a fact of a slot by the last event that names it, with one event more
by-push : (P : Option Event → Option Slot → Type 0) (f : Option Slot → Option Slot) (event : Event) (last : Option Event) (slot : Option Slot) (b : Bool)
    → P last slot → (P last slot → P (Some event) (f slot)) → P (if b then Some event else last) (if b then f slot else slot)
by-push P f event last slot true holds step = step holds
by-push P f event last slot false holds step = holds

pub push-at : (P : Option Event → Option Slot → Type 0) (f : Option Slot → Option Slot) (done : List Event) (event : Event) (old new : StateValue) (o : OutPoint)
    → Changes f event old new → P (last_naming o done) (at old o) → (P (last_naming o done) (at old o) → P (Some event) (f (at old o)))
    → P (last_naming o (done ++ event ∷ [])) (at new o)
push-at P f done event old new o changes holds step =
    subst (λ (slot : Option Slot). P (last_naming o (done ++ event ∷ [])) slot) (sym (changes o))
    (subst (λ (last : Option Event). P last (if names o event then f (at old o) else at old o)) (sym (last-push o done event))
    (by-push P f event (last_naming o done) (at old o) (names o event) holds step))

-- ---- Marks taken back

pub record Unmarking (all left : List Event) (old new : StateValue) : Type 0 where
  pub done : List Event
  pub parts : done ++ left ≡ all
  pub at-all : (o : OutPoint) → at new o ≡ unmarked_by (last_naming o done) (at old o)
  pub spare : new.spare ≡ old.spare

pub unmarking-none : (all : List Event) (old : StateValue) → Unmarking all all old old
unmarking-none all old = record {
  done = [];
  parts = refl;
  at-all = λ o. ap (λ (last : Option Event). unmarked_by last (at old o)) (sym (naming-nil o));
  spare = refl;
}

pub unmarked-twice : (slot : Option Slot) → unmarked (unmarked slot) ≡ unmarked slot
unmarked-twice None = refl
unmarked-twice (Some (Live row)) = refl
unmarked-twice (Some (Spent row)) = refl
unmarked-twice (Some Added) = refl
unmarked-twice (Some Gone) = refl

unmarked-more : (last : Option Event) (slot : Option Slot) → unmarked (unmarked_by last slot) ≡ unmarked slot
unmarked-more None slot = refl
unmarked-more (Some event) slot = unmarked-twice slot

pub unmarking-push : (all : List Event) (event : Event) (left : List Event) (old now new : StateValue) → Unmarking all (event ∷ left) old now
    → Changes unmarked event now new → new.spare ≡ now.spare → Unmarking all left old new
unmarking-push all event left old now new so changes spare = record {
  done = so.done ++ event ∷ [];
  parts = parts-push all so.done event left so.parts;
  at-all = λ o. push-at (λ last slot. slot ≡ unmarked_by last (at old o)) unmarked so.done event now new o changes (so.at-all o)
      (λ is. ap unmarked is ∙ unmarked-more (last_naming o so.done) (at old o));
  spare = spare ∙ so.spare;
}

-- ---- Rows written

pub record Settling (place : ℕ) (all left : List Event) (old new : StateValue) : Type 0 where
  pub done : List Event
  pub parts : done ++ left ≡ all
  pub at-all : (o : OutPoint) → Settles place (last_naming o done) (at old o) (at new o)
  pub spare : new.spare ≡ old.spare

settles-none : (place : ℕ) (slot : Option Slot) → Settles place None slot slot
settles-none place slot = record { unnamed = λ _. refl; live = refl; gone = λ some. cc; made = λ o cell is. cc }

pub settling-none : (place : ℕ) (all : List Event) (old : StateValue) → Settling place all all old old
settling-none place all old = record {
  done = [];
  parts = refl;
  at-all = λ o. subst (λ (last : Option Event). Settles place last (at old o) (at old o)) (sym (naming-nil o)) (settles-none place (at old o));
  spare = refl;
}

made-live : (row : Row) (slot : Option Slot) → is_live (settled_made row slot) ≡ is_live slot
made-live row None = refl
made-live row (Some (Live before)) = refl
made-live row (Some (Spent before)) = refl
made-live row (Some Added) = refl
made-live row (Some Gone) = refl

made-gone : (row : Row) (slot : Option Slot) → is_live slot ≡ false → settled_made row slot ≡ None
made-gone row None is = refl
made-gone row (Some (Live before)) is = cc
made-gone row (Some (Spent before)) is = refl
made-gone row (Some Added) is = cc
made-gone row (Some Gone) is = refl

made-written : (row : Row) (slot : Option Slot) → is_live slot ≡ true → settled_made row slot ≡ Some (Live row)
made-written row None is = cc
made-written row (Some (Live before)) is = refl
made-written row (Some (Spent before)) is = cc
made-written row (Some Added) is = refl
made-written row (Some Gone) is = cc

spent-live : (slot : Option Slot) → is_live (settled_spent slot) ≡ is_live slot
spent-live None = refl
spent-live (Some (Live row)) = refl
spent-live (Some (Spent row)) = refl
spent-live (Some Added) = refl
spent-live (Some Gone) = refl

spent-gone : (slot : Option Slot) → is_live slot ≡ false → settled_spent slot ≡ None
spent-gone None is = refl
spent-gone (Some (Live row)) is = cc
spent-gone (Some (Spent row)) is = refl
spent-gone (Some Added) is = cc
spent-gone (Some Gone) is = refl

same-cell : (o p : OutPoint) (cell other : Cell) → ◌≡◌ {A = Option Event} (Some (Makes o cell)) (Some (Makes p other)) → cell ≡ other
same-cell o p cell other is = cc

settles-made : (place : ℕ) (o : OutPoint) (cell : Cell) (last : Option Event) (old now : Option Slot) → Settles place last old now
    → Settles place (Some (Makes o cell)) old (settled_made (row_of place cell) now)
settles-made place o cell last old now so = record {
  unnamed = λ is. cc;
  live = made-live (row_of place cell) now ∙ so.live;
  gone = λ some is. made-gone (row_of place cell) now (so.live ∙ is);
  made = λ p other is live. made-written (row_of place cell) now (so.live ∙ live) ∙ ap (λ (c : Cell). Some (Live (row_of place c))) (same-cell o p cell other is);
}

settles-spent : (place : ℕ) (o : OutPoint) (last : Option Event) (old now : Option Slot) → Settles place last old now
    → Settles place (Some (Spends o)) old (settled_spent now)
settles-spent place o last old now so = record {
  unnamed = λ is. cc;
  live = spent-live now ∙ so.live;
  gone = λ some is. spent-gone now (so.live ∙ is);
  made = λ p cell is. cc;
}

pub settling-made : (place : ℕ) (all : List Event) (o : OutPoint) (cell : Cell) (left : List Event) (old now new : StateValue) → Settling place all (Makes o cell ∷ left) old now
    → Changes (settled_made (row_of place cell)) (Makes o cell) now new → new.spare ≡ now.spare → Settling place all left old new
settling-made place all o cell left old now new so changes spare = record {
  done = so.done ++ Makes o cell ∷ [];
  parts = parts-push all so.done (Makes o cell) left so.parts;
  at-all = λ p. push-at (λ last slot. Settles place last (at old p) slot) (settled_made (row_of place cell)) so.done (Makes o cell) now new p changes (so.at-all p)
      (λ is. settles-made place o cell (last_naming p so.done) (at old p) (at now p) is);
  spare = spare ∙ so.spare;
}

pub settling-spent : (place : ℕ) (all : List Event) (o : OutPoint) (left : List Event) (old now new : StateValue) → Settling place all (Spends o ∷ left) old now
    → Changes settled_spent (Spends o) now new → new.spare ≡ now.spare → Settling place all left old new
settling-spent place all o left old now new so changes spare = record {
  done = so.done ++ Spends o ∷ [];
  parts = parts-push all so.done (Spends o) left so.parts;
  at-all = λ p. push-at (λ last slot. Settles place last (at old p) slot) settled_spent so.done (Spends o) now new p changes (so.at-all p)
      (λ is. settles-spent place o (last_naming p so.done) (at old p) (at now p) is);
  spare = spare ∙ so.spare;
}

-- ---- Marks set

pub record Marking (all left : List Event) (old new : StateValue) : Type 0 where
  pub done : List Event
  pub parts : done ++ left ≡ all
  pub marked : AreMarked done old new
  pub before : (o : OutPoint) → rows new o ≡ rows old o
  pub unnamed : (o : OutPoint) → last_naming o done ≡ None → at new o ≡ at old o
  pub fit : AllFit done (are_live (rows old))
  pub spare : old.spare + makes_in left ≤ new.spare + makes_in all

pub marking-none : (all : List Event) (old : StateValue) → Marking all all old old
marking-none all old = record {
  done = [];
  parts = refl;
  marked = λ o. ap (λ (last : Option Event). live_by last (is_live (at old o))) (sym (naming-nil o));
  before = λ o. refl;
  unnamed = λ o is. refl;
  fit = fit-none (are_live (rows old));
  spare = omega arith;
}

pub made_mark-live : (slot : Option Slot) → is_live (made_mark slot) ≡ true
made_mark-live None = refl
made_mark-live (Some (Live row)) = refl
made_mark-live (Some (Spent row)) = refl
made_mark-live (Some Added) = refl
made_mark-live (Some Gone) = refl

pub made_mark-before : (slot : Option Slot) → row_before (made_mark slot) ≡ row_before slot
made_mark-before None = refl
made_mark-before (Some (Live row)) = refl
made_mark-before (Some (Spent row)) = refl
made_mark-before (Some Added) = refl
made_mark-before (Some Gone) = refl

spent_mark-live : (slot : Option Slot) → is_live (spent_mark slot) ≡ false
spent_mark-live None = refl
spent_mark-live (Some (Live row)) = refl
spent_mark-live (Some (Spent row)) = refl
spent_mark-live (Some Added) = refl
spent_mark-live (Some Gone) = refl

pub spent_mark-before : (slot : Option Slot) → row_before (spent_mark slot) ≡ row_before slot
spent_mark-before None = refl
spent_mark-before (Some (Live row)) = refl
spent_mark-before (Some (Spent row)) = refl
spent_mark-before (Some Added) = refl
spent_mark-before (Some Gone) = refl

some-none : (event : Event) → ◌≡◌ {A = Option Event} (Some event) None → ⊥
some-none event is = cc

pub marking-push : (all : List Event) (event : Event) (left : List Event) (old now new : StateValue) (f : Option Slot → Option Slot)
    → ((slot : Option Slot) → row_before (f slot) ≡ row_before slot)
    → ((slot : Option Slot) (was : Bool) → is_live (f slot) ≡ live_by (Some event) was)
    → (so : Marking all (event ∷ left) old now) → Changes f event now new → IsTrue (fits (live_after so.done (are_live (rows old))) event)
    → old.spare + makes_in left ≤ new.spare + makes_in all → Marking all left old new
marking-push all event left old now new f before live so changes fits_next spare = record {
  done = so.done ++ event ∷ [];
  parts = parts-push all so.done event left so.parts;
  marked = λ o. push-at (λ last slot. is_live slot ≡ live_by last (is_live (at old o))) f so.done event now new o changes (so.marked o)
      (λ is. live (at now o) (is_live (at old o)));
  before = λ o. push-at (λ last slot. row_before slot ≡ rows old o) f so.done event now new o changes (so.before o) (λ is. before (at now o) ∙ is);
  unnamed = λ o. push-at (λ last slot. last ≡ None → slot ≡ at old o) f so.done event now new o changes (so.unnamed o) (λ is none. absurd (some-none event none));
  fit = fit-push so.done event (are_live (rows old)) so.fit fits_next;
  spare = spare;
}

pub marking-made : (all : List Event) (o : OutPoint) (cell : Cell) (left : List Event) (old now new : StateValue) → AreSettled old
    → Marking all (Makes o cell ∷ left) old now → is_live (at now o) ≡ false → Changes made_mark (Makes o cell) now new → now.spare ≤ new.spare + 1
    → Marking all left old new
marking-made all o cell left old now new settled-before so free changes spare =
    marking-push all (Makes o cell) left old now new made_mark made_mark-before (λ slot was. made_mark-live slot) so changes
    (not_from_false (live_after so.done (are_live (rows old)) o) (sym (live-marked so.done old now settled-before so.marked o) ∙ free))
    (omega (arith, so.spare, spare))

pub marking-spent : (all : List Event) (o : OutPoint) (left : List Event) (old now new : StateValue) → AreSettled old
    → Marking all (Spends o ∷ left) old now → is_live (at now o) ≡ true → Changes spent_mark (Spends o) now new → new.spare ≡ now.spare
    → Marking all left old new
marking-spent all o left old now new settled-before so there changes spare =
    marking-push all (Spends o) left old now new spent_mark spent_mark-before (λ slot was. spent_mark-live slot) so changes
    (sym (live-marked so.done old now settled-before so.marked o) ∙ there)
    (omega (arith, so.spare, spare))

pub true-false : (b : Bool) → b ≡ true → b ≡ false → ⊥
true-false b is not = cc

pub odd-made : (all : List Event) (o : OutPoint) (cell : Cell) (left : List Event) (old now : StateValue) → AreSettled old
    → Marking all (Makes o cell ∷ left) old now → is_live (at now o) ≡ true → IsFirstOdd all (are_live (rows old)) (odd.Live o)
odd-made all o cell left old now settled-before so live = record {
  earlier = so.done;
  event = Makes o cell;
  later = left;
  parts = sym so.parts;
  fit = so.fit;
  unfit = ap not (sym (live-marked so.done old now settled-before so.marked o) ∙ live);
  cause = refl;
}

pub odd-spent : (all : List Event) (o : OutPoint) (left : List Event) (old now : StateValue) → AreSettled old
    → Marking all (Spends o ∷ left) old now → is_live (at now o) ≡ false → IsFirstOdd all (are_live (rows old)) (odd.NotLive o)
odd-spent all o left old now settled-before so gone = record {
  earlier = so.done;
  event = Spends o;
  later = left;
  parts = sym so.parts;
  fit = so.fit;
  unfit = sym (live-marked so.done old now settled-before so.marked o) ∙ gone;
  cause = refl;
}

-- what names no out-point is as before
pub marking-unnamed : (all left : List Event) (old now new : StateValue) (so : Marking all left old now) → ((o : OutPoint) → at new o ≡ at now o)
    → (o : OutPoint) → last_naming o all ≡ None → at new o ≡ at old o
marking-unnamed all left old now new so same o none =
    same o ∙ so.unnamed o (unnamed-front o so.done left (ap (last_naming o) so.parts ∙ none))

-- ---- Rows replayed

pub record Replaying (place : ℕ) (all left : List Event) (old new : StateValue) : Type 0 where
  pub done : List Event
  pub parts : done ++ left ≡ all
  pub have : HaveRowsAfter place done old new

pub replaying-none : (place : ℕ) (all : List Event) (old : StateValue) → Replaying place all all old old
replaying-none place all old = record {
  done = [];
  parts = refl;
  have = λ before is o. is o ∙ ap settled (ap (row_or place (before o)) (sym (naming-nil o)) ∙ sym (row-after place [] before o));
}

pub replaying-push : (place : ℕ) (all : List Event) (event : Event) (left : List Event) (old now new : StateValue) → Replaying place all (event ∷ left) old now
    → Changes (λ _. settled (row_left place event)) event now new → Replaying place all left old new
replaying-push place all event left old now new so changes = record {
  done = so.done ++ event ∷ [];
  parts = parts-push all so.done event left so.parts;
  have = λ before is o. push-at (λ last slot. slot ≡ settled (row_or place (before o) last)) (λ _. settled (row_left place event)) so.done event now new o changes
      (so.have before is o ∙ ap settled (row-after place so.done before o)) (λ _. refl)
      ∙ ap settled (sym (row-after place (so.done ++ event ∷ []) before o));
}
