-- On the passes that take a block back.
use Rattle.std.proofs.Common.{◌≡◌, ℕ, zero, suc, ◌+◌, ◌<◌, ◌≤◌, Bool, true, false, List, [], ◌∷◌, length, drop, get_or, Option, Some, None, is_some, if◌then◌else◌, refl, sym, ap, ◌∙◌, arith}
use Rattle.std.specs.Prelude.{◌||◌}
use Rattle.std.specs.Option.{option_map}
use Rattle.std.specs.List.{list_any}
use Rattle.std.proofs.Math.Seq.{drop-cons}
use Rattle.chain_defs.specs.Schema.{OutPoint}
use Rattle.chain_defs.specs.Cell.{Cell}
use Rattle.chain_defs.specs.Events.{Makes, same_out_point}
use Rattle.chain_defs.specs.Row.{Row}
use Rattle.chain_defs.specs.CellLaws.{makes}
use Rattle.chain_defs.specs.Undo.{with_row, first_live}
use Rattle.cell_state.specs.Slots.{StateValue, at, rows, row_before, is_live}
use Rattle.cell_state.specs.Passes.{made_mark}
use Rattle.cell_state.specs.Undo.{passed, is_at, AreThere}
use Rattle.cell_state.specs.declared.odd.Odd.TheVariants as odd
use Rattle.cell_state.specs.declared.slots.Slot.{Slot}
use Rattle.cell_state.proofs.SlotLemmas.{at-each}
use Rattle.cell_state.proofs.PassLemmas.{made_mark-before, made_mark-live}
use Rattle.cell_state.proofs.UndoLemmas.{passed-once, made-twice}

-- ---- A pass that changes the slot of each element

-- the slots after a pass over all, where some elements are left
pub record Passing {A : Type 0} (test : OutPoint → A → Bool) (change : A → Option Slot → Option Slot) (all left : List A) (old new : StateValue) : Type 0 where
  pub at-all : (o : OutPoint) → passed (test o) change all (at old o) ≡ passed (test o) change left (at new o)
  pub spare : new.spare ≡ old.spare

pub passing-none : {A : Type 0} (test : OutPoint → A → Bool) (change : A → Option Slot → Option Slot) (all : List A) (old : StateValue) → Passing test change all all old old
passing-none test change all old = record { at-all = λ o. refl; spare = refl }

pub passing-push : {A : Type 0} (test : OutPoint → A → Bool) (change : A → Option Slot → Option Slot) (all : List A) (one : A) (left : List A) (old now new : StateValue)
    → Passing test change all (one ∷ left) old now
    → ((o : OutPoint) → at new o ≡ (if test o one then change one (at now o) else at now o)) → new.spare ≡ now.spare → Passing test change all left old new
passing-push test change all one left old now new so changes spare = record {
  at-all = λ o. so.at-all o ∙ ap (passed (test o) change left) (sym (changes o));
  spare = spare ∙ so.spare;
}

-- what an event that makes a cell changes
pub made-changes : (f : Option Slot → Option Slot) (p : OutPoint) (cell : Cell) (now new : StateValue)
    → ((o : OutPoint) → at new o ≡ (if same_out_point p o then f (at now p) else at now o))
    → (o : OutPoint) → at new o ≡ (if makes o (Makes p cell) then f (at now o) else at now o)
made-changes f p cell now new is o = is o ∙ at-each f now p o

-- what a row changes
pub row-changes : (f : Option Slot → Option Slot) (one : OutPoint × Row) (p : OutPoint) (now new : StateValue) → one.0 ≡ p
    → ((o : OutPoint) → at new o ≡ (if same_out_point p o then f (at now p) else at now o))
    → (o : OutPoint) → at new o ≡ (if is_at o one then f (at now o) else at now o)
row-changes f one p now new same is o =
    is o ∙ at-each f now p o ∙ ap (λ (q : OutPoint). if same_out_point q o then f (at now o) else at now o) (sym same)

-- the row at a place is the first of those from there on
pub rows-from : (all : List (OutPoint × Row)) (count : ℕ) (one : OutPoint × Row) → count < length all → get_or all count one ≡ one
    → drop count all ≡ one ∷ drop (count + 1) all
rows-from all count one within is =
    let next : suc count ≡ count + 1 = omega arith in
    drop-cons all count one within ∙ ap (λ (x : OutPoint × Row). x ∷ drop (suc count) all) is ∙ ap (λ (n : ℕ). one ∷ drop n all) next

pub rows-over : (all : List (OutPoint × Row)) (count : ℕ) → length all ≤ count → drop count all ≡ []
rows-over [] zero past = refl
rows-over [] (suc count) past = refl
rows-over (one ∷ all) zero past = absurd (omega (arith, past))
rows-over (one ∷ all) (suc count) past = rows-over all count (omega (arith, past))

-- ---- Rows marked as put back

-- what is live by then, by rows
pub record IsLeftToPut (all left : List (OutPoint × Row)) (found : OutPoint → Option Row) (new : StateValue) : Type 0 where
  pub later : OutPoint → Option Row
  pub there : AreThere later new
  pub same : first_live all found ≡ first_live left later

pub record PuttingBack (all left : List (OutPoint × Row)) (old new : StateValue) : Type 0 where
  pub at-all : (o : OutPoint) → passed (is_at o) (λ one. made_mark) all (at old o) ≡ passed (is_at o) (λ one. made_mark) left (at new o)
  pub live : (found : OutPoint → Option Row) → AreThere found old → IsLeftToPut all left found new
  pub before : (o : OutPoint) → rows new o ≡ rows old o
  pub spare : old.spare + length left ≤ new.spare + length all
  pub behind : (o : OutPoint) → list_any (is_at o) all ≡ false → list_any (is_at o) left ≡ false

not-live : (one : OutPoint × Row) (left : List (OutPoint × Row)) (later : OutPoint → Option Row) (live : Bool) → is_some (later one.0) ≡ live → live ≡ false
    → first_live (one ∷ left) later ≡ first_live left (with_row one later)
not-live one left later true is free = absurd (cc)
not-live one left later false is free = ap (λ (b : Bool). if b then Some one.0 else first_live left (with_row one later)) is

made-there : (one : OutPoint × Row) (later : OutPoint → Option Row) (now : StateValue) (o : OutPoint) → AreThere later now → (b : Bool)
    → is_some (if b then Some one.1 else later o) ≡ is_live (if b then made_mark (at now o) else at now o)
made-there one later now o there true = sym (made_mark-live (at now o))
made-there one later now o there false = there o

made-before : (slot : Option Slot) (b : Bool) → row_before (if b then made_mark slot else slot) ≡ row_before slot
made-before slot true = made_mark-before slot
made-before slot false = refl

any-later : (first later : Bool) → (first || later) ≡ false → later ≡ false
any-later true later none = absurd (cc)
any-later false later none = none

pub putting-push : (all : List (OutPoint × Row)) (one : OutPoint × Row) (left : List (OutPoint × Row)) (old now new : StateValue) → PuttingBack all (one ∷ left) old now
    → is_live (at now one.0) ≡ false
    → ((o : OutPoint) → at new o ≡ (if is_at o one then made_mark (at now o) else at now o)) → now.spare ≤ new.spare + 1 → PuttingBack all left old new
putting-push all one left old now new so free changes spare = record {
  at-all = λ o. so.at-all o ∙ ap (passed (is_at o) (λ one. made_mark) left) (sym (changes o));
  live = λ found there.
      let it = so.live found there in
      record {
        later = with_row one it.later;
        there = λ o. made-there one it.later now o it.there (same_out_point one.0 o) ∙ ap is_live (sym (changes o));
        same = it.same ∙ not-live one left it.later (is_live (at now one.0)) (it.there one.0) free;
      };
  before = λ o. ap row_before (changes o) ∙ made-before (at now o) (same_out_point one.0 o) ∙ so.before o;
  spare = omega (arith, so.spare, spare);
  behind = λ o none. any-later (same_out_point one.0 o) (list_any (is_at o) left) (so.behind o none);
}

-- no row is left
pub put-free : (all : List (OutPoint × Row)) (old new : StateValue) → PuttingBack all [] old new → (found : OutPoint → Option Row) → AreThere found old
    → first_live all found ≡ None
put-free all old new so found there = (so.live found there).same

is-live : (one : OutPoint × Row) (left : List (OutPoint × Row)) (later : OutPoint → Option Row) → is_some (later one.0) ≡ true → first_live (one ∷ left) later ≡ Some one.0
is-live one left later is = ap (λ (b : Bool). if b then Some one.0 else first_live left (with_row one later)) is

-- one of them is live
pub put-odd : (all : List (OutPoint × Row)) (one : OutPoint × Row) (left : List (OutPoint × Row)) (old now : StateValue) → PuttingBack all (one ∷ left) old now
    → is_live (at now one.0) ≡ true → (found : OutPoint → Option Row) → AreThere found old → option_map odd.Live (first_live all found) ≡ Some (odd.Live one.0)
put-odd all one left old now so live found there =
    let it = so.live found there in
    ap (option_map odd.Live) (it.same ∙ is-live one left it.later (it.there one.0 ∙ live))

-- what no row names is as before
pub put-unnamed : (all left : List (OutPoint × Row)) (old now : StateValue) → PuttingBack all left old now → (o : OutPoint) → list_any (is_at o) all ≡ false → at now o ≡ at old o
put-unnamed all left old now so o none =
    sym (ap (λ (b : Bool). if b then made_mark (at now o) else at now o) (so.behind o none))
    ∙ sym (passed-once (is_at o) made_mark made-twice left (at now o))
    ∙ sym (so.at-all o)
    ∙ passed-once (is_at o) made_mark made-twice all (at old o)
    ∙ ap (λ (b : Bool). if b then made_mark (at old o) else at old o) none
