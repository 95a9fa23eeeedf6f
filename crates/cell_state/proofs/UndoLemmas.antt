-- On taking a block back, at one out-point.
use Rattle.std.proofs.Common.{◌≡◌, ℕ, zero, suc, ◌+◌, ◌<◌, ◌≤◌, Result, Ok, Err, IsOk, IfErr, OnErr, Bool, true, false, List, [], ◌∷◌, ◌++◌, length, map, drop, Option, Some, None, is_some, slice_get, if◌then◌else◌, refl, sym, ap, ◌∙◌, subst, arith}
use Rattle.std.specs.Prelude.{◌||◌, ◌==◌}
use Rattle.std.specs.Result.{OnOk}
use Rattle.std.specs.Option.{option_map}
use Rattle.std.proofs.lemmas.Option.{none-some}
use Rattle.std.specs.List.{list_any}
use Rattle.std.proofs.lemmas.List.Folds.{list_any-append}
use Rattle.chain_defs.specs.Schema.{OutPoint, CellInput, CellOutput, Transaction, Block}
use Rattle.chain_defs.specs.Events.{Event, Makes, Spends, same_out_point, names, last_naming, makes_from, spends_of, events_of, events_from, events_of_block}
use Rattle.chain_defs.specs.Row.{Row}
use Rattle.chain_defs.specs.CellLaws.{makes}
use Rattle.chain_defs.specs.Undo.{without_made, with_row, first_live, undone, first_clash}
use Rattle.chain_defs.specs.UndoLaws.{ComesBefore}
use Rattle.chain_defs.proofs.BackLaws.{takes-back}
use Rattle.chain_defs.proofs.PutLemmas.{put_at, with_rows-at}
use Rattle.cell_state.specs.Slots.{StateValue, at, rows, row_before, is_live, settled, AreSettled}
use Rattle.cell_state.specs.Passes.{spent_mark, made_mark, unmarked, unmarked_by, settled_spent}
use Rattle.cell_state.specs.Undo.{passed, is_at, row_written, AreThere}
use Rattle.cell_state.specs.declared.odd.Odd.TheVariants as odd
use Rattle.cell_state.specs.declared.slots.Slot.{Slot}
use Rattle.cell_state.specs.declared.slots.Slot.TheVariants.{Live, Spent, Added, Gone}
use Rattle.cell_state.proofs.NamingLemmas.{or_this, naming-cons}
use Rattle.cell_state.proofs.ApplyLemmas.{before-settled, are-settled}
use Rattle.cell_state.proofs.HeightLemmas.{block-makes}
use Rattle.cell_state.proofs.PassLemmas.{unmarked-twice, spent_mark-before}

-- ---- One change, made at each element that passes

pub passed-once : {A : Type 0} (test : A → Bool) (f : Option Slot → Option Slot) → ((slot : Option Slot) → f (f slot) ≡ f slot) → (list : List A) (slot : Option Slot)
    → passed test (λ one. f) list slot ≡ (if list_any test list then f slot else slot)
passed-once test f twice [] slot = refl
passed-once test f twice (first ∷ later) slot = by_test (test first) (passed-once test f twice later)
  where
    any : (b : Bool) → (if b then f (f slot) else f slot) ≡ f slot
    any true = twice slot
    any false = refl

    by_test : (b : Bool) → ((other : Option Slot) → passed test (λ one. f) later other ≡ (if list_any test later then f other else other))
        → passed test (λ one. f) later (if b then f slot else slot) ≡ (if b || list_any test later then f slot else slot)
    by_test true rest = rest (f slot) ∙ any (list_any test later)
    by_test false rest = rest slot

spent-twice : (slot : Option Slot) → spent_mark (spent_mark slot) ≡ spent_mark slot
spent-twice None = refl
spent-twice (Some (Live row)) = refl
spent-twice (Some (Spent row)) = refl
spent-twice (Some Added) = refl
spent-twice (Some Gone) = refl

pub made-twice : (slot : Option Slot) → made_mark (made_mark slot) ≡ made_mark slot
made-twice None = refl
made-twice (Some (Live row)) = refl
made-twice (Some (Spent row)) = refl
made-twice (Some Added) = refl
made-twice (Some Gone) = refl

settled-twice : (slot : Option Slot) → settled_spent (settled_spent slot) ≡ settled_spent slot
settled-twice None = refl
settled-twice (Some (Live row)) = refl
settled-twice (Some (Spent row)) = refl
settled-twice (Some Added) = refl
settled-twice (Some Gone) = refl

-- ---- Rows written

written-live : (o : OutPoint) (list : List (OutPoint × Row)) (row : Row) → passed (is_at o) row_written list (Some (Live row)) ≡ settled (put_at list o (Some row))
written-live o [] row = refl
written-live o (one ∷ later) row = by_test (same_out_point one.0 o) (written-live o later)
  where
    by_test : (b : Bool) → ((other : Row) → passed (is_at o) row_written later (Some (Live other)) ≡ settled (put_at later o (Some other)))
        → passed (is_at o) row_written later (if b then Some (Live one.1) else Some (Live row)) ≡ settled (put_at later o (if b then Some one.1 else Some row))
    by_test true rest = rest one.1
    by_test false rest = rest row

written-named : (o : OutPoint) (list : List (OutPoint × Row)) (slot : Slot) (found : Option Row) → list_any (is_at o) list ≡ true
    → passed (is_at o) row_written list (Some slot) ≡ settled (put_at list o found)
written-named o [] slot found any = absurd (cc)
written-named o (one ∷ later) slot found any = by_test (same_out_point one.0 o) any (written-named o later slot found)
  where
    by_test : (b : Bool) → (b || list_any (is_at o) later) ≡ true
        → (list_any (is_at o) later ≡ true → passed (is_at o) row_written later (Some slot) ≡ settled (put_at later o found))
        → passed (is_at o) row_written later (if b then Some (Live one.1) else Some slot) ≡ settled (put_at later o (if b then Some one.1 else found))
    by_test true some rest = written-live o later one.1
    by_test false some rest = rest some

written-unnamed : (o : OutPoint) (list : List (OutPoint × Row)) (slot : Option Slot) → list_any (is_at o) list ≡ false → passed (is_at o) row_written list slot ≡ slot
written-unnamed o [] slot none = refl
written-unnamed o (one ∷ later) slot none = by_test (same_out_point one.0 o) none (written-unnamed o later slot)
  where
    by_test : (b : Bool) → (b || list_any (is_at o) later) ≡ false → (list_any (is_at o) later ≡ false → passed (is_at o) row_written later slot ≡ slot)
        → passed (is_at o) row_written later (if b then row_written one slot else slot) ≡ slot
    by_test true unnamed rest = absurd (cc)
    by_test false unnamed rest = rest unnamed

put-unnamed : (o : OutPoint) (list : List (OutPoint × Row)) (found : Option Row) → list_any (is_at o) list ≡ false → put_at list o found ≡ found
put-unnamed o [] found none = refl
put-unnamed o (one ∷ later) found none = by_test (same_out_point one.0 o) none (put-unnamed o later found)
  where
    by_test : (b : Bool) → (b || list_any (is_at o) later) ≡ false → (list_any (is_at o) later ≡ false → put_at later o found ≡ found)
        → put_at later o (if b then Some one.1 else found) ≡ found
    by_test true unnamed rest = absurd (cc)
    by_test false unnamed rest = rest unnamed

-- ---- A block taken back

record IsPut (slot : Option Slot) : Type 0 where
  there : Slot
  is : settled_spent (made_mark slot) ≡ Some there
  same : made_mark slot ≡ Some there

is-put : (slot : Option Slot) → IsPut slot
is-put None = record { there = Added; is = refl; same = refl }
is-put (Some (Live row)) = record { there = Live row; is = refl; same = refl }
is-put (Some (Spent row)) = record { there = Live row; is = refl; same = refl }
is-put (Some Added) = record { there = Added; is = refl; same = refl }
is-put (Some Gone) = record { there = Added; is = refl; same = refl }

dropped-gone : (found : Option Row) → settled_spent (spent_mark (settled found)) ≡ None
dropped-gone None = refl
dropped-gone (Some row) = refl

-- by whether the block makes the out-point, and whether a row of it is put back
slot-back : (made put : Bool) (o : OutPoint) (list : List (OutPoint × Row)) (found : Option Row) (dropped marked kept new : Option Slot)
    → list_any (is_at o) list ≡ put
    → dropped ≡ (if made then spent_mark (settled found) else settled found)
    → marked ≡ (if put then made_mark dropped else dropped)
    → kept ≡ (if made then settled_spent marked else marked)
    → new ≡ passed (is_at o) row_written list kept
    → new ≡ settled (put_at list o (if made then None else found))
slot-back made true o list found dropped marked kept new any at_drop at_mark at_keep at_new =
    let it = is-put dropped in
    let there : kept ≡ Some it.there = by_made made at_keep it in
    at_new ∙ ap (passed (is_at o) row_written list) there ∙ written-named o list it.there (if made then None else found) any
  where
    by_made : (b : Bool) → kept ≡ (if b then settled_spent marked else marked) → (it : IsPut dropped) → kept ≡ Some it.there
    by_made true is it = is ∙ ap settled_spent at_mark ∙ it.is
    by_made false is it = is ∙ at_mark ∙ it.same
slot-back true false o list found dropped marked kept new any at_drop at_mark at_keep at_new =
    at_new ∙ written-unnamed o list kept any ∙ at_keep ∙ ap settled_spent (at_mark ∙ at_drop) ∙ dropped-gone found
    ∙ ap settled (sym (put-unnamed o list None any))
slot-back false false o list found dropped marked kept new any at_drop at_mark at_keep at_new =
    at_new ∙ written-unnamed o list kept any ∙ at_keep ∙ at_mark ∙ at_drop ∙ ap settled (sym (put-unnamed o list found any))

undone-at : (events : List Event) (spent : List (OutPoint × Row)) (found : OutPoint → Option Row) (o : OutPoint)
    → undone events spent found o ≡ put_at spent o (if list_any (makes o) events then None else found o)
unfolding undone
undone-at events spent found o = with_rows-at spent (without_made events found) o

pub given-back : (events : List Event) (spent : List (OutPoint × Row)) (old dropped marked kept new : StateValue) → AreSettled old
    → ((o : OutPoint) → at dropped o ≡ passed (makes o) (λ event. spent_mark) events (at old o))
    → ((o : OutPoint) → at marked o ≡ passed (is_at o) (λ one. made_mark) spent (at dropped o))
    → ((o : OutPoint) → at kept o ≡ passed (makes o) (λ event. settled_spent) events (at marked o))
    → ((o : OutPoint) → at new o ≡ passed (is_at o) row_written spent (at kept o))
    → (o : OutPoint) → at new o ≡ settled (undone events spent (rows old) o)
given-back events spent old dropped marked kept new is at_drop at_mark at_keep at_new o =
    slot-back (list_any (makes o) events) (list_any (is_at o) spent) o spent (rows old o) (at dropped o) (at marked o) (at kept o) (at new o) refl
    (at_drop o ∙ passed-once (makes o) spent_mark spent-twice events (at old o)
    ∙ ap (λ (slot : Option Slot). if list_any (makes o) events then spent_mark slot else slot) (is o))
    (at_mark o ∙ passed-once (is_at o) made_mark made-twice spent (at dropped o))
    (at_keep o ∙ passed-once (makes o) settled_spent settled-twice events (at marked o))
    (at_new o)
    ∙ ap settled (sym (undone-at events spent (rows old) o))

-- ---- Rows that cannot be put back

made-none : (o : OutPoint) (event : Event) (b : Bool) → names o event ≡ b → (if b then Some event else None) ≡ None → makes o event ≡ false
made-none o event true named none = absurd (cc)
made-none o (Makes p cell) false apart none = apart
made-none o (Spends p) false apart none = refl

or-both : (o : OutPoint) (event : Event) (last : Option Event) → or_this o event last ≡ None → (last ≡ None) × ((if names o event then Some event else None) ≡ None)
or-both o event None none = (refl, none)
or-both o event (Some last) none = absurd (cc)

unnamed-unmade : (o : OutPoint) (events : List Event) → last_naming o events ≡ None → list_any (makes o) events ≡ false
unnamed-unmade o [] none = refl
unnamed-unmade o (event ∷ later) none =
    let both = or-both o event (last_naming o later) (sym (naming-cons o event later) ∙ none) in
    ap (λ (b : Bool). b || list_any (makes o) later) (made-none o event (names o event) refl both.1) ∙ unnamed-unmade o later both.0

dropped-before : (made : Bool) (slot : Option Slot) → row_before (if made then spent_mark slot else slot) ≡ row_before slot
dropped-before true slot = spent_mark-before slot
dropped-before false slot = refl

by-before : (last : Option Event) (slot : Option Slot) → row_before (unmarked_by last slot) ≡ row_before slot
by-before None slot = refl
by-before (Some event) slot = before-settled (row_before slot)

slot-kept : (last : Option Event) (made put : Bool) (old dropped marked left new : Option Slot) → (last ≡ None → made ≡ false) → old ≡ settled (row_before old)
    → dropped ≡ (if made then spent_mark old else old)
    → row_before marked ≡ row_before dropped → (put ≡ false → marked ≡ dropped)
    → left ≡ unmarked_by last marked
    → new ≡ (if put then unmarked left else left)
    → new ≡ old
slot-kept last made true old dropped marked left new unmade is at_drop before unnamed at_left at_new =
    at_new
    ∙ ap settled (ap row_before at_left ∙ by-before last marked ∙ before ∙ ap row_before at_drop ∙ dropped-before made old)
    ∙ sym is
slot-kept None made false old dropped marked left new unmade is at_drop before unnamed at_left at_new =
    at_new ∙ at_left ∙ unnamed refl ∙ at_drop ∙ ap (λ (b : Bool). if b then spent_mark old else old) (unmade refl)
slot-kept (Some event) made false old dropped marked left new unmade is at_drop before unnamed at_left at_new =
    at_new ∙ at_left ∙ ap settled (before ∙ ap row_before at_drop ∙ dropped-before made old) ∙ sym is

pub kept : (events : List Event) (spent : List (OutPoint × Row)) (old dropped marked left new : StateValue) → AreSettled old
    → ((o : OutPoint) → at dropped o ≡ passed (makes o) (λ event. spent_mark) events (at old o))
    → ((o : OutPoint) → rows marked o ≡ rows dropped o)
    → ((o : OutPoint) → list_any (is_at o) spent ≡ false → at marked o ≡ at dropped o)
    → ((o : OutPoint) → at left o ≡ unmarked_by (last_naming o events) (at marked o))
    → ((o : OutPoint) → at new o ≡ passed (is_at o) (λ one. unmarked) spent (at left o))
    → (o : OutPoint) → at new o ≡ at old o
kept events spent old dropped marked left new is at_drop before unnamed at_left at_new o =
    slot-kept (last_naming o events) (list_any (makes o) events) (list_any (is_at o) spent) (at old o) (at dropped o) (at marked o) (at left o) (at new o)
    (unnamed-unmade o events) (is o)
    (at_drop o ∙ passed-once (makes o) spent_mark spent-twice events (at old o))
    (before o) (unnamed o) (at_left o)
    (at_new o ∙ passed-once (is_at o) unmarked unmarked-twice spent (at left o))

-- ---- What is live when rows are put back

there-settled : (made : Bool) (found : Option Row) → is_some (if made then None else found) ≡ is_live (if made then spent_mark (settled found) else settled found)
there-settled true None = refl
there-settled true (Some row) = refl
there-settled false None = refl
there-settled false (Some row) = refl

pub there-dropped : (events : List Event) (old dropped : StateValue) → AreSettled old
    → ((o : OutPoint) → at dropped o ≡ passed (makes o) (λ event. spent_mark) events (at old o)) → AreThere (without_made events (rows old)) dropped
there-dropped events old dropped is at_drop o =
    there-settled (list_any (makes o) events) (rows old o)
    ∙ ap is_live (ap (λ (slot : Option Slot). if list_any (makes o) events then spent_mark slot else slot) (sym (is o))
    ∙ sym (at_drop o ∙ passed-once (makes o) spent_mark spent-twice events (at old o)))

pub clash-is : (events : List Event) (spent : List (OutPoint × Row)) (found : OutPoint → Option Row) → first_clash events spent found ≡ first_live spent (without_made events found)
unfolding first_clash
clash-is events spent found = refl

-- ---- At any height

first-same : (list : List (OutPoint × Row)) (one other : OutPoint → Option Row) → ((o : OutPoint) → one o ≡ other o) → first_live list one ≡ first_live list other
first-same [] one other same = refl
first-same (put ∷ later) one other same =
    ap (λ (found : Option Row). if is_some found then Some put.0 else first_live later (with_row put one)) (same put.0)
    ∙ ap (λ (rest : Option OutPoint). if is_some (other put.0) then Some put.0 else rest)
    (first-same later (with_row put one) (with_row put other) (λ o. ap (λ (found : Option Row). if same_out_point put.0 o then Some put.1 else found) (same o)))

pub undone-above : (height : ℕ) (b : Block) (spent : List (OutPoint × Row)) (found : OutPoint → Option Row) (o : OutPoint)
    → undone (events_of_block height b) spent found o ≡ undone (events_of_block 1 b) spent found o
undone-above height b spent found o =
    undone-at (events_of_block height b) spent found o
    ∙ ap (λ (made : Bool). put_at spent o (if made then None else found o)) (block-makes o height b)
    ∙ sym (undone-at (events_of_block 1 b) spent found o)

pub clash-above : (height : ℕ) (b : Block) (spent : List (OutPoint × Row)) (found : OutPoint → Option Row)
    → first_clash (events_of_block height b) spent found ≡ first_clash (events_of_block 1 b) spent found
clash-above height b spent found =
    clash-is (events_of_block height b) spent found
    ∙ first-same spent (without_made (events_of_block height b) found) (without_made (events_of_block 1 b) found)
    (λ o. ap (λ (made : Bool). if made then None else found o) (block-makes o height b))
    ∙ sym (clash-is (events_of_block 1 b) spent found)

-- ---- Answers

pub on-ok : {T E P Q : Type 0} (r : Result T E) → (P → Q) → OnOk r P → OnOk r Q
on-ok (Ok x) turns p = turns p
on-ok (Err e) turns p = tt

pub on-err : {T E P Q : Type 0} (r : Result T E) → (P → Q) → OnErr r P → OnErr r Q
on-err (Ok x) turns p = tt
on-err (Err e) turns p = turns p

pub if-err : {T E : Type 0} {P Q : E → Type 0} (r : Result T E) → ((e : E) → P e → Q e) → IfErr r P → IfErr r Q
if-err (Ok x) turns p = tt
if-err (Err e) turns p = turns e p

pub settled-after : {T E : Type 0} (r : Result T E) (wanted : OutPoint → Option Row) (old new : StateValue) → AreSettled old
    → OnOk r ((o : OutPoint) → at new o ≡ settled (wanted o)) → OnErr r ((o : OutPoint) → at new o ≡ at old o) → AreSettled new
settled-after (Ok x) wanted old new is ok err = are-settled new wanted ok
settled-after (Err e) wanted old new is ok err = λ o. err o ∙ is o ∙ ap settled (ap row_before (sym (err o)))

pub comes-back : {T : Type 0} (r : Result T odd.the_data) (events : List Event) (spent : List (OutPoint × Row)) (old new : StateValue) (before : OutPoint → Option Row)
    → ComesBefore events spent (rows old) before
    → OnOk r ((o : OutPoint) → rows new o ≡ undone events spent (rows old) o)
    → IfErr r (λ it. option_map odd.Live (first_clash events spent (rows old)) ≡ Some it)
    → IsOk r × ((o : OutPoint) → rows new o ≡ before o)
comes-back (Ok x) events spent old new before it ok err = (refl, λ o. ok o ∙ (takes-back events spent (rows old) before it).1 o)
comes-back (Err e) events spent old new before it ok err =
    absurd (none-some e (ap (option_map odd.Live) (sym (takes-back events spent (rows old) before it).0) ∙ err))
