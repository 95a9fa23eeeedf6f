-- On the last of some events that names an out-point, and what those leave that fit.
use Rattle.std.proofs.Common.{◌≡◌, ℕ, Bool, true, false, List, [], ◌∷◌, ◌++◌, Option, Some, None, is_some, if◌then◌else◌, refl, sym, ap, ◌∙◌}
use Rattle.chain_defs.specs.Schema.{OutPoint}
use Rattle.chain_defs.specs.Events.{Event, Makes, Spends, names, last_naming}
use Rattle.chain_defs.specs.Row.{Row, row_or, row_after}
use Rattle.chain_defs.specs.Fit.{are_live, live_by, live_after}
use Rattle.cell_state.specs.Slots.{StateValue, at, rows, row_before, is_live, settled, AreSettled}
use Rattle.cell_state.specs.Passes.{AreMarked}
use Rattle.cell_state.specs.declared.slots.Slot.{Slot}
use Rattle.cell_state.specs.declared.slots.Slot.TheVariants.{Live, Spent, Added, Gone}

-- ---- The last event that names an out-point

-- the last of those after, or else this one where it names it
abbrev pub or_this : OutPoint → Event → Option Event → Option Event
or_this o event None = if names o event then Some event else None
or_this o event (Some last) = Some last

pub naming-cons : (o : OutPoint) (event : Event) (later : List Event) → last_naming o (event ∷ later) ≡ or_this o event (last_naming o later)
unfolding last_naming
naming-cons o event later = refl

pub naming-nil : (o : OutPoint) → last_naming o [] ≡ None
unfolding last_naming
naming-nil o = refl

if-or : (o : OutPoint) (first event : Event) (found : Option Event) (b : Bool)
    → or_this o first (if b then Some event else found) ≡ (if b then Some event else or_this o first found)
if-or o first event found true = refl
if-or o first event found false = refl

pub last-push : (o : OutPoint) (done : List Event) (event : Event) → last_naming o (done ++ event ∷ []) ≡ (if names o event then Some event else last_naming o done)
last-push o [] event =
    naming-cons o event []
    ∙ ap (or_this o event) (naming-nil o)
    ∙ ap (λ (f : Option Event). if names o event then Some event else f) (sym (naming-nil o))
last-push o (first ∷ done) event =
    naming-cons o first (done ++ event ∷ [])
    ∙ ap (or_this o first) (last-push o done event)
    ∙ if-or o first event (last_naming o done) (names o event)
    ∙ ap (λ (f : Option Event). if names o event then Some event else f) (sym (naming-cons o first done))

or-none : (o : OutPoint) (event : Event) (found : Option Event) → or_this o event found ≡ None → found ≡ None
or-none o event None is = refl
or-none o event (Some last) is = is

-- what names no out-point after, and what does not before
pub unnamed-front : (o : OutPoint) (done later : List Event) → last_naming o (done ++ later) ≡ None → last_naming o done ≡ None
unnamed-front o [] later is = naming-nil o
unnamed-front o (event ∷ done) later is =
    let cons = sym (naming-cons o event (done ++ later)) ∙ is in
    let behind = or-none o event (last_naming o (done ++ later)) cons in
    naming-cons o event done
    ∙ ap (or_this o event) (unnamed-front o done later behind ∙ sym behind)
    ∙ cons

-- ---- Rows after events

pub row-after : (place : ℕ) (events : List Event) (rows : OutPoint → Option Row) (o : OutPoint)
    → row_after place events rows o ≡ row_or place (rows o) (last_naming o events)
unfolding row_after
row-after place events rows o = refl

-- ---- What is live

-- whether a slot is live by its marks
live-by_row : (last : Option Event) (slot : Option Slot) → slot ≡ settled (row_before slot)
    → live_by last (is_live slot) ≡ live_by last (is_some (row_before slot))
live-by_row None None is = refl
live-by_row None (Some (Live row)) is = refl
live-by_row None (Some (Spent row)) is = cc
live-by_row None (Some Added) is = cc
live-by_row None (Some Gone) is = cc
live-by_row (Some (Makes o cell)) slot is = refl
live-by_row (Some (Spends o)) slot is = refl

-- what the marks call live is live after the events
pub live-marked : (done : List Event) (old new : StateValue) → AreSettled old → AreMarked done old new
    → (o : OutPoint) → is_live (at new o) ≡ live_after done (are_live (rows old)) o
unfolding live_after
live-marked done old new settled-before marked o = marked o ∙ live-by_row (last_naming o done) (at old o) (settled-before o)
