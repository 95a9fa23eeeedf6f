-- The events of a block at two heights above 0 differ in the heights of the cells alone, on which no row depends.
use Rattle.std.proofs.Common.{◌≡◌, ℕ, suc, ◌+◌, ◌<◌, Bool, true, false, List, [], ◌∷◌, ◌++◌, length, map, take, Option, Some, None, slice_get, ◌||◌, ◌==◌, if◌then◌else◌, refl, sym, ap, ◌∙◌, subst, arith}
use Rattle.std.specs.Option.{option_map}
use Rattle.std.specs.List.{sum_by, list_any}
use Rattle.std.proofs.lemmas.List.Folds.{list_any-append}
use Rattle.chain_defs.specs.CellLaws.{makes}
use Rattle.std.proofs.lemmas.List.{map-append, take-map}
use Rattle.std.proofs.lemmas.List.Sums.{sum_by-cons}
use Rattle.std.proofs.lemmas.Option.{slice_get-map, same_Some, none-some}
use Rattle.chain_defs.specs.Schema.{OutPoint, CellInput, CellOutput, Transaction, Block}
use Rattle.chain_defs.specs.Events.{Event, Makes, Spends, names, last_naming, makes_from, spends_of, events_of, events_from, events_of_block}
use Rattle.chain_defs.specs.Row.{Row, row_or, row_after}
use Rattle.cell_state.specs.Fit.{IsFirstOdd, odd_of}
use Rattle.std.specs.Prelude.{not, IsTrue}
use Rattle.chain_defs.specs.Fit.{live_by, live_after, fits, AllFit}
use Rattle.cell_state.specs.declared.odd.Odd.{Odd}
use Rattle.cell_state.specs.State.{outputs_of}
use Rattle.cell_state.specs.Passes.{makes_in}
use Rattle.std.proofs.lemmas.Bool.{false_from_ne_true}
use Rattle.std.proofs.lemmas.Bool.Decides.{Decides-eqb}
use Rattle.cell_state.proofs.EventLemmas.{make}
use Rattle.cell_state.proofs.NamingLemmas.{or_this, naming-cons, naming-nil, row-after}

-- an event at another height
abbrev raised : ℕ → Event → Event
raised height (Makes o cell) = Makes o (record cell { height = height })
raised height (Spends o) = Spends o

-- ---- Events of a block

makes-raised : (height first : ℕ) (outputs : List CellOutput) (t : Transaction) (place : ℕ)
    → makes_from first outputs t height place ≡ map (raised height) (makes_from first outputs t 1 place)
makes-raised height first [] t place = refl
makes-raised height first (output ∷ outputs) t place =
    ap (λ (es : List Event). make t height place first output ∷ es) (makes-raised height (first + 1) outputs t place)

spends-raised : (height : ℕ) (inputs : List CellInput)
    → map (λ (i : CellInput). Spends i.previous_output) inputs ≡ map (raised height) (map (λ (i : CellInput). Spends i.previous_output) inputs)
spends-raised height [] = refl
spends-raised height (input ∷ inputs) = ap (λ (es : List Event). Spends input.previous_output ∷ es) (spends-raised height inputs)

front-raised : (height : ℕ) (t : Transaction) (cellbase : Bool)
    → (if cellbase then [] else spends_of t) ≡ map (raised height) (if cellbase then [] else spends_of t)
front-raised height t true = refl
front-raised height t false = spends-raised height t.raw.inputs

above : (height : ℕ) (cellbase : Bool) → 0 < height → ((height == 0) || cellbase) ≡ cellbase
above height cellbase h =
    let no : (height == 0) ≡ false = false_from_ne_true (height == 0) (λ is. let none = (Decides-eqb height 0).0 is in absurd (omega (arith, none, h))) in
    ap (λ (b : Bool). b || cellbase) no

transaction-raised : (height : ℕ) (t : Transaction) (place : ℕ) → 0 < height → events_of t height place ≡ map (raised height) (events_of t 1 place)
transaction-raised height t place h =
    ap (λ (b : Bool). (if b then [] else spends_of t) ++ makes_from 0 t.raw.outputs t height place) (above height (place == 0) h)
    ∙ ap (λ (es : List Event). es ++ makes_from 0 t.raw.outputs t height place) (front-raised height t (place == 0))
    ∙ ap (λ (es : List Event). map (raised height) (if place == 0 then [] else spends_of t) ++ es) (makes-raised height 0 t.raw.outputs t place)
    ∙ sym (map-append (raised height) (if place == 0 then [] else spends_of t) (makes_from 0 t.raw.outputs t 1 place))

transactions-raised : (height place : ℕ) (ts : List Transaction) → 0 < height → events_from place ts height ≡ map (raised height) (events_from place ts 1)
transactions-raised height place [] h = refl
transactions-raised height place (t ∷ later) h =
    ap (λ (es : List Event). es ++ events_from (place + 1) later height) (transaction-raised height t place h)
    ∙ ap (λ (es : List Event). map (raised height) (events_of t 1 place) ++ es) (transactions-raised height (place + 1) later h)
    ∙ sym (map-append (raised height) (events_of t 1 place) (events_from (place + 1) later 1))

block-raised : (height : ℕ) (b : Block) → 0 < height → events_of_block height b ≡ map (raised height) (events_of_block 1 b)
unfolding events_of_block
block-raised height b h = transactions-raised height 0 b.transactions h

-- ---- Rows and fitting

names-raised : (height : ℕ) (o : OutPoint) (event : Event) → names o (raised height event) ≡ names o event
names-raised height o (Makes p cell) = refl
names-raised height o (Spends p) = refl

this-raised : (height : ℕ) (o : OutPoint) (event : Event) (b : Bool) → (if b then Some (raised height event) else None) ≡ option_map (raised height) (if b then Some event else None)
this-raised height o event true = refl
this-raised height o event false = refl

or-raised : (height : ℕ) (o : OutPoint) (event : Event) (found : Option Event)
    → or_this o (raised height event) (option_map (raised height) found) ≡ option_map (raised height) (or_this o event found)
or-raised height o event None =
    ap (λ (b : Bool). if b then Some (raised height event) else None) (names-raised height o event) ∙ this-raised height o event (names o event)
or-raised height o event (Some last) = refl

last-raised : (height : ℕ) (o : OutPoint) (events : List Event) → last_naming o (map (raised height) events) ≡ option_map (raised height) (last_naming o events)
last-raised height o [] = naming-nil o ∙ ap (option_map (raised height)) (sym (naming-nil o))
last-raised height o (event ∷ later) =
    naming-cons o (raised height event) (map (raised height) later)
    ∙ ap (or_this o (raised height event)) (last-raised height o later)
    ∙ or-raised height o event (last_naming o later)
    ∙ ap (option_map (raised height)) (sym (naming-cons o event later))

row-raised : (place height : ℕ) (before : Option Row) (last : Option Event) → row_or place before (option_map (raised height) last) ≡ row_or place before last
row-raised place height before None = refl
row-raised place height before (Some (Makes o cell)) = refl
row-raised place height before (Some (Spends o)) = refl

rows-raised : (place height : ℕ) (events : List Event) (rows : OutPoint → Option Row) (o : OutPoint)
    → row_after place (map (raised height) events) rows o ≡ row_after place events rows o
rows-raised place height events rows o =
    row-after place (map (raised height) events) rows o
    ∙ ap (row_or place (rows o)) (last-raised height o events)
    ∙ row-raised place height (rows o) (last_naming o events)
    ∙ sym (row-after place events rows o)

pub rows-above : (place height : ℕ) (b : Block) (rows : OutPoint → Option Row) (o : OutPoint) → 0 < height
    → row_after place (events_of_block 1 b) rows o ≡ row_after place (events_of_block height b) rows o
rows-above place height b rows o h =
    sym (rows-raised place height (events_of_block 1 b) rows o) ∙ ap (λ (es : List Event). row_after place es rows o) (sym (block-raised height b h))

live-raised : (height : ℕ) (events : List Event) (live : OutPoint → Bool) (o : OutPoint) → live_after (map (raised height) events) live o ≡ live_after events live o
unfolding live_after
live-raised height events live o = ap (λ (last : Option Event). live_by last (live o)) (last-raised height o events) ∙ by_last (last_naming o events)
  where
    by_last : (last : Option Event) → live_by (option_map (raised height) last) (live o) ≡ live_by last (live o)
    by_last None = refl
    by_last (Some (Makes p cell)) = refl
    by_last (Some (Spends p)) = refl

fits-raised : (height : ℕ) (events : List Event) (live : OutPoint → Bool) (event : Event)
    → fits (live_after (map (raised height) events) live) (raised height event) ≡ fits (live_after events live) event
fits-raised height events live (Makes o cell) = ap not (live-raised height events live o)
fits-raised height events live (Spends o) = live-raised height events live o

pub map-some : {A B : Type 0} (f : A → B) (found : Option A) (y : B) → option_map f found ≡ Some y → (x : A) × (found ≡ Some x) × (f x ≡ y)
map-some f None y is = absurd (none-some y is)
map-some f (Some x) y is = (x, refl, same_Some (f x) y is)

all-raised : (height : ℕ) (events : List Event) (live : OutPoint → Bool) → AllFit events live → AllFit (map (raised height) events) live
all-raised height events live fit count event there =
    let found = map-some (raised height) (slice_get events count) event (sym (slice_get-map (raised height) events count) ∙ there) in
    subst (λ (e : Event). IsTrue (fits (live_after (take count (map (raised height) events)) live) e)) found.2
    (subst (λ (es : List Event). IsTrue (fits (live_after es live) (raised height found.0))) (sym (take-map (raised height) count events))
    (fits-raised height (take count events) live found.0 ∙ fit count found.0 found.1))

pub all-above : (height : ℕ) (b : Block) (live : OutPoint → Bool) → 0 < height → AllFit (events_of_block 1 b) live → AllFit (events_of_block height b) live
all-above height b live h fit =
    subst (λ (es : List Event). AllFit es live) (sym (block-raised height b h)) (all-raised height (events_of_block 1 b) live fit)

odd-raised : (height : ℕ) (event : Event) → odd_of (raised height event) ≡ odd_of event
odd-raised height (Makes o cell) = refl
odd-raised height (Spends o) = refl

pub odd-above : (height : ℕ) (b : Block) (live : OutPoint → Bool) (cause : Odd) → 0 < height
    → IsFirstOdd (events_of_block 1 b) live cause → IsFirstOdd (events_of_block height b) live cause
odd-above height b live cause h so = record {
  earlier = map (raised height) so.earlier;
  event = raised height so.event;
  later = map (raised height) so.later;
  parts = block-raised height b h ∙ ap (map (raised height)) so.parts ∙ map-append (raised height) so.earlier (so.event ∷ so.later);
  fit = all-raised height so.earlier live so.fit;
  unfit = fits-raised height so.earlier live so.event ∙ so.unfit;
  cause = so.cause ∙ sym (odd-raised height so.event);
}

-- ---- How many makes there are

makes-append : (xs ys : List Event) → makes_in (xs ++ ys) ≡ makes_in xs + makes_in ys
makes-append [] ys = omega arith
makes-append (Makes o cell ∷ xs) ys = let more = makes-append xs ys in omega (arith, more)
makes-append (Spends o ∷ xs) ys = makes-append xs ys

makes-outputs : (first : ℕ) (outputs : List CellOutput) (t : Transaction) (height place : ℕ) → makes_in (makes_from first outputs t height place) ≡ length outputs
makes-outputs first [] t height place = refl
makes-outputs first (output ∷ outputs) t height place = ap suc (makes-outputs (first + 1) outputs t height place)

makes-inputs : (inputs : List CellInput) → makes_in (map (λ (i : CellInput). Spends i.previous_output) inputs) ≡ 0
makes-inputs [] = refl
makes-inputs (input ∷ inputs) = makes-inputs inputs

makes-front : (t : Transaction) (none : Bool) → makes_in (if none then [] else spends_of t) ≡ 0
makes-front t true = refl
makes-front t false = makes-inputs t.raw.inputs

makes-transaction : (t : Transaction) (height place : ℕ) → makes_in (events_of t height place) ≡ length t.raw.outputs
makes-transaction t height place =
    let front = makes-front t ((height == 0) || (place == 0)) in
    let back = makes-outputs 0 t.raw.outputs t height place in
    let both = makes-append (if (height == 0) || (place == 0) then [] else spends_of t) (makes_from 0 t.raw.outputs t height place) in
    omega (arith, front, back, both)

makes-transactions : (place : ℕ) (ts : List Transaction) (height : ℕ) → makes_in (events_from place ts height) ≡ sum_by (λ (t : Transaction). length t.raw.outputs) ts
makes-transactions place [] height = refl
makes-transactions place (t ∷ later) height =
    let first = makes-transaction t height place in
    let behind = makes-transactions (place + 1) later height in
    let both = makes-append (events_of t height place) (events_from (place + 1) later height) in
    let sum = sum_by-cons (λ (x : Transaction). length x.raw.outputs) t later in
    omega (arith, first, behind, both, sum)

pub makes-block : (b : Block) (height : ℕ) → makes_in (events_of_block height b) ≡ outputs_of b
unfolding events_of_block
makes-block b height = makes-transactions 0 b.transactions height

-- ---- What a block makes

unspent : (o : OutPoint) (inputs : List CellInput) → list_any (makes o) (map (λ (i : CellInput). Spends i.previous_output) inputs) ≡ false
unspent o [] = refl
unspent o (input ∷ inputs) = unspent o inputs

none-spent : (o : OutPoint) (t : Transaction) (cellbase : Bool) → list_any (makes o) (if cellbase then [] else spends_of t) ≡ false
none-spent o t true = refl
none-spent o t false = unspent o t.raw.inputs

same-made : (o : OutPoint) (height first : ℕ) (outputs : List CellOutput) (t : Transaction) (place : ℕ)
    → list_any (makes o) (makes_from first outputs t height place) ≡ list_any (makes o) (makes_from first outputs t 1 place)
same-made o height first [] t place = refl
same-made o height first (output ∷ outputs) t place =
    ap (λ (b : Bool). makes o (make t height place first output) || b) (same-made o height (first + 1) outputs t place)

transaction-makes : (o : OutPoint) (height : ℕ) (t : Transaction) (place : ℕ)
    → list_any (makes o) (events_of t height place) ≡ list_any (makes o) (makes_from 0 t.raw.outputs t 1 place)
transaction-makes o height t place =
    list_any-append (makes o) (if (height == 0) || (place == 0) then [] else spends_of t) (makes_from 0 t.raw.outputs t height place)
    ∙ ap (λ (b : Bool). b || list_any (makes o) (makes_from 0 t.raw.outputs t height place)) (none-spent o t ((height == 0) || (place == 0)))
    ∙ same-made o height 0 t.raw.outputs t place

transactions-make : (o : OutPoint) (height place : ℕ) (ts : List Transaction) → list_any (makes o) (events_from place ts height) ≡ list_any (makes o) (events_from place ts 1)
transactions-make o height place [] = refl
transactions-make o height place (t ∷ later) =
    list_any-append (makes o) (events_of t height place) (events_from (place + 1) later height)
    ∙ ap (λ (b : Bool). b || list_any (makes o) (events_from (place + 1) later height)) (transaction-makes o height t place ∙ sym (transaction-makes o 1 t place))
    ∙ ap (λ (b : Bool). list_any (makes o) (events_of t 1 place) || b) (transactions-make o height (place + 1) later)
    ∙ sym (list_any-append (makes o) (events_of t 1 place) (events_from (place + 1) later 1))

-- a block makes the same out-points at every height
pub block-makes : (o : OutPoint) (height : ℕ) (b : Block) → list_any (makes o) (events_of_block height b) ≡ list_any (makes o) (events_of_block 1 b)
unfolding events_of_block
block-makes o height b = transactions-make o height 0 b.transactions
