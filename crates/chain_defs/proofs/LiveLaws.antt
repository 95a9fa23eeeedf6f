-- The list of live cells has just the live cells, each once.
use Rattle.std.proofs.Common.{◌≡◌, zero, suc, ◌⊎◌, inl, inr, ⊎_elim, Bool, true, false, List, [], ◌∷◌, map, Option, Some, None, refl, sym, ap, ◌∙◌, subst, arith}
use Rattle.std.specs.Prelude.{if◌then◌else◌}
use Rattle.std.specs.List.{AllByRecursion, Contains, IsDistinct}
use Rattle.chain_defs.specs.Schema.{OutPoint}
use Rattle.chain_defs.specs.Cell.{Cell}
use Rattle.chain_defs.specs.Events.{Event, Makes, Spends, same_out_point, last_naming, cell_left, cell_after}
use Rattle.chain_defs.proofs.EventLemmas.{out_points-same}
use Rattle.chain_defs.proofs.NamingLemmas.{out_point-self}
use Rattle.chain_defs.specs.LiveCells.{live_cells, ListsJustTheLive, ListsEachOnce}

-- ---- Elements

cons-of : {X : Type 0} (x : X) (xs : List X) (y : X) → Contains (x ∷ xs) y → (x ≡ y) ⊎ Contains xs y
cons-of x xs y (zero, lt, is) = inl is
cons-of x xs y (suc k, lt, is) = inr (k, omega (arith, lt), is)

here : {X : Type 0} (x : X) (xs : List X) → Contains (x ∷ xs) x
here x xs = (0, omega arith, refl)

there : {X : Type 0} (x : X) (xs : List X) (y : X) → Contains xs y → Contains (x ∷ xs) y
there x xs y (k, lt, is) = (suc k, omega (arith, lt), is)

nothing-in : {X : Type 0} (x : X) → Contains [] x → ⊥
nothing-in x (k, lt, is) = omega (arith, lt)

none-cell : (cell : Cell) → cell_left None ≡ Some cell → ⊥
none-cell cell is = cc

-- ---- What is listed is live

-- a later event decides
later-decides : (found rest : Option Event) (cell : Cell) → cell_left found ≡ Some cell → cell_left (elim found [ Some last ↦ Some last | None ↦ rest ]) ≡ Some cell
later-decides None rest cell is = absurd (none-cell cell is)
later-decides (Some last) rest cell is = is

-- what is listed of later events stays listed
stays-listed : (found : Option Event) (o : OutPoint) (made : Cell) (later : List (OutPoint × Cell)) (x : OutPoint × Cell) → Contains later x
    → Contains (elim found [ None ↦ (o, made) ∷ later | Some last ↦ later ]) x
stays-listed None o made later x has = there (o, made) later x has
stays-listed (Some last) o made later x has = has

abbrev after_make : OutPoint → Cell → OutPoint → Option Event → Option Event
after_make p made o found = elim found [ Some last ↦ Some last | None ↦ (if same_out_point p o then Some (Makes p made) else None) ]

abbrev with_make : OutPoint → Cell → Option Event → List (OutPoint × Cell) → List (OutPoint × Cell)
with_make p made found later = elim found [ None ↦ (p, made) ∷ later | Some last ↦ later ]

made-is-live : (p : OutPoint) (made : Cell) (found : Option Event) (o : OutPoint) (cell : Cell) → found ≡ None → ◌≡◌ {A = OutPoint × Cell} (p, made) (o, cell)
    → cell_left (after_make p made o found) ≡ Some cell
made-is-live p made None o cell none is =
    let same : same_out_point p o ≡ true = ap (λ (x : OutPoint × Cell). same_out_point p x.0) (sym is) ∙ out_point-self p in
    rw same (ap (λ (x : OutPoint × Cell). Some x.1) is)
made-is-live p made (Some last) o cell none is = cc

make-is-live : (p : OutPoint) (made : Cell) (later : List Event) (o : OutPoint) (cell : Cell) (found : Option Event) → last_naming p later ≡ found
    → (Contains (live_cells later) (o, cell) → cell_left (last_naming o later) ≡ Some cell)
    → Contains (with_make p made found (live_cells later)) (o, cell) → cell_left (after_make p made o (last_naming o later)) ≡ Some cell
make-is-live p made later o cell None none behind has = ⊎_elim
    (λ same. made-is-live p made (last_naming o later) o cell (ap (λ (x : OutPoint × Cell). last_naming x.0 later) (sym same) ∙ none) same)
    (λ listed. later-decides (last_naming o later) _ cell (behind listed))
    (cons-of (p, made) (live_cells later) (o, cell) has)
make-is-live p made later o cell (Some last) found behind has = later-decides (last_naming o later) _ cell (behind has)

listed-is-live : (events : List Event) (o : OutPoint) (cell : Cell) → Contains (live_cells events) (o, cell) → cell_after events o ≡ Some cell
unfolding live_cells last_naming cell_after
listed-is-live [] o cell has = absurd (nothing-in (o, cell) has)
listed-is-live (Makes p made ∷ later) o cell has = make-is-live p made later o cell (last_naming p later) refl (listed-is-live later o cell) has
listed-is-live (Spends p ∷ later) o cell has = later-decides (last_naming o later) _ cell (listed-is-live later o cell has)

-- ---- What is live is listed

spend-leaves-none : (b : Bool) (p : OutPoint) (cell : Cell) → cell_left (if b then Some (Spends p) else None) ≡ Some cell → ⊥
spend-leaves-none true p cell is = cc
spend-leaves-none false p cell is = cc

make-leaves : (b : Bool) (p : OutPoint) (made cell : Cell) → cell_left (if b then Some (Makes p made) else None) ≡ Some cell → (b ≡ true) × (made ≡ cell)
make-leaves true p made cell is = (refl, cc)
make-leaves false p made cell is = cc

make-is-listed : (p : OutPoint) (made : Cell) (later : List Event) (o : OutPoint) (cell : Cell) (found : Option Event) → last_naming o later ≡ found
    → (cell_left (last_naming o later) ≡ Some cell → Contains (live_cells later) (o, cell))
    → cell_left (after_make p made o found) ≡ Some cell → Contains (with_make p made (last_naming p later) (live_cells later)) (o, cell)
make-is-listed p made later o cell None none behind is =
    let left = make-leaves (same_out_point p o) p made cell is in
    let same : p ≡ o = out_points-same p o left.0 in
    let last : last_naming p later ≡ None = ap (λ (q : OutPoint). last_naming q later) same ∙ none in
    let element : ◌≡◌ {A = OutPoint × Cell} (p, made) (o, cell) = ap (λ (q : OutPoint). (q, made)) same ∙ ap (λ (c : Cell). (o, c)) left.1 in
    rw last (subst (λ (x : OutPoint × Cell). Contains ((p, made) ∷ live_cells later) x) element (here (p, made) (live_cells later)))
make-is-listed p made later o cell (Some last) found behind is =
    stays-listed (last_naming p later) p made (live_cells later) (o, cell) (behind (ap cell_left found ∙ is))

spend-is-listed : (p : OutPoint) (later : List Event) (o : OutPoint) (cell : Cell) (found : Option Event) → last_naming o later ≡ found
    → (cell_left (last_naming o later) ≡ Some cell → Contains (live_cells later) (o, cell))
    → cell_left (elim found [ Some last ↦ Some last | None ↦ (if same_out_point p o then Some (Spends p) else None) ]) ≡ Some cell → Contains (live_cells later) (o, cell)
spend-is-listed p later o cell None none behind is = absurd (spend-leaves-none (same_out_point p o) p cell is)
spend-is-listed p later o cell (Some last) found behind is = behind (ap cell_left found ∙ is)

live-is-listed : (events : List Event) (o : OutPoint) (cell : Cell) → cell_after events o ≡ Some cell → Contains (live_cells events) (o, cell)
unfolding live_cells last_naming cell_after
live-is-listed [] o cell is = absurd (none-cell cell is)
live-is-listed (Makes p made ∷ later) o cell is = make-is-listed p made later o cell (last_naming o later) refl (live-is-listed later o cell) is
live-is-listed (Spends p ∷ later) o cell is = spend-is-listed p later o cell (last_naming o later) refl (live-is-listed later o cell) is

pub lists-just-the-live : ListsJustTheLive
lists-just-the-live events o cell = (listed-is-live events o cell, live-is-listed events o cell)

-- ---- And once

abbrev out_points : List (OutPoint × Cell) → List OutPoint
out_points list = map (λ (listed : OutPoint × Cell). listed.0) list

-- one that is no out-point of the others is apart from them
apart-from : (p : OutPoint) (list : List (OutPoint × Cell)) → ((o : OutPoint) (cell : Cell) → Contains list (o, cell) → same_out_point p o ≡ false)
    → AllByRecursion (λ (o : OutPoint). same_out_point p o ≡ false) (out_points list)
apart-from p [] apart = tt
apart-from p (x ∷ later) apart = (apart x.0 x.1 (here x later), apart-from p later (λ o cell has. apart o cell (there x later (o, cell) has)))

-- an out-point that no later event names has no live cell later
unnamed-apart : (p : OutPoint) (later : List Event) → last_naming p later ≡ None → (o : OutPoint) (cell : Cell) → Contains (live_cells later) (o, cell)
    → (same : Bool) → same_out_point p o ≡ same → same ≡ false
unfolding cell_after
unnamed-apart p later none o cell has false is = refl
unnamed-apart p later none o cell has true is =
    let live : cell_left (last_naming o later) ≡ Some cell = listed-is-live later o cell has in
    absurd (none-cell cell (ap cell_left (sym none ∙ ap (λ (q : OutPoint). last_naming q later) (out_points-same p o is)) ∙ live))

make-once : (p : OutPoint) (made : Cell) (later : List Event) (found : Option Event) → last_naming p later ≡ found
    → IsDistinct same_out_point (out_points (live_cells later)) → IsDistinct same_out_point (out_points (with_make p made found (live_cells later)))
unfolding IsDistinct
make-once p made later None none once = (apart-from p (live_cells later) (λ o cell has. unnamed-apart p later none o cell has _ refl), once)
make-once p made later (Some last) found once = once

pub lists-each-once : ListsEachOnce
unfolding live_cells IsDistinct
lists-each-once [] = tt
lists-each-once (Makes p made ∷ later) = make-once p made later (last_naming p later) refl (lists-each-once later)
lists-each-once (Spends p ∷ later) = lists-each-once later
