-- Events: the last of some that names an out-point, also where more stand after, and what holds of each cell that some make.
use Rattle.std.proofs.Common.{◌≡◌, ℕ, zero, suc, Bool, true, false, cond, List, [], ◌∷◌, ◌++◌, Option, Some, None, refl, sym, ap, ◌∙◌, subst, arith}
use Rattle.std.specs.Prelude.{◌==◌}
use Rattle.std.specs.Option.{option_or}
use Rattle.std.specs.List.{Contains}
use Rattle.std.specs.Str.{bytes_eq}
use Rattle.std.proofs.lemmas.Bool.{and_parts, eqb-true}
use Rattle.std.proofs.lemmas.Option.{same_Some}
use Rattle.std.proofs.lemmas.Slice.Eq.{bytes_eq-Decides}
use Rattle.chain_defs.specs.Schema.{OutPoint}
use Rattle.chain_defs.specs.Cell.{Cell}
use Rattle.chain_defs.specs.Events.{Event, Makes, Spends, same_out_point, out_point_of, names, last_naming, cell_left, cell_after}

-- ---- Names

abbrev out_point_with : List ℕ → ℕ → OutPoint
out_point_with hash index = record { tx_hash = hash; index = index }

-- Out-points that test the same are one.
pub out_points-same : (one other : OutPoint) → same_out_point one other ≡ true → one ≡ other
out_points-same one other same =
    let parts = and_parts (bytes_eq one.tx_hash other.tx_hash) (one.index == other.index) same in
    ap (λ (hash : List ℕ). out_point_with hash one.index) ((bytes_eq-Decides one.tx_hash other.tx_hash).0 parts.0)
    ∙ ap (out_point_with other.tx_hash) (eqb-true one.index other.index parts.1)

-- An event that names an out-point is on it.
pub names-same : (o : OutPoint) (event : Event) → names o event ≡ true → out_point_of event ≡ o
names-same o event named = out_points-same (out_point_of event) o named

-- ---- The last that names an out-point

or-none : (last : Option Event) → option_or last None ≡ last
or-none None = refl
or-none (Some event) = refl

or-or : (a b c : Option Event) → option_or (option_or a b) c ≡ option_or a (option_or b c)
or-or None b c = refl
or-or (Some event) b c = refl

-- one event more at the start
pub last_naming-step : (o : OutPoint) (event : Event) (later : List Event)
    → last_naming o (event ∷ later) ≡ option_or (last_naming o later) (cond (names o event) (Some event) None)
unfolding last_naming
last_naming-step o event later = by_last (last_naming o later) refl
  where
    by_last : (last : Option Event) → last_naming o later ≡ last → last_naming o (event ∷ later) ≡ option_or last (cond (names o event) (Some event) None)
    by_last None is = rw is refl
    by_last (Some last) is = rw is refl

-- more events after
pub last_naming-append : (o : OutPoint) (earlier later : List Event) → last_naming o (earlier ++ later) ≡ option_or (last_naming o later) (last_naming o earlier)
unfolding last_naming
last_naming-append o [] later = sym (or-none (last_naming o later))
last_naming-append o (event ∷ earlier) later =
    last_naming-step o event (earlier ++ later)
    ∙ ap (λ (last : Option Event). option_or last (cond (names o event) (Some event) None)) (last_naming-append o earlier later)
    ∙ or-or (last_naming o later) (last_naming o earlier) (cond (names o event) (Some event) None)
    ∙ ap (option_or (last_naming o later)) (sym (last_naming-step o event earlier))

-- one event more after
pub last_naming-push : (o : OutPoint) (earlier : List Event) (event : Event)
    → last_naming o (earlier ++ event ∷ []) ≡ cond (names o event) (Some event) (last_naming o earlier)
unfolding last_naming
last_naming-push o earlier event = last_naming-append o earlier (event ∷ []) ∙ by_test (names o event)
  where
    by_test : (b : Bool) → option_or (cond b (Some event) None) (last_naming o earlier) ≡ cond b (Some event) (last_naming o earlier)
    by_test true = refl
    by_test false = refl

-- The last that names an out-point does name it.
pub last_naming-names : (o : OutPoint) (events : List Event) (last : Event) → last_naming o events ≡ Some last → names o last ≡ true
unfolding last_naming
last_naming-names o [] last is = absurd (cc)
last_naming-names o (event ∷ later) last is =
    by_last (last_naming o later) refl (names o event) refl (sym (last_naming-step o event later) ∙ is) (last_naming-names o later last)
  where
    by_last : (found : Option Event) → last_naming o later ≡ found → (b : Bool) → names o event ≡ b
        → option_or found (cond b (Some event) None) ≡ Some last → (last_naming o later ≡ Some last → names o last ≡ true) → names o last ≡ true
    by_last (Some behind) found b test here rest = rest (found ∙ here)
    by_last None found true test here rest = let same : event ≡ last = grind arith in sym (ap (names o) same) ∙ test
    by_last None found false test here rest = absurd (cc)

-- the cell after one event more
pub cell_after-push : (earlier : List Event) (event : Event) (o : OutPoint)
    → cell_after (earlier ++ event ∷ []) o ≡ cond (names o event) (cell_left (Some event)) (cell_after earlier o)
unfolding cell_after
cell_after-push earlier event o = ap cell_left (last_naming-push o earlier event) ∙ by_test (names o event)
  where
    by_test : (b : Bool) → cell_left (cond b (Some event) (last_naming o earlier)) ≡ cond b (cell_left (Some event)) (cell_left (last_naming o earlier))
    by_test true = refl
    by_test false = refl

-- ---- What some events make

-- something holds of each out-point and cell that some events make
abbrev pub EachMade : (OutPoint → Cell → Type 0) → List Event → Type 0
EachMade P [] = Unit {0}
EachMade P (Makes o cell ∷ later) = P o cell × EachMade P later
EachMade P (Spends o ∷ later) = EachMade P later

pub EachMade-append : (P : OutPoint → Cell → Type 0) (earlier later : List Event) → EachMade P earlier → EachMade P later → EachMade P (earlier ++ later)
EachMade-append P [] later each rest = rest
EachMade-append P (Makes o cell ∷ earlier) later each rest = (each.0, EachMade-append P earlier later each.1 rest)
EachMade-append P (Spends o ∷ earlier) later each rest = EachMade-append P earlier later each rest

pub EachMade-then : (P Q : OutPoint → Cell → Type 0) (events : List Event) → ((o : OutPoint) (cell : Cell) → P o cell → Q o cell)
    → EachMade P events → EachMade Q events
EachMade-then P Q [] turns each = tt
EachMade-then P Q (Makes o cell ∷ later) turns each = (turns o cell each.0, EachMade-then P Q later turns each.1)
EachMade-then P Q (Spends o ∷ later) turns each = EachMade-then P Q later turns each

EachMade-tail : (P : OutPoint → Cell → Type 0) (event : Event) (later : List Event) → EachMade P (event ∷ later) → EachMade P later
EachMade-tail P (Makes o cell) later each = each.1
EachMade-tail P (Spends o) later each = each

-- so it holds of what the last that names an out-point made
pub made-last : (P : OutPoint → Cell → Type 0) (o : OutPoint) (events : List Event) (made : OutPoint) (cell : Cell) → EachMade P events
    → last_naming o events ≡ Some (Makes made cell) → P made cell
unfolding last_naming
made-last P o [] made cell each is = absurd (cc)
made-last P o (event ∷ later) made cell each is =
    by_last (last_naming o later) refl (names o event) (sym (last_naming-step o event later) ∙ is)
    (made-last P o later made cell (EachMade-tail P event later each))
  where
    by_last : (found : Option Event) → last_naming o later ≡ found → (b : Bool) → option_or found (cond b (Some event) None) ≡ Some (Makes made cell)
        → (last_naming o later ≡ Some (Makes made cell) → P made cell) → P made cell
    by_last (Some behind) found b here rest = rest (found ∙ here)
    by_last None found true here rest =
        let same : event ≡ Makes made cell = same_Some event (Makes made cell) here in (subst (λ (e : Event). EachMade P (e ∷ later)) same each).0
    by_last None found false here rest = absurd (cc)

-- Of the cell that is live after events all holds that holds of each cell that they make.
pub made-live : (P : OutPoint → Cell → Type 0) (events : List Event) (o : OutPoint) (cell : Cell) → EachMade P events → cell_after events o ≡ Some cell
    → P o cell
unfolding cell_after
made-live P events o cell each live = by_last (last_naming o events) refl live
  where
    by_last : (last : Option Event) → last_naming o events ≡ last → cell_left last ≡ Some cell → P o cell
    by_last None is left = absurd (cc)
    by_last (Some (Spends other)) is left = absurd (cc)
    by_last (Some (Makes made other)) is left =
        let same : made ≡ o = names-same o (Makes made other) (last_naming-names o events (Makes made other) is) in
        subst (λ (x : OutPoint). P x cell) same (subst (P made) (same_Some other cell left) (made-last P o events made other each is))

-- of each cell that is among those they make
pub made-contained : (P : OutPoint → Cell → Type 0) (events : List Event) (o : OutPoint) (cell : Cell) → EachMade P events
    → Contains events (Makes o cell) → P o cell
made-contained P [] o cell each (k, within, is) = absurd (omega (arith, within))
made-contained P (event ∷ later) o cell each (zero, within, is) = (subst (λ (e : Event). EachMade P (e ∷ later)) is each).0
made-contained P (event ∷ later) o cell each (suc k, within, is) =
    made-contained P later o cell (EachMade-tail P event later each) (k, omega (arith, within), is)

-- ---- What some events spend

-- something holds of each out-point that some events spend
abbrev pub EachSpent : (OutPoint → Type 0) → List Event → Type 0
EachSpent P [] = Unit {0}
EachSpent P (Makes o cell ∷ later) = EachSpent P later
EachSpent P (Spends o ∷ later) = P o × EachSpent P later

pub EachSpent-append : (P : OutPoint → Type 0) (earlier later : List Event) → EachSpent P earlier → EachSpent P later → EachSpent P (earlier ++ later)
EachSpent-append P [] later each rest = rest
EachSpent-append P (Makes o cell ∷ earlier) later each rest = EachSpent-append P earlier later each rest
EachSpent-append P (Spends o ∷ earlier) later each rest = (each.0, EachSpent-append P earlier later each.1 rest)

pub EachSpent-then : (P Q : OutPoint → Type 0) (events : List Event) → ((o : OutPoint) → P o → Q o) → EachSpent P events → EachSpent Q events
EachSpent-then P Q [] turns each = tt
EachSpent-then P Q (Makes o cell ∷ later) turns each = EachSpent-then P Q later turns each
EachSpent-then P Q (Spends o ∷ later) turns each = (turns o each.0, EachSpent-then P Q later turns each.1)

EachSpent-tail : (P : OutPoint → Type 0) (event : Event) (later : List Event) → EachSpent P (event ∷ later) → EachSpent P later
EachSpent-tail P (Makes o cell) later each = each
EachSpent-tail P (Spends o) later each = each.1

pub spent-contained : (P : OutPoint → Type 0) (events : List Event) (o : OutPoint) → EachSpent P events → Contains events (Spends o) → P o
spent-contained P [] o each (k, within, is) = absurd (omega (arith, within))
spent-contained P (event ∷ later) o each (zero, within, is) = (subst (λ (e : Event). EachSpent P (e ∷ later)) is each).0
spent-contained P (event ∷ later) o each (suc k, within, is) =
    spent-contained P later o (EachSpent-tail P event later each) (k, omega (arith, within), is)
