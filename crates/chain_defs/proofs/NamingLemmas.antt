-- On the first and the last of some events that name an out-point.
use Rattle.std.proofs.Common.{◌≡◌, Bool, true, false, cond, List, [], ◌∷◌, ◌++◌, Option, Some, None, if◌then◌else◌, refl, sym, ap, ◌∙◌, subst}
use Rattle.std.specs.Prelude.{not, ◌||◌, ◌&&◌, ◌==◌, IsTrue}
use Rattle.std.specs.Option.{option_or}
use Rattle.std.specs.List.{find, list_any}
use Rattle.std.proofs.lemmas.Bool.Decides.{Decides-eqb}
use Rattle.std.proofs.lemmas.Option.{same_Some}
use Rattle.std.proofs.lemmas.Slice.Eq.{bytes_eq-Decides}
use Rattle.chain_defs.specs.Schema.{OutPoint}
use Rattle.chain_defs.specs.Cell.{Cell}
use Rattle.chain_defs.specs.Events.{Event, Makes, Spends, same_out_point, out_point_of, names, last_naming}
use Rattle.chain_defs.specs.Fit.{live_by, live_after, fits, AllFit}
use Rattle.chain_defs.specs.CellLaws.{makes}
use Rattle.chain_defs.proofs.EventLemmas.{names-same, last_naming-step}
use Rattle.chain_defs.proofs.FitLemmas.{fits-between}

pub out_point-self : (o : OutPoint) → same_out_point o o ≡ true
out_point-self o =
    ap (λ (b : Bool). b && (o.index == o.index)) ((bytes_eq-Decides o.tx_hash o.tx_hash).1 refl) ∙ (Decides-eqb o.index o.index).1 refl

pub true-false : (b : Bool) → b ≡ true → b ≡ false → ⊥
true-false b is not = cc

or-right : (b c : Bool) → c ≡ true → (b || c) ≡ true
or-right true c is = refl
or-right false c is = is

-- ---- None names it

pub unnamed-last : (o : OutPoint) (events : List Event) → find (names o) events ≡ None → last_naming o events ≡ None
unfolding last_naming
unnamed-last o [] is = refl
unnamed-last o (event ∷ later) is = last_naming-step o event later ∙ by_test (names o event) is (unnamed-last o later)
  where
    by_test : (b : Bool) → (if b then Some event else find (names o) later) ≡ None → (find (names o) later ≡ None → last_naming o later ≡ None)
        → option_or (last_naming o later) (cond b (Some event) None) ≡ None
    by_test true none rest = absurd (cc)
    by_test false none rest = ap (λ (last : Option Event). option_or last None) (rest none)

makes-named : (o : OutPoint) (event : Event) → names o event ≡ false → makes o event ≡ false
makes-named o (Makes p cell) apart = apart
makes-named o (Spends p) apart = refl

pub unnamed-made : (o : OutPoint) (events : List Event) → find (names o) events ≡ None → list_any (makes o) events ≡ false
unnamed-made o [] is = refl
unnamed-made o (event ∷ later) is = by_test (names o event) refl is (unnamed-made o later)
  where
    by_test : (b : Bool) → names o event ≡ b → (if b then Some event else find (names o) later) ≡ None → (find (names o) later ≡ None → list_any (makes o) later ≡ false)
        → (makes o event || list_any (makes o) later) ≡ false
    by_test true named none rest = absurd (cc)
    by_test false apart none rest = ap (λ (b : Bool). b || list_any (makes o) later) (makes-named o event apart) ∙ rest none

-- ---- One does

-- where one does first, one does last
pub named-last : (o : OutPoint) (events : List Event) (event : Event) → find (names o) events ≡ Some event → last_naming o events ≡ None → ⊥
unfolding last_naming
named-last o [] event is none = cc
named-last o (first ∷ later) event is none = by_last (last_naming o later) refl (names o first) is (sym (last_naming-step o first later) ∙ none) (named-last o later event)
  where
    by_last : (last : Option Event) → last_naming o later ≡ last → (b : Bool) → (if b then Some first else find (names o) later) ≡ Some event
        → option_or last (cond b (Some first) None) ≡ None → (find (names o) later ≡ Some event → last_naming o later ≡ None → ⊥) → ⊥
    by_last (Some last) here b found gone rest = cc
    by_last None here true found gone rest = cc
    by_last None here false found gone rest = rest found here

-- what the first makes that names it is made
pub first-made : (o : OutPoint) (events : List Event) (p : OutPoint) (cell : Cell) → find (names o) events ≡ Some (Makes p cell) → list_any (makes o) events ≡ true
first-made o [] p cell is = absurd (cc)
first-made o (first ∷ later) p cell is = by_test (names o first) refl is (first-made o later p cell)
  where
    by_test : (b : Bool) → names o first ≡ b → (if b then Some first else find (names o) later) ≡ Some (Makes p cell)
        → (find (names o) later ≡ Some (Makes p cell) → list_any (makes o) later ≡ true) → (makes o first || list_any (makes o) later) ≡ true
    by_test true named found rest =
        let same : first ≡ Makes p cell = same_Some first (Makes p cell) found in
        ap (λ (event : Event). makes o event || list_any (makes o) later) same
        ∙ ap (λ (b : Bool). b || list_any (makes o) later) (sym (ap (names o) same) ∙ named)
    by_test false apart found rest = or-right (makes o first) (list_any (makes o) later) (rest found)

-- so is what the last makes that names it
pub last-made : (o : OutPoint) (events : List Event) (p : OutPoint) (cell : Cell) → last_naming o events ≡ Some (Makes p cell) → list_any (makes o) events ≡ true
unfolding last_naming
last-made o [] p cell is = absurd (cc)
last-made o (first ∷ later) p cell is = by_last (last_naming o later) refl (names o first) refl (sym (last_naming-step o first later) ∙ is) (last-made o later p cell)
  where
    by_last : (last : Option Event) → last_naming o later ≡ last → (b : Bool) → names o first ≡ b → option_or last (cond b (Some first) None) ≡ Some (Makes p cell)
        → (last_naming o later ≡ Some (Makes p cell) → list_any (makes o) later ≡ true) → (makes o first || list_any (makes o) later) ≡ true
    by_last (Some last) here b test found rest = or-right (makes o first) (list_any (makes o) later) (rest (here ∙ found))
    by_last None here true named found rest =
        let same : first ≡ Makes p cell = same_Some first (Makes p cell) found in
        ap (λ (event : Event). makes o event || list_any (makes o) later) same
        ∙ ap (λ (b : Bool). b || list_any (makes o) later) (sym (ap (names o) same) ∙ named)
    by_last None here false apart found rest = absurd (cc)

-- ---- The first fits what is live before all

record IsFirstNaming (o : OutPoint) (events : List Event) (event : Event) : Type 0 where
  earlier : List Event
  later : List Event
  parts : events ≡ earlier ++ event ∷ later
  unnamed : last_naming o earlier ≡ None
  named : names o event ≡ true

first-naming : (o : OutPoint) (events : List Event) (event : Event) → find (names o) events ≡ Some event → IsFirstNaming o events event
unfolding last_naming
first-naming o [] event is = absurd (cc)
first-naming o (first ∷ later) event is = by_test (names o first) refl is (first-naming o later event)
  where
    by_test : (b : Bool) → names o first ≡ b → (if b then Some first else find (names o) later) ≡ Some event → (find (names o) later ≡ Some event → IsFirstNaming o later event)
        → IsFirstNaming o (first ∷ later) event
    by_test true named found rest =
        let same : first ≡ event = same_Some first event found in
        record {
          earlier = [];
          later = later;
          parts = ap (λ (e : Event). e ∷ later) same;
          unnamed = refl;
          named = sym (ap (names o) same) ∙ named;
        }
    by_test false apart found rest =
        let it = rest found in
        record {
          earlier = first ∷ it.earlier;
          later = it.later;
          parts = ap (λ (es : List Event). first ∷ es) it.parts;
          unnamed = last_naming-step o first it.earlier
              ∙ ap (λ (last : Option Event). option_or last (cond (names o first) (Some first) None)) it.unnamed
              ∙ ap (λ (b : Bool). option_or None (cond b (Some first) None)) apart;
          named = it.named;
        }

live-unnamed : (earlier : List Event) (live : OutPoint → Bool) (p : OutPoint) → last_naming p earlier ≡ None → live_after earlier live p ≡ live p
unfolding live_after
live-unnamed earlier live p none = ap (λ (last : Option Event). live_by last (live p)) none

fits-first : (earlier : List Event) (live : OutPoint → Bool) (event : Event) → last_naming (out_point_of event) earlier ≡ None
    → IsTrue (fits (live_after earlier live) event) → IsTrue (fits live event)
fits-first earlier live (Makes p cell) none fit = subst (λ (b : Bool). IsTrue (not b)) (live-unnamed earlier live p none) fit
fits-first earlier live (Spends p) none fit = subst (λ (b : Bool). IsTrue b) (live-unnamed earlier live p none) fit

pub first-fits : (o : OutPoint) (events : List Event) (live : OutPoint → Bool) (event : Event) → AllFit events live → find (names o) events ≡ Some event
    → (out_point_of event ≡ o) × IsTrue (fits live event)
first-fits o events live event fit is =
    let first = first-naming o events event is in
    let same = names-same o event first.named in (
      same,
      fits-first first.earlier live event (ap (λ (p : OutPoint). last_naming p first.earlier) same ∙ first.unnamed)
          (fits-between events first.earlier event first.later live fit first.parts),
    )
