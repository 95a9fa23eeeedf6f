-- Events that fit can be taken back, and leave what was before them.
use Rattle.std.proofs.Common.{◌≡◌, ℕ, Bool, true, false, List, [], ◌∷◌, ◌++◌, Option, Some, None, is_some, if◌then◌else◌, refl, sym, ap, ◌∙◌, subst}
use Rattle.std.specs.Prelude.{not, IsTrue}
use Rattle.std.specs.List.{find, list_any}
use Rattle.chain_defs.specs.Schema.{OutPoint}
use Rattle.chain_defs.specs.Events.{Event, Makes, Spends, same_out_point, out_point_of, names, last_naming}
use Rattle.chain_defs.specs.Row.{Row, row_or, row_after}
use Rattle.chain_defs.specs.Fit.{are_live, AllFit}
use Rattle.chain_defs.specs.CellLaws.{makes}
use Rattle.chain_defs.specs.Undo.{without, row_at, spent_of, without_made, with_row, undone, first_live, first_clash}
use Rattle.chain_defs.specs.UndoLaws.{is_spend, TakesBack}
use Rattle.chain_defs.proofs.PutLemmas.{put_at, with_rows-at, given_back, spent-at}
use Rattle.chain_defs.proofs.NamingLemmas.{out_point-self, true-false, unnamed-last, unnamed-made, named-last, first-made, last-made, first-fits}

-- a row is there
abbrev pub none_is : Option Row → Type 0
none_is row = row ≡ None

not-some : (row : Option Row) → IsTrue (not (is_some row)) → row ≡ None
not-some None is = refl
not-some (Some row) is = absurd (cc)

-- what is there after events, and is not made by them
left-unmade : (place : ℕ) (events : List Event) (before after : OutPoint → Option Row) (o : OutPoint) → after o ≡ row_after place events before o
    → after o ≡ row_or place (before o) (last_naming o events)
unfolding row_after
left-unmade place events before after o is = is

-- ---- The rows that were before

kept-none : (place : ℕ) (events : List Event) (before after : OutPoint → Option Row) (o : OutPoint) → after o ≡ row_after place events before o
    → find (names o) events ≡ None → without_made events after o ≡ before o
kept-none place events before after o is none =
    ap (λ (b : Bool). if b then None else after o) (unnamed-made o events none)
    ∙ left-unmade place events before after o is
    ∙ ap (row_or place (before o)) (unnamed-last o events none)

given-spent : (p o : OutPoint) (before : OutPoint → Option Row) (found : Option Row) → p ≡ o → IsTrue (is_some (before p))
    → given_back (Some (Spends p)) (before o) found ≡ before o
given-spent p o before found same fit = by_row (before o) (subst (λ (q : OutPoint). IsTrue (is_some (before q))) same fit)
  where
    by_row : (row : Option Row) → IsTrue (is_some row) → given_back (Some (Spends p)) row found ≡ row
    by_row None is = absurd (cc)
    by_row (Some row) is = refl

back-at : (place : ℕ) (events : List Event) (before after : OutPoint → Option Row) (o : OutPoint) → AllFit events (are_live before)
    → after o ≡ row_after place events before o → given_back (find (names o) events) (before o) (without_made events after o) ≡ before o
back-at place events before after o fit is = by_first (find (names o) events) refl
  where
    by_first : (first : Option Event) → find (names o) events ≡ first → given_back first (before o) (without_made events after o) ≡ before o
    by_first None none = kept-none place events before after o is none
    by_first (Some (Makes p cell)) found =
        let it = first-fits o events (are_live before) (Makes p cell) fit found in
        ap (λ (b : Bool). if b then None else after o) (first-made o events p cell found)
        ∙ sym (not-some (before o) (subst (λ (q : OutPoint). IsTrue (not (is_some (before q)))) it.0 it.1))
    by_first (Some (Spends p)) found =
        let it = first-fits o events (are_live before) (Spends p) fit found in
        given-spent p o before (without_made events after o) it.0 it.1

-- ---- No row that is put back is live by then

-- an out-point that is spent first is not live without what the events make
spent-gone : (place : ℕ) (events : List Event) (before after : OutPoint → Option Row) (o : OutPoint) → after o ≡ row_after place events before o
    → IsTrue (is_spend (find (names o) events)) → without_made events after o ≡ None
spent-gone place events before after o is spend = by_made (list_any (makes o) events) refl
  where
    by_first : (first : Option Event) → find (names o) events ≡ first → IsTrue (is_spend first) → last_naming o events ≡ None → ⊥
    by_first None found it none = cc
    by_first (Some event) found it none = named-last o events event found none

    by_last : (last : Option Event) → last_naming o events ≡ last → list_any (makes o) events ≡ false → row_or place (before o) last ≡ None
    by_last None none unmade = absurd (by_first (find (names o) events) refl spend none)
    by_last (Some (Makes p cell)) last unmade = absurd (true-false (list_any (makes o) events) (last-made o events p cell last) unmade)
    by_last (Some (Spends p)) last unmade = refl

    by_made : (b : Bool) → list_any (makes o) events ≡ b → (if b then None else after o) ≡ None
    by_made true made = refl
    by_made false unmade = left-unmade place events before after o is ∙ by_last (last_naming o events) refl unmade

-- of a row that is there without that of an out-point
pub record IsThereApart (p : OutPoint) (rows : OutPoint → Option Row) (o : OutPoint) (row : Row) : Type 0 where
  pub there : rows o ≡ Some row
  pub apart : same_out_point p o ≡ false

pub there-apart : (p : OutPoint) (rows : OutPoint → Option Row) (o : OutPoint) (row : Row) → without p rows o ≡ Some row → IsThereApart p rows o row
there-apart p rows o row is = by_test (same_out_point p o) refl is
  where
    by_test : (b : Bool) → same_out_point p o ≡ b → (if b then None else rows o) ≡ Some row → IsThereApart p rows o row
    by_test true same found = absurd (cc)
    by_test false apart found = record { there = found; apart = apart }

-- what is spent first of later events is so of all
pub spend-later : (event : Event) (later : List Event) (o : OutPoint) → names o event ≡ false → IsTrue (is_spend (find (names o) later))
    → IsTrue (is_spend (find (names o) (event ∷ later)))
spend-later event later o apart spend = subst (λ (b : Bool). IsTrue (is_spend (if b then Some event else find (names o) later))) (sym apart) spend

-- each row that is spent is not live
abbrev AreFree : List Event → (OutPoint → Option Row) → (OutPoint → Option Row) → Type 0
AreFree events rows live = (o : OutPoint) (row : Row) → rows o ≡ Some row → IsTrue (is_spend (find (names o) events)) → live o ≡ None

free-later : (event : Event) (later : List Event) (rows live : OutPoint → Option Row) → AreFree (event ∷ later) rows live
    → AreFree later (without (out_point_of event) rows) live
free-later event later rows live free o row is spend =
    let it = there-apart (out_point_of event) rows o row is in
    free o row it.there (spend-later event later o it.apart spend)

free-put : (p : OutPoint) (put : Row) (later : List Event) (rows live : OutPoint → Option Row) → AreFree (Spends p ∷ later) rows live
    → AreFree later (without p rows) (with_row (p, put) live)
free-put p put later rows live free o row is spend =
    let it = there-apart p rows o row is in
    ap (λ (b : Bool). if b then Some put else live o) it.apart ∙ free-later (Spends p) later rows live free o row is spend

none-live : (events : List Event) (rows live : OutPoint → Option Row) → AreFree events rows live → first_live (spent_of events rows) live ≡ None
unfolding spent_of
none-live [] rows live free = refl
none-live (Makes p cell ∷ later) rows live free = none-live later (without p rows) live (free-later (Makes p cell) later rows live free)
none-live (Spends p ∷ later) rows live free = by_row (rows p) refl (none-live later (without p rows))
  where
    by_row : (row : Option Row) → rows p ≡ row
        → ((others : OutPoint → Option Row) → AreFree later (without p rows) others → first_live (spent_of later (without p rows)) others ≡ None)
        → first_live (row_at p row ++ spent_of later (without p rows)) live ≡ None
    by_row None is rest = rest live (free-later (Spends p) later rows live free)
    by_row (Some row) is rest =
        let spend : IsTrue (is_spend (find (names p) (Spends p ∷ later))) =
        subst (λ (b : Bool). IsTrue (is_spend (if b then Some (Spends p) else find (names p) later))) (sym (out_point-self p)) refl in
        ap (λ (found : Option Row). if is_some found then Some p else first_live (spent_of later (without p rows)) (with_row (p, row) live)) (free p row is spend)
        ∙ rest (with_row (p, row) live) (free-put p row later rows live free)

-- ---- Taken back

undone-at : (events : List Event) (spent : List (OutPoint × Row)) (after : OutPoint → Option Row) (o : OutPoint)
    → undone events spent after o ≡ put_at spent o (without_made events after o)
unfolding undone
undone-at events spent after o = with_rows-at spent (without_made events after) o

clash-is : (events : List Event) (spent : List (OutPoint × Row)) (after : OutPoint → Option Row) → first_clash events spent after ≡ first_live spent (without_made events after)
unfolding first_clash
clash-is events spent after = refl

pub takes-back : TakesBack
takes-back events spent after before it = (
  clash-is events spent after
      ∙ ap (λ (list : List (OutPoint × Row)). first_live list (without_made events after)) it.spent_is
      ∙ none-live events before (without_made events after) (λ o row is spend. spent-gone it.place events before after o (it.after_is o) spend),
  λ o. undone-at events spent after o
      ∙ ap (λ (list : List (OutPoint × Row)). put_at list o (without_made events after o)) it.spent_is
      ∙ spent-at events before o (without_made events after o)
      ∙ back-at it.place events before after o it.fit (it.after_is o),
)
