-- Rows after events, and the rows of a branch with one block more.
use Rattle.std.proofs.Common.{◌≡◌, ℕ, ◌<◌, Bool, true, false, cond, List, [], ◌∷◌, ◌++◌, length, Option, Some, None, refl, ap, ◌∙◌, arith}
use Rattle.std.specs.Prelude.{option_map, slice_index}
use Rattle.std.specs.Option.{option_or}
use Rattle.std.specs.List.{list_any}
use Rattle.std.proofs.lemmas.Bool.{or_parts}
use Rattle.std.proofs.lemmas.List.{get_or_push, get_or_append_left}
use Rattle.std.proofs.lemmas.Option.{slice_get_within}
use Rattle.chain_defs.specs.Schema.{OutPoint, Block}
use Rattle.chain_defs.specs.Kept.{place_of}
use Rattle.chain_defs.specs.Branch.{branch, branch_places}
use Rattle.chain_defs.proofs.KeptLaws.{place_of-below}
use Rattle.chain_defs.proofs.BranchLaws.{branch-join}
use Rattle.chain_defs.specs.Cell.{Cell}
use Rattle.chain_defs.specs.Events.{Event, Makes, Spends, names, last_naming, cell_left, cell_after, events, events_of_block}
use Rattle.chain_defs.specs.Row.{Row, row_on, row_left, row_or, row_of, row_after, live_row}
use Rattle.chain_defs.specs.CellLaws.{with_event, with_events, AppliesInOrder, GrowsByABlock}
use Rattle.chain_defs.proofs.EventLemmas.{last_naming-step, last_naming-append, made-last}
use Rattle.chain_defs.proofs.OutputLaws.{IsMadeIn, made-in-block, cells-are-outputs}
use Rattle.chain_defs.proofs.JoinLemmas.{branch_places-join, length-branch, events-push}

-- ---- Events one after the other

-- one event more at the start
pub row_after-step : (place : ℕ) (event : Event) (later : List Event) (rows : OutPoint → Option Row) (o : OutPoint)
    → row_after place (event ∷ later) rows o ≡ row_after place later (with_event place event rows) o
unfolding row_after
row_after-step place event later rows o =
    ap (row_or place (rows o)) (last_naming-step o event later) ∙ by_last (last_naming o later) (names o event)
  where
    by_last : (last : Option Event) (b : Bool) → row_or place (rows o) (option_or last (cond b (Some event) None))
        ≡ row_or place (cond b (row_left place event) (rows o)) last
    by_last (Some last) b = refl
    by_last None true = refl
    by_last None false = refl

in-order : (place : ℕ) (events : List Event) (rows : OutPoint → Option Row) (o : OutPoint) → row_after place events rows o ≡ with_events place events rows o
unfolding row_after last_naming
in-order place [] rows o = refl
in-order place (event ∷ later) rows o = row_after-step place event later rows o ∙ in-order place later (with_event place event rows) o

-- Out-points that no event names have no last one.
pub last_naming-unnamed : (o : OutPoint) (events : List Event) → list_any (names o) events ≡ false → last_naming o events ≡ None
unfolding last_naming
last_naming-unnamed o [] none = refl
last_naming-unnamed o (event ∷ later) none =
    let parts = or_parts (names o event) (list_any (names o) later) none in
    last_naming-step o event later
    ∙ ap (λ (last : Option Event). option_or last (cond (names o event) (Some event) None)) (last_naming-unnamed o later parts.1)
    ∙ ap (λ (b : Bool). cond b (Some event) None) parts.0

pub row_after-unnamed : (place : ℕ) (events : List Event) (rows : OutPoint → Option Row) (o : OutPoint) → list_any (names o) events ≡ false
    → row_after place events rows o ≡ rows o
unfolding row_after
row_after-unnamed place events rows o none = ap (row_or place (rows o)) (last_naming-unnamed o events none)

pub applies-in-order : AppliesInOrder
applies-in-order place events rows o = (in-order place events rows o, row_after-unnamed place events rows o)

-- ---- One block more

-- a cell that the branch of the parent made has its block there
row_on-earlier : (kept : List Block) (b : Block) (parent : ℕ) (o : OutPoint) (cell : Cell) → place_of kept b.header.parent_hash ≡ Some parent
    → cell_after (events (branch kept parent)) o ≡ Some cell → row_on (kept ++ b ∷ []) (length kept) cell ≡ row_on kept parent cell
row_on-earlier kept b parent o cell found live =
    let made = cells-are-outputs (branch kept parent) o cell live in
    let within : cell.height < length (branch kept parent) = slice_get_within (branch kept parent) cell.height made.0 made.1 in
    let long : length (branch kept parent) ≡ length (branch_places kept parent) =
    length-branch kept parent (place_of-below kept b.header.parent_hash parent found) in
    ap (λ (place : ℕ). row_of place cell) (
    ap (λ (places : List ℕ). slice_index places cell.height) (branch_places-join kept b parent found)
    ∙ get_or_append_left (branch_places kept parent) (length kept ∷ []) 0 cell.height (omega (arith, within, long))
    )

-- one that the block makes has the block itself
row_on-new : (kept : List Block) (b : Block) (parent : ℕ) (o made : OutPoint) (cell : Cell) → place_of kept b.header.parent_hash ≡ Some parent
    → last_naming o (events_of_block (length (branch kept parent)) b) ≡ Some (Makes made cell)
    → row_on (kept ++ b ∷ []) (length kept) cell ≡ row_of (length kept) cell
row_on-new kept b parent o made cell found last =
    let height : ℕ = length (branch kept parent) in
    let is = made-last (IsMadeIn b height (length b.transactions)) o (events_of_block height b) made cell (made-in-block height b) last in
    let long : length (branch kept parent) ≡ length (branch_places kept parent) =
    length-branch kept parent (place_of-below kept b.header.parent_hash parent found) in
    ap (λ (place : ℕ). row_of place cell) (
    ap (λ (places : List ℕ). slice_index places cell.height) (branch_places-join kept b parent found)
    ∙ get_or_push (branch_places kept parent) (length kept) 0 cell.height (omega (arith, long, is.height))
    )

-- of any blocks, kept or not
pub live_row-join : (kept : List Block) (b : Block) (parent : ℕ) (o : OutPoint) → place_of kept b.header.parent_hash ≡ Some parent
    → live_row (kept ++ b ∷ []) (length kept) o ≡ row_after (length kept) (events_of_block (length (branch kept parent)) b) (live_row kept parent) o
unfolding live_row cell_after row_after
live_row-join kept b parent o found =
    ap (λ (blocks : List Block). option_map (row_on (kept ++ b ∷ []) (length kept)) (cell_left (last_naming o (events blocks)))) (branch-join kept b parent found)
    ∙ ap (λ (all : List Event). option_map (row_on (kept ++ b ∷ []) (length kept)) (cell_left (last_naming o all))) (events-push (branch kept parent) b)
    ∙ ap (λ (last : Option Event). option_map (row_on (kept ++ b ∷ []) (length kept)) (cell_left last))
    (last_naming-append o (events (branch kept parent)) (events_of_block (length (branch kept parent)) b))
    ∙ by_last (last_naming o (events_of_block (length (branch kept parent)) b)) refl
  where
    by_cell : (live : Option Cell) → cell_after (events (branch kept parent)) o ≡ live
        → option_map (row_on (kept ++ b ∷ []) (length kept)) live ≡ option_map (row_on kept parent) live
    by_cell None is = refl
    by_cell (Some cell) is = ap Some (row_on-earlier kept b parent o cell found is)

    by_last : (last : Option Event) → last_naming o (events_of_block (length (branch kept parent)) b) ≡ last
        → option_map (row_on (kept ++ b ∷ []) (length kept)) (cell_left (option_or last (last_naming o (events (branch kept parent)))))
        ≡ row_or (length kept) (live_row kept parent o) last
    by_last None is = by_cell (cell_left (last_naming o (events (branch kept parent)))) refl
    by_last (Some (Spends other)) is = refl
    by_last (Some (Makes made cell)) is = ap Some (row_on-new kept b parent o made cell found is)

pub grows-by-a-block : GrowsByABlock
grows-by-a-block kept b parent o is_kept found = live_row-join kept b parent o found
