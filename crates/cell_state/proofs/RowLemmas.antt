-- The rows of a branch by those of the branch of its block's parent, and the rows of the genesis alone.
use Rattle.std.proofs.Common.{◌≡◌, ℕ, zero, suc, ◌+◌, ◌-◌, ◌<◌, List, [], ◌∷◌, ◌++◌, length, take, drop, Option, Some, None, refl, sym, ap, ◌∙◌, arith}
use Rattle.std.specs.Prelude.{slice_get, slice_index}
use Rattle.std.specs.Option.{option_map, option_and_then}
use Rattle.std.proofs.lemmas.List.{append-nil, append_assoc, length_push, length-take-le}
use Rattle.std.proofs.lemmas.Option.{slice_get_within, same_Some}
use Rattle.chain_defs.specs.Schema.{OutPoint, Block}
use Rattle.chain_defs.specs.Kept.{block_at, place_of, parent_place}
use Rattle.chain_defs.specs.Branch.{branch, branch_places}
use Rattle.chain_defs.proofs.KeptLaws.{slice_get-below, place_of-below}
use Rattle.chain_defs.proofs.BranchLaws.{branch-last, branch-push}
use Rattle.chain_defs.specs.Cell.{Cell}
use Rattle.chain_defs.specs.Events.{Event, Makes, Spends, events_of_block, events, last_naming, cell_left, cell_after, live_cell}
use Rattle.chain_defs.specs.Row.{Row, row_of, row_on, row_or, row_after, live_row}
use Rattle.chain_defs.proofs.JoinLemmas.{branch_places-push}
use Rattle.chain_defs.proofs.CellRowLaws.{live_row-join}

pub row_after-same : (place : ℕ) (events : List Event) (one other : OutPoint → Option Row) (o : OutPoint) → one o ≡ other o
    → row_after place events one o ≡ row_after place events other o
unfolding row_after
row_after-same place events one other o same = ap (λ (before : Option Row). row_or place before (last_naming o events)) same

-- ---- Later blocks change no branch

live_row-push : (kept : List Block) (b : Block) (place : ℕ) (o : OutPoint) → place < length kept → live_row (kept ++ b ∷ []) place o ≡ live_row kept place o
unfolding live_row
live_row-push kept b place o below =
    ap (λ (blocks : List Block). option_map (row_on (kept ++ b ∷ []) place) (live_cell blocks o)) (branch-push kept b place below)
    ∙ ap (λ (places : List ℕ). option_map (λ (cell : Cell). row_of (slice_index places cell.height) cell) (live_cell (branch kept place) o))
    (branch_places-push kept b place below)

pub live_row-prefix : (front later : List Block) (place : ℕ) (o : OutPoint) → place < length front → live_row (front ++ later) place o ≡ live_row front place o
live_row-prefix front [] place o below = ap (λ (kept : List Block). live_row kept place o) (append-nil front)
live_row-prefix front (b ∷ later) place o below =
    let more : length (front ++ b ∷ []) ≡ length front + 1 = length_push front b in
    ap (λ (kept : List Block). live_row kept place o) (sym (append_assoc front (b ∷ []) later))
    ∙ live_row-prefix (front ++ b ∷ []) later place o (omega (arith, more, below))
    ∙ live_row-push front b place o below

-- ---- One block

parts-at : (kept : List Block) (place : ℕ) (b : Block) → slice_get kept place ≡ Some b → kept ≡ take place kept ++ b ∷ drop (suc place) kept
parts-at [] place b there = absurd (cc)
parts-at (first ∷ later) zero b there = ap (λ (x : Block). x ∷ later) (same_Some first b there)
parts-at (first ∷ later) (suc place) b there = ap (λ (xs : List Block). first ∷ xs) (parts-at later place b there)

pub branch-some : (kept : List Block) (place : ℕ) → place < length kept → 0 < length (branch kept place)
branch-some kept place below =
    let here = slice_get-below kept place below in
    let within = slice_get_within (branch kept place) (length (branch kept place) - 1) here.0 (branch-last kept place below ∙ here.1) in
    omega (arith, within)

-- The rows of a branch are those of its block's parent with the block's events applied.
pub record IsStep (kept : List Block) (parent place : ℕ) (b : Block) : Type 0 where
  pub height : ℕ
  pub above : 0 < height
  pub row : (o : OutPoint) → live_row kept place o ≡ row_after place (events_of_block height b) (live_row kept parent) o

pub live_row-step : (kept : List Block) (parent place : ℕ) (b : Block) → block_at kept place ≡ Some b → parent_place kept place ≡ Some parent
    → IsStep kept parent place b
live_row-step kept parent place b there found = record {
  height = length (branch (take place kept) parent);
  above = branch-some (take place kept) parent below;
  row = row;
}
  where
    named : place_of (take place kept) b.header.parent_hash ≡ Some parent
    named = sym (ap (option_and_then (λ (x : Block). place_of (take place kept) x.header.parent_hash)) there) ∙ found

    below : parent < length (take place kept)
    below = place_of-below (take place kept) b.header.parent_hash parent named

    long : length (take place kept) ≡ place
    long = let within = slice_get_within kept place b there in length-take-le place kept (omega (arith, within))

    longer : length (take place kept ++ b ∷ []) ≡ length (take place kept) + 1
    longer = length_push (take place kept) b

    parts : kept ≡ take place kept ++ b ∷ drop (suc place) kept
    parts = parts-at kept place b there

    row : (o : OutPoint) → live_row kept place o ≡ row_after place (events_of_block (length (branch (take place kept) parent)) b) (live_row kept parent) o
    row o =
        ap (λ (all : List Block). live_row all place o) (parts ∙ sym (append_assoc (take place kept) (b ∷ []) (drop (suc place) kept)))
        ∙ live_row-prefix (take place kept ++ b ∷ []) (drop (suc place) kept) place o (omega (arith, long, longer))
        ∙ ap (λ (n : ℕ). live_row (take place kept ++ b ∷ []) n o) (sym long)
        ∙ live_row-join (take place kept) b parent o named
        ∙ ap (λ (n : ℕ). row_after n (events_of_block (length (branch (take place kept) parent)) b) (live_row (take place kept) parent) o) long
        ∙ row_after-same place (events_of_block (length (branch (take place kept) parent)) b) (live_row (take place kept) parent) (live_row kept parent) o
        (sym (ap (λ (all : List Block). live_row all parent o) parts ∙ live_row-prefix (take place kept) (b ∷ drop (suc place) kept) parent o below))

-- ---- The genesis

zeroth : (height : ℕ) → slice_index (0 ∷ []) height ≡ 0
zeroth zero = refl
zeroth (suc height) = refl

pub live_row-genesis : (kept : List Block) (b : Block) (o : OutPoint) → block_at kept 0 ≡ Some b
    → live_row kept 0 o ≡ row_after 0 (events_of_block 0 b) (λ _. None) o
unfolding live_row cell_after row_after branch_places events
live_row-genesis [] b o there = absurd (cc)
live_row-genesis (genesis ∷ later) b o there =
    ap (λ (all : List Event). option_map (row_on (genesis ∷ later) 0) (cell_left (last_naming o all))) (append-nil (events_of_block 0 genesis))
    ∙ by_last (last_naming o (events_of_block 0 genesis))
    ∙ ap (λ (x : Block). row_or 0 None (last_naming o (events_of_block 0 x))) (same_Some genesis b there)
  where
    by_last : (last : Option Event) → option_map (row_on (genesis ∷ later) 0) (cell_left last) ≡ row_or 0 None last
    by_last None = refl
    by_last (Some (Spends other)) = refl
    by_last (Some (Makes made cell)) = ap (λ (place : ℕ). Some (row_of place cell)) (zeroth cell.height)
