-- A block on a kept parent.
use Rattle.std.proofs.Common.{◌≡◌, ℕ, ◌-◌, ◌<◌, List, [], ◌∷◌, ◌++◌, length, Option, Some, sym, ap, ◌∙◌, arith}
use Rattle.std.proofs.lemmas.Option.{slice_get_within}
use Rattle.chain_defs.specs.Schema.{OutPoint, Block}
use Rattle.chain_defs.specs.Kept.{place_of}
use Rattle.chain_defs.specs.Branch.{branch}
use Rattle.chain_defs.proofs.KeptLaws.{slice_get-below, place_of-below}
use Rattle.chain_defs.proofs.BranchLaws.{branch-last}
use Rattle.chain_defs.specs.Events.{Event, events_of_block, last_naming}
use Rattle.chain_defs.specs.Row.{Row, row_or, row_after, live_row}
use Rattle.chain_defs.proofs.CellRowLaws.{grows-by-a-block}
use Rattle.cell_state.specs.State.{StateValue, Grows, rows}
use Rattle.cell_state.proofs.NamingLemmas.{row-after}

branch-some : (kept : List Block) (hash : List ℕ) (parent : ℕ) → place_of kept hash ≡ Some parent → 0 < length (branch kept parent)
branch-some kept hash parent named =
    let below = place_of-below kept hash parent named in
    let here = slice_get-below kept parent below in
    let within = slice_get_within (branch kept parent) (length (branch kept parent) - 1) here.0 (branch-last kept parent below ∙ here.1) in
    omega (arith, within)

after-same : (place : ℕ) (events : List Event) (one other : OutPoint → Option Row) (o : OutPoint) → one o ≡ other o → row_after place events one o ≡ row_after place events other o
after-same place events one other o same =
    row-after place events one o ∙ ap (λ (r : Option Row). row_or place r (last_naming o events)) same ∙ sym (row-after place events other o)

pub grown : (b : Block) (place : ℕ) (old new : StateValue)
    → ((height : ℕ) (o : OutPoint) → 0 < height → rows new o ≡ row_after place (events_of_block height b) (rows old) o) → Grows b place old new
grown b place old new applied kept parent is named long before o =
    applied (length (branch kept parent)) o (branch-some kept b.header.parent_hash parent named)
    ∙ after-same place (events_of_block (length (branch kept parent)) b) (rows old) (live_row kept parent) o (before o)
    ∙ ap (λ (n : ℕ). row_after n (events_of_block (length (branch kept parent)) b) (live_row kept parent) o) (sym long)
    ∙ sym (grows-by-a-block kept b parent o is named)
    ∙ ap (λ (n : ℕ). live_row (kept ++ b ∷ []) n o) long
