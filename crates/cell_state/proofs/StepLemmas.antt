-- From one height of a branch to the next.
use Rattle.std.proofs.Common.{◌≡◌, ℕ, ◌+◌, ◌<◌, List, length, Option, Some, sym, ap, ◌∙◌, arith}
use Rattle.std.specs.Prelude.{slice_get, is_some}
use Rattle.std.proofs.lemmas.Option.{slice_get_within, same_Some}
use Rattle.chain_defs.specs.Schema.{OutPoint, Block}
use Rattle.chain_defs.specs.Kept.{block_at}
use Rattle.chain_defs.specs.Branch.{branch_places, branch}
use Rattle.chain_defs.proofs.KeptLaws.{slice_get-below}
use Rattle.chain_tree.specs.declared.entry.Entry.{Entry}
use Rattle.chain_tree.specs.Blocks.{IndexesBlocks}
use Rattle.chain_tree.proofs.BlockLemmas.{len-same}
use Rattle.chain_defs.specs.Events.{events_of_block, live_cell}
use Rattle.chain_defs.specs.Row.{Row, row_after, live_row}
use Rattle.chain_defs.specs.Fit.{are_live, AllFit, BranchFits}
use Rattle.cell_state.proofs.PlaceLemmas.{branch-linked}
use Rattle.cell_state.proofs.RowLemmas.{row_after-same, live_row-step}
use Rattle.chain_defs.proofs.FitLemmas.{row-where-cell, all-same}

-- The rows are those of the branch that ends with the place of a height.
abbrev pub AreRowsAt : List Block → ℕ → ℕ → (OutPoint → Option Row) → Type 0
AreRowsAt kept e height rows = (place : ℕ) → slice_get (branch_places kept e) height ≡ Some place → (o : OutPoint) → rows o ≡ live_row kept place o

-- the block at a place of the tree
pub block-there : (kept : List Block) (entries : List Entry) (place : ℕ) → IndexesBlocks kept entries → place < length entries
    → (b : Block) × (block_at kept place ≡ Some b)
block-there kept entries place indexes within =
    let same = len-same kept entries indexes in slice_get-below kept place (omega (arith, same, within))

-- ---- Rows

-- the place of the parent of a block on the branch
parent-at : (kept : List Block) (e height place : ℕ) → slice_get (branch_places kept e) (height + 1) ≡ Some place
    → (parent : ℕ) × (slice_get (branch_places kept e) height ≡ Some parent)
parent-at kept e height place on_branch =
    let within = slice_get_within (branch_places kept e) (height + 1) place on_branch in
    slice_get-below (branch_places kept e) height (omega (arith, within))

pub rows-next : (kept : List Block) (e height place : ℕ) (b : Block) (before after : OutPoint → Option Row)
    → slice_get (branch_places kept e) (height + 1) ≡ Some place → block_at kept place ≡ Some b → AreRowsAt kept e height before
    → ((h : ℕ) (o : OutPoint) → 0 < h → after o ≡ row_after place (events_of_block h b) before o) → AreRowsAt kept e (height + 1) after
rows-next kept e height place b before after on_branch there so_far applied other is o =
    let parent = parent-at kept e height place on_branch in
    let step = live_row-step kept parent.0 place b there (branch-linked kept e height parent.0 place parent.1 on_branch) in
    applied step.height o step.above
    ∙ row_after-same place (events_of_block step.height b) before (live_row kept parent.0) o (so_far parent.0 parent.1 o)
    ∙ sym (step.row o)
    ∙ ap (λ (n : ℕ). live_row kept n o) (same_Some place other (sym on_branch ∙ is))

pub fits-here : (kept : List Block) (e height place : ℕ) (b : Block) (before : OutPoint → Option Row) → BranchFits kept e
    → slice_get (branch_places kept e) (height + 1) ≡ Some place → block_at kept place ≡ Some b → AreRowsAt kept e height before
    → AllFit (events_of_block (height + 1) b) (are_live before)
fits-here kept e height place b before fits on_branch there so_far =
    let parent = parent-at kept e height place on_branch in
    all-same (events_of_block (height + 1) b) (are_live (live_cell (branch kept parent.0))) (are_live before)
    (λ o. ap is_some (so_far parent.0 parent.1 o) ∙ row-where-cell kept parent.0 o) (fits height parent.0 place b parent.1 on_branch there)
