-- One step along a branch.
use Rattle.std.proofs.Common.{◌≡◌, ℕ, ◌+◌, ◌<◌, List, Option, Some, None, sym, ap, ◌∙◌, subst, arith}
use Rattle.std.specs.Prelude.{slice_get}
use Rattle.std.specs.Option.{option_map}
use Rattle.std.proofs.lemmas.Option.{slice_get-map, slice_get_within}
use Rattle.chain_defs.specs.Schema.{OutPoint, Block}
use Rattle.chain_defs.specs.Kept.{block_at, parent_place}
use Rattle.chain_defs.specs.Branch.{branch_places}
use Rattle.chain_defs.proofs.KeptLaws.{slice_get-below}
use Rattle.chain_tree.specs.Told.{Stored, blocks_of}
use Rattle.chain_defs.specs.Events.{events_of_block}
use Rattle.chain_defs.specs.Row.{Row, row_after, live_row, ListsRows}
use Rattle.chain_defs.specs.ByLock.{of_lock}
use Rattle.cell_state.specs.Moves.{CanBeTakenBack, IsOnTheWay}
use Rattle.cell_state.proofs.PlaceLemmas.{branch-linked}
use Rattle.cell_state.proofs.HeightLemmas.{rows-above}
use Rattle.cell_state.proofs.RowLemmas.{live_row-step}
use Rattle.cell_index.specs.Follow.{IsStep, CanBeFollowed}
use Rattle.cell_index.specs.Index.{IndexValue, Holds, IndexesBranch}
use Rattle.cell_index.proofs.ChangeLemmas.{Takes, takes, TakesBack, takes_back}

-- A block on the way is a step of it.
pub step-on : (stored : List Stored) (from to parent place : ℕ) (it : Stored) → CanBeFollowed stored from to → IsOnTheWay (blocks_of stored) from to place
    → slice_get stored place ≡ Some it → parent_place (blocks_of stored) place ≡ Some parent → IsStep stored parent place
step-on stored from to parent place it can on there named = record { it = it; there = there; named = named; can = can place parent it on there named }

-- the same rows under another name
pub holds-same : (f g : OutPoint → Option Row) (index : IndexValue) → ((o : OutPoint) → f o ≡ g o) → Holds f index → Holds g index
holds-same f g index same has lock o = has lock o ∙ ap (of_lock lock) (same o)

-- the block below a height of a branch
pub record IsAbove (stored : List Stored) (end height place : ℕ) : Type 0 where
  pub parent : ℕ
  pub below : slice_get (branch_places (blocks_of stored) end) height ≡ Some parent
  pub of : parent_place (blocks_of stored) place ≡ Some parent

pub above : (stored : List Stored) (end height place : ℕ) → slice_get (branch_places (blocks_of stored) end) (height + 1) ≡ Some place → IsAbove stored end height place
above stored end height place on =
    let within = slice_get_within (branch_places (blocks_of stored) end) (height + 1) place on in
    let low = slice_get-below (branch_places (blocks_of stored) end) height (omega (arith, within)) in
    record { parent = low.0; below = low.1; of = branch-linked (blocks_of stored) end height low.0 place low.1 on }

-- From the rows of a parent's branch to those of the block's own.
pub stands-up : (stored : List Stored) (place parent : ℕ) (it : Stored) (index : IndexValue) → slice_get stored place ≡ Some it → parent_place (blocks_of stored) place ≡ Some parent
    → ((height : ℕ) → 0 < height → Holds (row_after place (events_of_block height it.block) (live_row (blocks_of stored) parent)) index)
    → IndexesBranch (blocks_of stored) place index
stands-up stored place parent it index there of has =
    let block : block_at (blocks_of stored) place ≡ Some it.block =
    slice_get-map (λ (s : Stored). s.block) stored place ∙ ap (option_map (λ (s : Stored). s.block)) there in
    let step = live_row-step (blocks_of stored) parent place it.block block of in
    holds-same (row_after place (events_of_block step.height it.block) (live_row (blocks_of stored) parent)) (live_row (blocks_of stored) place) index
    (λ o. sym (step.row o)) (has step.height step.above)

-- ---- What a block changes, where it can be taken back

-- Of a block that can be taken back: what it spends goes and what it leaves comes, from the rows before it.
pub takes-it : (place : ℕ) (b : Block) (bytes : List ℕ) (after before : OutPoint → Option Row) (spent left : List (OutPoint × Row)) → (can : CanBeTakenBack b bytes after before)
    → spent ≡ can.ext.spent → ListsRows (row_after place (events_of_block can.height b) (λ _. None)) left → Takes place (events_of_block can.height b) before spent left
takes-it place b bytes after before spent left can same lists =
    subst (λ (l : List (OutPoint × Row)). Takes place (events_of_block can.height b) before l left) (sym (same ∙ can.comes_before.spent_is))
    (takes place (events_of_block can.height b) before left can.comes_before.fit lists)

-- The other way round from the rows after it.
pub takes-it-back : (place : ℕ) (b : Block) (bytes : List ℕ) (after before : OutPoint → Option Row) (spent left : List (OutPoint × Row)) → (can : CanBeTakenBack b bytes after before)
    → spent ≡ can.ext.spent → ListsRows (row_after place (events_of_block can.height b) (λ _. None)) left → TakesBack before after spent left
takes-it-back place b bytes after before spent left can same lists =
    subst (λ (l : List (OutPoint × Row)). TakesBack before after l left) (sym same)
    (takes_back place (events_of_block can.height b) before after can.ext.spent left can.comes_before lists)

-- The rows after a block's events are the same at each height above the genesis.
pub rows-at : (place one other : ℕ) (b : Block) (rows : OutPoint → Option Row) (o : OutPoint) → 0 < one → 0 < other
    → row_after place (events_of_block one b) rows o ≡ row_after place (events_of_block other b) rows o
rows-at place one other b rows o above_one above_other = sym (rows-above place one b rows o above_one) ∙ rows-above place other b rows o above_other

-- The rows of a block's branch are those after its events, from those of its parent's.
pub rows-of-step : (stored : List Stored) (parent place : ℕ) (step : IsStep stored parent place) (o : OutPoint)
    → row_after place (events_of_block step.can.height step.it.block) (live_row (blocks_of stored) parent) o ≡ live_row (blocks_of stored) place o
rows-of-step stored parent place step o =
    let block : block_at (blocks_of stored) place ≡ Some step.it.block =
    slice_get-map (λ (s : Stored). s.block) stored place ∙ ap (option_map (λ (s : Stored). s.block)) step.there in
    let grown = live_row-step (blocks_of stored) parent place step.it.block block step.named in
    rows-at place step.can.height grown.height step.it.block (live_row (blocks_of stored) parent) o step.can.above grown.above ∙ sym (grown.row o)
