-- Which events fit what is live (docs/RULES.md, "Cells").
use Rattle.std.specs.Prelude.{◌≡◌, ℕ, ◌+◌, Bool, true, false, not, List, take, Option, Some, None, is_some, IsTrue, slice_get}
use Rattle.chain_defs.specs.Schema.{OutPoint, Block}
use Rattle.chain_defs.specs.Kept.{block_at}
use Rattle.chain_defs.specs.Branch.{branch, branch_places}
use Rattle.chain_defs.specs.Events.{Event, Makes, Spends, last_naming, events_of_block, live_cell}

-- whether an out-point is live, by the cells or the rows that there are
abbrev pub are_live : {V : Type 0} → (OutPoint → Option V) → OutPoint → Bool
are_live found o = is_some (found o)

-- no out-point is
abbrev pub none_live : OutPoint → Bool
none_live o = false

-- by the last event that names it, if there is one: a make leaves a cell, a spend none
abbrev pub live_by : Option Event → Bool → Bool
live_by None before = before
live_by (Some (Makes o cell)) before = true
live_by (Some (Spends o)) before = false

-- Whether an out-point is live after events, by what is live before them.
unfoldable pub live_after : List Event → (OutPoint → Bool) → OutPoint → Bool
live_after events live o = live_by (last_naming o events) (live o)

-- A spend fits where its out-point is live, a make where its is not.
abbrev pub fits : (OutPoint → Bool) → Event → Bool
fits live (Makes o cell) = not (live o)
fits live (Spends o) = live o

-- Each of the events fits what those before it leave.
abbrev pub AllFit : List Event → (OutPoint → Bool) → Type 0
AllFit events live = (count : ℕ) (event : Event) → slice_get events count ≡ Some event → IsTrue (fits (live_after (take count events) live) event)

-- Along the branch that ends with a place, the events of each block after the genesis fit the cells that are live on its parent's branch.
abbrev pub BranchFits : List Block → ℕ → Type 0
BranchFits kept e = (height parent place : ℕ) (b : Block) → slice_get (branch_places kept e) height ≡ Some parent
    → slice_get (branch_places kept e) (height + 1) ≡ Some place → block_at kept place ≡ Some b
    → AllFit (events_of_block (height + 1) b) (are_live (live_cell (branch kept parent)))
