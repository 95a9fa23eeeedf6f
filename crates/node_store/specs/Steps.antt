-- How many steps the live cells take for an item: a step takes the events of a block, or takes a block back (crates/node_store/README.md).
use Rattle.std.specs.Prelude.{ℕ, ◌+◌, ◌-◌, ◌*◌, ◌/◌, nat_lt, Bool, true, false, List, [], ◌∷◌, Option, Some, None, is_some, if◌then◌else◌}
use Rattle.chain_defs.specs.Shape.{decoded}
use Rattle.chain_defs.specs.Schema.{Block, block}
use Rattle.chain_defs.specs.Kept.{block_hash, place_of}
use Rattle.chain_defs.specs.Branch.{branch, distance}
use Rattle.verdict_defs.specs.Rules.{broken_at_sight}
use Rattle.chain_defs.specs.Tip.{tip, tip_place}
use Rattle.verdict_defs.specs.declared.verdict.Verdict.{Verdict}
use Rattle.verdict_defs.specs.declared.verdict.Verdict.TheVariants.{Joined, Known, Refused, Full}
use Rattle.verdict_defs.specs.Chain.{Chain, chain_after}
use Rattle.node_store.specs.declared.decision.Decision.{Decision}
use Rattle.node_store.specs.declared.decision.Decision.TheVariants.{Joins}
use Rattle.node_store.specs.declared.decision.Joining.{Joining}
use Rattle.node_store.specs.Judging.{becomes_tip}

abbrev pub distance_from : List Block → Option ℕ → ℕ → ℕ
distance_from kept None place = 0
distance_from kept (Some from) place = distance kept from place

-- from the tip's branch to that of a place, and back
abbrev pub moves_at : List Block → ℕ → ℕ
moves_at kept place = 2 * distance_from kept (tip_place kept) place

-- For a block on what was found as its parent: the way there and back, and one for its own events; none where the parent is not kept, or where it
-- breaks a rule at sight.
abbrev pub moves_on : Chain → Block → Option ℕ → ℕ
moves_on chain b None = 0
moves_on chain b (Some parent) = if is_some (broken_at_sight chain.spec (branch chain.blocks parent) b) then 0 else moves_at chain.blocks parent + 1

-- for a block: none where it is kept already
abbrev pub moves_of_block : Chain → Block → ℕ
moves_of_block chain b = if is_some (place_of chain.blocks (block_hash b)) then 0 else moves_on chain b (place_of chain.blocks b.header.parent_hash)

abbrev pub moves_of : Chain → Option Block → ℕ
moves_of chain None = 0
moves_of chain (Some b) = moves_of_block chain b

-- For an item after a chain: one that is no block is answered at sight too.
abbrev pub moves_for : Chain → List ℕ → ℕ
moves_for chain item = moves_of chain (decoded block item)

-- ---- Exactly, where there is an answer

-- the most there may be, by what is decided: the way there and back, or but the way there to a block that becomes the tip
abbrev pub moves_until : List Block → ℕ → Decision → ℕ
moves_until kept most decision = if becomes_tip kept decision then (most - 1) / 2 else most - 1

-- one for the own events of such a block
abbrev pub moves_to_join : List Block → Joining → ℕ
moves_to_join kept joining = if becomes_tip kept (Joins joining) then 1 else 0

abbrev pub number_above : Option Block → ℕ → Bool
number_above None number = true
number_above (Some top) number = nat_lt top.header.number number

-- a block that joined became the tip where its number is above the tip's
abbrev pub became_tip : List Block → Verdict → Bool
became_tip kept (Joined number hash) = number_above (tip kept) number
became_tip kept (Known hash) = false
became_tip kept (Refused rule) = false
became_tip kept Full = false

-- For an item with this verdict.
abbrev pub moves_with : Chain → List ℕ → Verdict → ℕ
moves_with chain item answer =
    if became_tip chain.blocks answer then (moves_for chain item - 1) / 2 + 1 else moves_for chain item - 1

-- ---- For a list

-- For items one after the other, each over what is kept by then.
abbrev pub steps_over : Chain → List (List ℕ) → ℕ
steps_over chain [] = 0
steps_over chain (item ∷ items) = moves_for chain item + steps_over (chain_after chain item) items
