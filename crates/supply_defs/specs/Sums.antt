-- Where what a chain has issued is, along a branch (docs/RULES.md, "The reward"): in live cells, in rewards that no cellbase was to pay yet, or
-- burned. In shannons.
use Rattle.std.specs.Prelude.{ℕ, ◌+◌, ◌-◌, max, Bool, false, ◌==◌, nat_le, List, length, Option, Some, None, if◌then◌else◌}
use Rattle.std.specs.List.{sum_by, range_with_len}
use Rattle.chain_defs.specs.Schema.{Block}
use Rattle.chain_defs.specs.Specification.{Specification}
use Rattle.chain_defs.specs.Kept.{block_at}
use Rattle.chain_defs.specs.Cell.{Cell, occupied_by}
use Rattle.chain_defs.specs.Events.{Event, events}
use Rattle.chain_defs.specs.LiveCells.{live_cells}
use Rattle.rule_defs.specs.Reward.{part}
use Rattle.rule_defs.specs.Payment.{cellbase_outputs}

-- ---- Live cells

abbrev pub capacity_of : Cell → ℕ
capacity_of cell = cell.output.capacity

abbrev pub occupied_of : Cell → ℕ
occupied_of cell = occupied_by cell.output cell.content

-- what the cells sum up to that are live after events, by a number of each
abbrev pub sum_of_live : (Cell → ℕ) → List Event → ℕ
sum_of_live number events = sum_by (λ listed. number listed.1) (live_cells events)

-- what the live cells of a branch hold
unfoldable pub live_capacity : List Block → ℕ
live_capacity branch = sum_of_live capacity_of (events branch)

-- what they occupy
unfoldable pub live_occupied : List Block → ℕ
live_occupied branch = sum_of_live occupied_of (events branch)

-- ---- Rewards

-- The cellbase at height h is to pay the reward of the block at h - (w_far + 1), and none where h is at most w_far + 1. So what the next block of a
-- branch is to pay:
unfoldable pub due : Specification → List Block → ℕ
due spec branch = if nat_le (length branch) (spec.w_far + 1) then 0 else part spec branch (length branch - (spec.w_far + 1))

-- The lowest height of a block, 1 or above, whose reward no cellbase of the branch was to pay.
abbrev pub first_unpaid : Specification → List Block → ℕ
first_unpaid spec branch = max 1 (length branch - (spec.w_far + 1))

-- What the blocks from there on are given so far: their shares, and those of the fees that the branch commits.
unfoldable pub unpaid : Specification → List Block → ℕ
unpaid spec branch = sum_by (part spec branch) (range_with_len (first_unpaid spec branch) (length branch - first_unpaid spec branch))

-- its cellbase has no output
abbrev pub pays_nothing : Option Block → Bool
pays_nothing None = false
pays_nothing (Some b) = length (cellbase_outputs b) == 0

-- what is burned at a height: the reward that its cellbase was to pay, where that has no output
abbrev pub burned_at : Specification → List Block → ℕ → ℕ
burned_at spec branch height = if pays_nothing (block_at branch height) then part spec branch (height - (spec.w_far + 1)) else 0

-- what is burned along a branch, from the first height on whose cellbase is to pay a reward
unfoldable pub burned : Specification → List Block → ℕ
burned spec branch = sum_by (burned_at spec branch) (range_with_len (spec.w_far + 2) (length branch - (spec.w_far + 2)))

-- ---- All four

pub record Sums : Type 0 where
  pub live : ℕ
  pub occupied : ℕ
  pub unpaid : ℕ
  pub burned : ℕ

abbrev pub sums_of : Specification → List Block → Sums
sums_of spec branch = record {
  live = live_capacity branch;
  occupied = live_occupied branch;
  unpaid = unpaid spec branch;
  burned = burned spec branch;
}
