-- What one block moves of these sums (docs/RULES.md, "The reward"). It looks at no cell but the output of the cellbase: what deposits have gained is
-- what the two DAO fields say.
use Rattle.std.specs.Prelude.{◌≡◌, ℕ, ◌+◌, ◌-◌, List, length, drop}
use Rattle.std.specs.List.{sum, sum_by}
use Rattle.chain_defs.specs.Schema.{Block}
use Rattle.chain_defs.specs.Specification.{Specification}
use Rattle.chain_defs.specs.Dao.{DaoField, field_of_bytes, miner_part}
use Rattle.rule_defs.specs.Capacity.{fees_from}
use Rattle.rule_defs.specs.Shares.{primary_at, secondary_at}
use Rattle.rule_defs.specs.Reward.{field_at}
use Rattle.rule_defs.specs.Payment.{cellbase_outputs}
use Rattle.supply_defs.specs.Sums.{Sums, due}

-- the DAO field of the last block of a branch
abbrev pub last_field : List Block → DaoField
last_field branch = field_at branch (length branch - 1)

-- what comes to a sum and what goes from it
pub record Change : Type 0 where
  pub comes : ℕ
  pub goes : ℕ

abbrev pub Moves : Change → ℕ → ℕ → Type 0
Moves change before after = after + change.goes ≡ before + change.comes

pub record Step : Type 0 where
  pub live : Change
  pub occupied : Change
  pub unpaid : Change
  pub burned : Change

-- the fees that a block after a branch commits
abbrev pub fees_of : Specification → List Block → Block → ℕ
fees_of spec branch b = sum (fees_from spec branch b 1 (drop 1 b.transactions))

-- what its cellbase pays
abbrev pub paid_by : Block → ℕ
paid_by b = sum_by (λ output. output.capacity) (cellbase_outputs b)

-- The step of numbers: the DAO fields of a block and its parent, the block's primary and secondary share, its fees, what its cellbase pays and what it
-- was to pay. The miner's part of the secondary share is unpaid, and the rest goes to the savings, from which interest comes into live cells.
abbrev pub step_by : DaoField → DaoField → ℕ → ℕ → ℕ → ℕ → ℕ → Step
step_by before after primary secondary fees paid owed = record {
  live = record { comes = paid + before.savings + secondary; goes = fees + after.savings + miner_part before secondary };
  occupied = record { comes = after.occupied; goes = before.occupied };
  unpaid = record { comes = primary + miner_part before secondary + fees; goes = owed };
  burned = record { comes = owed; goes = paid };
}

-- the step of a block after a branch
unfoldable pub step_of : Specification → List Block → Block → Step
step_of spec branch b =
    step_by (last_field branch) (field_of_bytes b.header.dao) (primary_at spec (length branch)) (secondary_at spec (length branch))
    (fees_of spec branch b) (paid_by b) (due spec branch)

-- each of the four sums moves by it
pub record MovesBy (step : Step) (before after : Sums) : Type 0 where
  pub live : Moves step.live before.live after.live
  pub occupied : Moves step.occupied before.occupied after.occupied
  pub unpaid : Moves step.unpaid before.unpaid after.unpaid
  pub burned : Moves step.burned before.burned after.burned
