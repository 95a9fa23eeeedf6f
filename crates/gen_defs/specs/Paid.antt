-- What a branch of a generated chain gives to its blocks, by the chain's rules.
use Rattle.std.specs.Prelude.{◌≡◌, ℕ, ◌+◌, ◌-◌, ◌≤◌, ◌<◌, List, [], ◌∷◌, length, Some, IsTrue, if◌then◌else◌}
use Rattle.chain_defs.specs.Schema.{Block}
use Rattle.chain_defs.specs.Dao.{field_bytes}
use Rattle.chain_defs.specs.Kept.{block_at}
use Rattle.chain_defs.specs.Hashes.{proposal_id}
use Rattle.rule_defs.specs.Window.{earliest}
use Rattle.rule_defs.specs.Fees.{Paid, paid_at}
use Rattle.rule_defs.specs.Reward.{dao_of, part}
use Rattle.gen_defs.specs.Start.{specification}
use Rattle.gen_defs.specs.Heights.{commits, transfer_fee, transfer, coin_after, field_after, reward_of}

-- the id of the transfer that a height commits
abbrev pub id_at : ℕ → List ℕ
id_at height = proposal_id (transfer (coin_after (height - 1)))

-- what a height commits: the fee of its transfer, or none
abbrev pub paid_by : ℕ → List Paid
paid_by height = if commits height then record { id = id_at height; fee = transfer_fee } ∷ [] else []

-- What a branch of a generated chain is, as far as rewards go. Each block has the DAO field of its height. The fees that it commits are those of its
-- transfers, and each has its earliest proposer two heights before: that is so where the hashes of the chain's transactions differ, and is a premise here.
pub record PaysItsTransfers (branch : List Block) : Type 0 where
  pub fields : (height : ℕ) → height < length branch → dao_of (block_at branch height) ≡ field_bytes (field_after height)
  pub paid : (height : ℕ) → height < length branch → paid_at specification branch height ≡ paid_by height
  pub proposed : (height : ℕ) → height < length branch → IsTrue (commits height) → earliest specification branch (id_at height) height ≡ Some (height - 2)

-- Law: what the rules give to a block of such a branch is what the chain pays for its height, once the branch has all blocks that the reward stands on.
abbrev pub PaysWhatIsGiven : Type 0
PaysWhatIsGiven = (branch : List Block) (height : ℕ) → PaysItsTransfers branch → 1 ≤ height → height ≤ 20000 → height + 10 < length branch
    → part specification branch height ≡ reward_of height
