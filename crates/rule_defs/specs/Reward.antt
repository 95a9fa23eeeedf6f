-- The reward of a block (docs/RULES.md, "The reward"; RFC 0023, "Calculation", for the miner's part of the secondary issuance). In shannons.
use Rattle.std.specs.Prelude.{ℕ, ◌+◌, ◌-◌, Bool, false, ◌==◌, nat_lt, List, [], length, Option, Some, None, if◌then◌else◌}
use Rattle.std.specs.List.{filter, sum_by, range_with_len}
use Rattle.chain_defs.specs.Schema.{Block}
use Rattle.chain_defs.specs.Specification.{Specification}
use Rattle.chain_defs.specs.Dao.{DaoField, field_of_bytes, miner_part}
use Rattle.chain_defs.specs.Kept.{block_at}
use Rattle.rule_defs.specs.Window.{earliest}
use Rattle.rule_defs.specs.Shares.{primary_at, secondary_at}
use Rattle.rule_defs.specs.Fees.{Paid, paid_at, proposer_share, committer_share}

-- ---- The DAO field of a block

abbrev pub dao_of : Option Block → List ℕ
dao_of None = []
dao_of (Some b) = b.header.dao

-- that of the block at a height
abbrev pub field_at : List Block → ℕ → DaoField
field_at branch height = field_of_bytes (dao_of (block_at branch height))

-- ---- The proposer's part

-- the heights at which what is proposed at a height may be committed, from w_close to w_far after it
abbrev pub commit_heights : Specification → ℕ → List ℕ
commit_heights spec height = range_with_len (height + spec.w_close) (spec.w_far + 1 - spec.w_close)

abbrev pub is_at : ℕ → Option ℕ → Bool
is_at height None = false
is_at height (Some found) = found == height

-- the earliest proposer of a transaction is the first height, where it is committed at the second
abbrev pub is_first_proposed_at : Specification → List Block → ℕ → ℕ → Paid → Bool
is_first_proposed_at spec branch proposer committed paid = is_at proposer (earliest spec branch paid.id committed)

-- what the fees that are committed at the second height give to the proposer at the first
unfoldable pub proposer_part : Specification → List Block → ℕ → ℕ → ℕ
proposer_part spec branch proposer committed =
    sum_by (λ paid. proposer_share paid.fee) (filter (is_first_proposed_at spec branch proposer committed) (paid_at spec branch committed))

-- ---- The reward

-- What the blocks of a branch give to the block at a height, 1 or above, in four parts: its primary share; the miner's part of its secondary share,
-- by the field of its parent; the committer's shares of the fees that it commits; and the proposer's shares of the fees that later blocks commit and
-- whose earliest proposer it is.
unfoldable pub part : Specification → List Block → ℕ → ℕ
part spec branch height =
    primary_at spec height
    + miner_part (field_at branch (height - 1)) (secondary_at spec height)
    + sum_by (λ paid. committer_share paid.fee) (paid_at spec branch height)
    + sum_by (proposer_part spec branch height) (commit_heights spec height)

-- The reward of a block is that, once the branch has all blocks that may commit what it proposed; before, it has none yet.
abbrev pub reward : Specification → List Block → ℕ → Option ℕ
reward spec branch height = if nat_lt (height + spec.w_far) (length branch) then Some (part spec branch height) else None
