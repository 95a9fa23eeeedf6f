-- The fees that the blocks of a branch commit, and how a fee is shared (docs/RULES.md, "The reward"). In shannons; divisions round down.
use Rattle.std.specs.Prelude.{ℕ, suc, ◌-◌, ◌*◌, ◌/◌, List, [], ◌∷◌, take, drop, Option, Some, None}
use Rattle.chain_defs.specs.Schema.{Transaction, Block}
use Rattle.chain_defs.specs.Specification.{Specification}
use Rattle.chain_defs.specs.Kept.{block_at}
use Rattle.chain_defs.specs.Hashes.{proposal_id}
use Rattle.rule_defs.specs.Site.{site_at}
use Rattle.rule_defs.specs.Capacity.{fee}

-- a fee, and the proposal id of the transaction that pays it
pub record Paid : Type 0 where
  pub id : List ℕ
  pub fee : ℕ

-- what the transactions of a block pay, from a place on
unfoldable pub paid_from : Specification → List Block → Block → ℕ → List Transaction → List Paid
paid_from spec branch b place [] = []
paid_from spec branch b place (t ∷ later) =
    record { id = proposal_id t; fee = fee (site_at spec branch b place) t } ∷ paid_from spec branch b (suc place) later

-- what those of a block after its cellbase pay, on the branch that it stands on
abbrev pub paid_in : Specification → List Block → Option Block → List Paid
paid_in spec branch None = []
paid_in spec branch (Some b) = paid_from spec branch b 1 (drop 1 b.transactions)

-- The fees that the block at a height of a branch commits, at 1 or above: the genesis commits none.
unfoldable pub paid_at : Specification → List Block → ℕ → List Paid
paid_at spec branch height = paid_in spec (take height branch) (block_at branch height)

-- Four tenths of a fee are for the earliest proposer of its transaction in the window ..
abbrev pub proposer_share : ℕ → ℕ
proposer_share fee = 4 * fee / 10

-- .. and the rest is for the one that commits it.
abbrev pub committer_share : ℕ → ℕ
committer_share fee = fee - proposer_share fee
