-- What the definitions of rewards and of the DAO field are for, in words.
use Rattle.std.specs.Prelude.{◌≡◌, ℕ, ◌+◌, ◌-◌, ◌<◌, ◌≤◌, ◌==◌, List, ◌++◌, length, map, drop, Some, IsTrue}
use Rattle.std.specs.List.{list_any}
use Rattle.chain_defs.specs.Schema.{Block}
use Rattle.chain_defs.specs.Specification.{Specification, keeps_s3}
use Rattle.chain_defs.specs.Dao.{DaoField, Movement, next_field, is_rated}
use Rattle.chain_defs.specs.Kept.{block_at}
use Rattle.chain_defs.specs.Hashes.{proposal_id}
use Rattle.rule_defs.specs.Capacity.{fees_from}
use Rattle.rule_defs.specs.Fees.{paid_in, proposer_share, committer_share}
use Rattle.rule_defs.specs.Window.{window}
use Rattle.rule_defs.specs.Reward.{part, dao_of, commit_heights}
use Rattle.rule_defs.specs.RewardRules.{has_next_dao}

-- Law: a fee is shared without a rest.
abbrev pub FeesAreShared : Type 0
FeesAreShared = (fee : ℕ) → committer_share fee + proposer_share fee ≡ fee

-- Law: what a block commits are the fees that its ext keeps, each with the id of its transaction.
abbrev pub PaysItsFees : Type 0
PaysItsFees = (spec : Specification) (branch : List Block) (b : Block)
    → (map (λ paid. paid.fee) (paid_in spec branch (Some b)) ≡ fees_from spec branch b 1 (drop 1 b.transactions))
    × (map (λ paid. paid.id) (paid_in spec branch (Some b)) ≡ map proposal_id (drop 1 b.transactions))

-- Law: a block may commit what another proposed exactly where that one stands in its window, so that a fee's proposer is paid once at most.
abbrev pub CommitsInItsWindow : Type 0
CommitsInItsWindow = (spec : Specification) (proposer committed : ℕ) → IsTrue (keeps_s3 spec.w_close spec.w_far)
    → list_any (λ height. height == committed) (commit_heights spec proposer) ≡ list_any (λ height. height == proposer) (window spec committed)

-- Law: a reward does not depend on when it is asked for: what a block is given is the same on each longer branch, once all that may commit what it
-- proposed stands there.
abbrev pub PartStays : Type 0
PartStays = (spec : Specification) (branch more : List Block) (height : ℕ) → IsTrue (keeps_s3 spec.w_close spec.w_far)
    → height + spec.w_far < length branch → part spec (branch ++ more) height ≡ part spec branch height

-- Law: C and AR never fall.
abbrev pub RatesNeverFall : Type 0
RatesNeverFall = (old : DaoField) (move : Movement) (new : DaoField) → next_field old move ≡ Some new
    → (old.issued ≤ new.issued) × (old.rate ≤ new.rate)

-- Law: so a block that keeps J32 is rated where its parent is.
abbrev pub StaysRated : Type 0
StaysRated = (spec : Specification) (branch : List Block) (b : Block) → IsTrue (is_rated (dao_of (block_at branch (length branch - 1))))
    → IsTrue (has_next_dao spec branch b) → IsTrue (is_rated b.header.dao)
