use Rattle.std.proofs.Common.{◌≡◌, pos, List, take}
use Rattle.std.specs.List.{sum_by}
use Rattle.chain_defs.specs.Dao.{as_u64}
use Rattle.rule_defs.specs.Fees.{Paid, committer_share}
use Rattle.rewards.specs.Paid.{ArePaid}
use Rattle.rewards.proofs.fees.committed.Given as goal

-- the sum over those before the i-th
abbrev pub invariant-fees : goal.invariant-fees
invariant-fees l = (paids : List Paid) → ArePaid l.ext l.ids paids → l.sum ≡ as_u64 (pos (sum_by (λ paid. committer_share paid.fee) (take l.i paids)))
