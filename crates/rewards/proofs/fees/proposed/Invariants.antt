use Rattle.std.proofs.Common.{◌≡◌, pos, List, take}
use Rattle.std.specs.List.{sum_by, filter}
use Rattle.std.specs.Str.{bytes_eq}
use Rattle.std.specs.HashMap.{get}
use Rattle.chain_defs.specs.Dao.{as_u64}
use Rattle.rule_defs.specs.Fees.{Paid, proposer_share}
use Rattle.rewards.specs.Paid.{ArePaid}
use Rattle.rewards.specs.Starts.{is_started}
use Rattle.rewards.proofs.fees.proposed.Given as goal

-- the sum over those before the i-th
abbrev pub invariant-fees : goal.invariant-fees
invariant-fees l = (paids : List Paid) → ArePaid l.ext l.ids paids → l.sum ≡ as_u64 (pos (sum_by (λ paid. proposer_share paid.fee)
    (filter (λ paid. is_started (get bytes_eq l.starts paid.id) l.height) (take l.i paids))))
