-- What a block is given, in numbers.
use Rattle.std.proofs.Common.{◌≡◌, ℕ, ◌+◌, ◌*◌, ◌^◌, ◌<◌, ◌≤◌, Bool, true, false, ap, ◌∙◌, arith}
use Rattle.chain_defs.specs.Dao.{DaoField, miner_part}
use Rattle.rule_defs.specs.Shares.{primary_at, secondary_at}
use Rattle.gen_defs.specs.Start.{specification, coin_capacity}
use Rattle.gen_defs.specs.Heights.{count_if, commits, proposes, reward_by}
use Rattle.gen_defs.proofs.Numbers.{part_below, primary_bound, secondary_bound}

pub miner_below : (old : DaoField) (height : ℕ) → coin_capacity ≤ old.issued → old.occupied < 2 ^ 64 → miner_part old (secondary_at specification height) < 2 ^ 50
miner_below old height issued occupied = part_below 10000000001 (2 ^ 64) (10 ^ 15) (2 ^ 50) (secondary_bound height) (omega (arith, occupied)) issued (omega arith) (omega arith)

-- what is issued for it
pub issued_below : (old : DaoField) (height primary miner : ℕ) → coin_capacity ≤ old.issued → old.occupied < 2 ^ 64 → primary ≡ primary_at specification height
    → miner ≡ miner_part old (secondary_at specification height) → primary + miner < 2 ^ 60
issued_below old height primary miner issued occupied primary_is miner_is =
    omega (arith, primary_is, miner_is, primary_bound height, miner_below old height issued occupied)

pub count_bound : (there : Bool) → count_if there ≤ 1
count_bound true = omega arith
count_bound false = omega arith

pub reward_is : (old : DaoField) (height given committed proposed : ℕ) → given ≡ primary_at specification height + miner_part old (secondary_at specification height)
    → committed ≡ count_if (commits height) → proposed ≡ count_if (proposes height) → given + committed * 600 + proposed * 400 ≡ reward_by old height
unfolding reward_by
reward_is old height given committed proposed given_is committed_is proposed_is =
    ap (λ (n : ℕ). n + committed * 600 + proposed * 400) given_is
    ∙ ap (λ (n : ℕ). primary_at specification height + miner_part old (secondary_at specification height) + n * 600 + proposed * 400) committed_is
    ∙ ap (λ (n : ℕ). primary_at specification height + miner_part old (secondary_at specification height) + count_if (commits height) * 600 + n * 400) proposed_is
