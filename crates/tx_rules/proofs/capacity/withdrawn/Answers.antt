use Rattle.std.proofs.Common.{ℕ, length, ap, ◌∙◌, arith}
use Rattle.std.specs.Prelude.{pos}
use Rattle.chain_defs.specs.Dao.{counted_capacity, as_u64}
use Rattle.chain_defs.specs.Cell.{occupied_by}
use Rattle.chain_defs.specs.Row.{Row}
use Rattle.rule_defs.specs.Capacity.{rate_at}
use Rattle.tx_rules.specs.At.{AtValue}
use Rattle.tx_rules.proofs.MoneyLemmas.{rate-same, made-below, made-place, made-holds, four-same}
use Rattle.tx_rules.proofs.capacity.withdrawn.Goals as goal
use Rattle.tx_rules.proofs.capacity.withdrawn.Goals.{then-meta-len-via-then-meta-len, then-meta-len-via-else-meta-len+then-meta}

pub returns-then-meta-len-clause-undamaged : goal.returns-then-meta-len-clause-undamaged
returns-then-meta-len-clause-undamaged c stored rows site found is its low typed damage broken =
    let kept = made-below stored c.args.at.now rows site found c.args.meta.now c.requires.placed is its low in
    let holds = made-holds stored c.args.at.now rows site found c.args.meta.now is its low typed in
    let long = ap (λ (at : AtValue). length at.entries) c.at.view_is in
    let block = ap (λ (row : Row). row.block) c.meta.view_is in
    let capacity = ap (λ (row : Row). row.capacity) c.meta.view_is in
    let occupied = ap (λ (row : Row). row.occupied) c.meta.view_is in
    elim c.then-meta-len.branch [
      | then-meta-len-via-then-meta-len w ↦ omega (arith, kept.below, long, block, c.len.ensures.len, w.if-meta-len.true)
      | then-meta-len-via-else-meta-len+then-meta w ↦ omega (arith, holds, capacity, occupied, w.if-meta.true)
    ]

pub returns-clause-withdrawn : goal.returns-clause-withdrawn
returns-clause-withdrawn c stored rows site found height is its low earlier deposit =
    c.max_withdraw.ensures.counted
    ∙ four-same (λ (a b d e : ℕ). as_u64 (pos (counted_capacity a b d e))) c.meta.inside.capacity c.meta.inside.occupied
    c.rate_at-made_rate.result c.rate_at-deposit_rate.result
    found.cell.output.capacity (occupied_by found.cell.output found.cell.content) (rate_at site found.cell.height) (rate_at site height)
    (ap (λ (row : Row). row.capacity) (c.meta.view_is ∙ its.is))
    (ap (λ (row : Row). row.occupied) (c.meta.view_is ∙ its.is))
    (rate-same stored c.args.at.now rows site found.cell.height c.meta.inside.block c.rate_at-made_rate.result c.requires.placed is low
    (ap (λ (row : Row). row.block) c.meta.view_is ∙ made-place stored c.args.at.now rows site found c.args.meta.now c.requires.placed is its low)
    c.rate_at-made_rate.ensures.rate)
    (rate-same stored c.args.at.now rows site height c.args.deposit c.rate_at-deposit_rate.result c.requires.placed is earlier deposit c.rate_at-deposit_rate.ensures.rate)
