use Rattle.std.proofs.Common.{◌<◌, ◌+◌, ◌^◌, ap, ◌∙◌, arith}
use Rattle.chain_defs.specs.Specification.{Specification}
use Rattle.chain_defs.specs.Dao.{miner_part}
use Rattle.rule_defs.specs.Shares.{primary_at, secondary_at}
use Rattle.chain_gen.proofs.Rewards.{issued_below}
use Rattle.chain_gen.proofs.heights.shares.Goals as goal

pub returns-clause-bounded : goal.returns-clause-bounded
returns-clause-bounded c =
    let secondary = c.share-secondary.ensures.share
    ∙ ap (λ (spec : Specification). secondary_at spec c.args.height) (c.spec.view_is ∙ c.specification-spec.ensures) in
    let miner = c.miner_share.ensures ∙ ap (miner_part c.args.before.now) secondary in
    let primary = c.primary.ensures ∙ ap (λ (spec : Specification). primary_at spec c.args.height) c.specification-spec.ensures in
    issued_below c.args.before.now c.args.height c.primary.result c.miner_share.result c.requires.issued c.requires.occupied primary miner

pub overflow_add-result : goal.overflow_add-result
overflow_add-result c =
    let secondary = c.share-secondary.ensures.share
    ∙ ap (λ (spec : Specification). secondary_at spec c.args.height) (c.spec.view_is ∙ c.specification-spec.ensures) in
    let miner = c.miner_share.ensures ∙ ap (miner_part c.args.before.now) secondary in
    let primary = c.primary.ensures ∙ ap (λ (spec : Specification). primary_at spec c.args.height) c.specification-spec.ensures in
    let below : c.primary.result + c.miner_share.result < 2 ^ 60 =
    issued_below c.args.before.now c.args.height c.primary.result c.miner_share.result c.requires.issued c.requires.occupied primary miner in
    omega (arith, below)

pub overflow_cast-result : goal.overflow_cast-result
overflow_cast-result c =
    let secondary = c.share-secondary.ensures.share
    ∙ ap (λ (spec : Specification). secondary_at spec c.args.height) (c.spec.view_is ∙ c.specification-spec.ensures) in
    let miner = c.miner_share.ensures ∙ ap (miner_part c.args.before.now) secondary in
    let primary = c.primary.ensures ∙ ap (λ (spec : Specification). primary_at spec c.args.height) c.specification-spec.ensures in
    let below : c.primary.result + c.miner_share.result < 2 ^ 60 =
    issued_below c.args.before.now c.args.height c.primary.result c.miner_share.result c.requires.issued c.requires.occupied primary miner in
    omega (arith, below)
