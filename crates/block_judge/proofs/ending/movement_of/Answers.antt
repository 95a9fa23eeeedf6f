use Rattle.std.proofs.Common.{ap, ◌∙◌, rules}
use Rattle.std.specs.Int.{w128}
use Rattle.std.proofs.lemmas.Int.{to_z-of_z}
use Rattle.chain_defs.specs.Specification.{Specification}
use Rattle.rule_defs.specs.Shares.{primary_at, secondary_at}
use Rattle.block_judge.proofs.EndingLemmas.{movement-same}
use Rattle.block_judge.proofs.ending.movement_of.Goals as goal

pub returns : goal.returns
returns c on high moved =
    movement-same c.args.spec.now on c.args.block.now c.primary.result c.share.result _ c.made_in.result c.args.outcome.now.freed
    (c.primary.ensures ∙ ap (primary_at c.args.spec.now) high)
    (c.share.ensures.share ∙ ap (λ (spec : Specification). secondary_at spec c.args.height) c.spec.view_is ∙ ap (secondary_at c.args.spec.now) high) c.made_in.ensures
    (record { interest_is = to_z-of_z w128 c.args.outcome.now.interest (search rules) ∙ moved.interest_is; freed_is = moved.freed_is })
