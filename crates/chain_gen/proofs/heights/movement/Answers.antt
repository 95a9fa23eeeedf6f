use Rattle.std.proofs.Common.{ap, ◌∙◌}
use Rattle.chain_defs.specs.Specification.{Specification}
use Rattle.rule_defs.specs.Shares.{primary_at, secondary_at}
use Rattle.gen_defs.specs.Heights.{count_if}
use Rattle.chain_gen.proofs.Numbers.{counted, movement_is}
use Rattle.chain_gen.proofs.heights.movement.Goals as goal

pub returns : goal.returns
returns c =
    movement_is c.args.height _ _ _ _
    (c.primary.ensures ∙ ap (λ (spec : Specification). primary_at spec c.args.height) c.specification-spec.ensures)
    (c.share.ensures.share ∙ ap (λ (spec : Specification). secondary_at spec c.args.height) (c.spec.view_is ∙ c.specification-spec.ensures))
    (c.from.ensures ∙ counted _ ∙ ap count_if c.pays.ensures)
    (c.from-transferred.ensures ∙ counted _ ∙ ap count_if c.commits.ensures)
