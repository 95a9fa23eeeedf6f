use Rattle.std.proofs.Common.{ap, ◌∙◌}
use Rattle.gen_defs.specs.Heights.{count_if}
use Rattle.chain_gen.proofs.Numbers.{counted}
use Rattle.chain_gen.proofs.Rewards.{reward_is}
use Rattle.chain_gen.proofs.heights.reward.Goals as goal

pub returns : goal.returns
returns c =
    reward_is c.args.before.now c.args.height _ _ _ c.shares.ensures.value (c.from.ensures ∙ counted _ ∙ ap count_if c.commits.ensures)
    (c.from-2.ensures ∙ counted _ ∙ ap count_if c.proposes.ensures)
