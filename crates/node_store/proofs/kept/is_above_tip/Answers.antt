use Rattle.node_store.proofs.JoiningLemmas.{above-tip}
use Rattle.node_store.proofs.kept.is_above_tip.Goals as goal

pub returns : goal.returns
returns c kept indexed =
    above-tip kept c.tip.result c.entry.result.now c.args.entry.now (c.tip.ensures.of_blocks kept indexed) (c.entry.ensures.of_block kept indexed)
