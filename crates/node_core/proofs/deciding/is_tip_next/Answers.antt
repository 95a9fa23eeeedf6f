use Rattle.std.proofs.Common.{sym, ap, ◌∙◌}
use Rattle.chain_tree.specs.Told.{blocks_of}
use Rattle.chain_defs.specs.Tip.{tip}
use Rattle.node_store.specs.Kept.{KeptValue}
use Rattle.node_store.specs.declared.decision.Decision.{Decision}
use Rattle.node_store.specs.Judging.{is_above, becomes_tip}
use Rattle.node_core.proofs.deciding.is_tip_next.Goals as goal

pub returns-in-Joins : goal.returns-in-Joins
returns-in-Joins c =
    c.is_above_tip.ensures (blocks_of c.kept.inside.blocks.stored) c.kept.invariant.indexed
    ∙ ap (λ (v : KeptValue). is_above (tip v.chain.blocks) c.in-Joins.joining.entry) c.kept.view_is
    ∙ sym (ap (λ (d : Decision). becomes_tip c.args.kept.now.chain.blocks d) c.in-Joins.is)
