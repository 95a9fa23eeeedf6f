use Rattle.std.proofs.Common.{length, ap, ◌∙◌}
use Rattle.chain_defs.specs.Tip.{best_branch}
use Rattle.chain_tree.specs.Told.{blocks_of}
use Rattle.node_store.specs.Kept.{KeptValue}
use Rattle.node_store.proofs.QueryLemmas.{best-long}
use Rattle.node_store.proofs.kept.Kept.height.Goals as goal

pub returns : goal.returns
returns c =
    best-long (blocks_of c.self.inside.blocks.stored) c.self.inside.tree.entries c.tip.result c.self.invariant.indexed
    (c.tip.ensures.of_blocks (blocks_of c.self.inside.blocks.stored) c.self.invariant.indexed) c.entry.result.now c.entry.ensures.entry
    ∙ ap (λ (v : KeptValue). length (best_branch v.chain.blocks)) c.self.view_is
