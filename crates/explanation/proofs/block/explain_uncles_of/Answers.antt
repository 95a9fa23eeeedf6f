use Rattle.std.proofs.Common.{ap}
use Rattle.chain_tree.specs.Told.{blocks_of}
use Rattle.node_store.specs.Kept.{KeptValue}
use Rattle.node_store.proofs.KeptSources.{counts-entries}
use Rattle.explanation.proofs.block.explain_uncles_of.Goals as goal

pub explain_uncles-requires : goal.explain_uncles-requires
explain_uncles-requires g c = record {
  counts = counts-entries (blocks_of c.kept.inside.blocks.stored) c.args.kept.now.chain.blocks c.kept.inside.tree.entries _
      (ap (λ (v : KeptValue). v.chain.blocks) c.kept.view_is) c.kept.invariant.indexed c.requires.counts;
}
