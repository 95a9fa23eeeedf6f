use Rattle.std.proofs.Common.{rules, ap}
use Rattle.chain_tree.specs.Told.{blocks_of}
use Rattle.node_store.specs.Kept.{KeptValue}
use Rattle.node_store.proofs.EntryLemmas.{kept-parent}
use Rattle.node_store.proofs.KeptSources.{counts-entries}
use Rattle.explanation.proofs.over_disk.transaction_over.Goals as goal

pub explain-requires-clause-placed : goal.explain-requires-clause-placed
explain-requires-clause-placed g c =
    kept-parent c.kept.inside.blocks.stored c.kept.inside.tree.entries c.kept.inside.uncles c.tip.result c.kept.invariant c.tip.ensures.within

pub explain-requires-clause-counts : goal.explain-requires-clause-counts
explain-requires-clause-counts g c =
    counts-entries (blocks_of c.kept.inside.blocks.stored) c.args.kept.now.chain.blocks c.kept.inside.tree.entries _
    (ap (λ (v : KeptValue). v.chain.blocks) c.kept.view_is) c.kept.invariant.indexed c.requires.counts
