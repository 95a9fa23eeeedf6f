use Rattle.std.proofs.Common.{ap}
use Rattle.chain_tree.specs.Told.{blocks_of}
use Rattle.node_store.specs.Kept.{KeptValue}
use Rattle.node_store.proofs.EntryLemmas.{within-blocks}
use Rattle.explanation.proofs.block.explain_item.Goals as goal

pub moved-requires-clause-from : goal.moved-requires-clause-from
moved-requires-clause-from g c =
    within-blocks (blocks_of c.kept.inside.blocks.stored) c.args.kept.now.chain.blocks c.kept.inside.tree.entries c.tip-from.result
    (ap (λ (v : KeptValue). v.chain.blocks) c.kept.view_is) c.kept.invariant.indexed c.tip-from.ensures.within

pub moved-requires-clause-to : goal.moved-requires-clause-to
moved-requires-clause-to g c =
    within-blocks (blocks_of c.kept.inside.blocks.stored) c.args.kept.now.chain.blocks c.kept.inside.tree.entries c.in-Some-find.parent
    (ap (λ (v : KeptValue). v.chain.blocks) c.kept.view_is) c.kept.invariant.indexed c.in-Some-find.ensures.within

pub explain_over-came-requires-clause-placed : goal.explain_over-came-requires-clause-placed
explain_over-came-requires-clause-placed g c =
    within-blocks (blocks_of c.kept.inside.blocks.stored) c.args.kept.now.chain.blocks c.kept.inside.tree.entries c.in-Some-find.parent
    (ap (λ (v : KeptValue). v.chain.blocks) c.kept.view_is) c.kept.invariant.indexed c.in-Some-find.ensures.within
