use Rattle.std.proofs.Common.{ap}
use Rattle.chain_tree.specs.Told.{blocks_of}
use Rattle.node_store.specs.Kept.{KeptValue}
use Rattle.node_store.proofs.EntryLemmas.{kept-parent, within-entries}
use Rattle.node_store.proofs.KeptSources.{counts-entries}
use Rattle.explanation.proofs.block.explain_over.Goals as goal

pub explain_payment-requires : goal.explain_payment-requires
explain_payment-requires g c = record {
  placed = kept-parent c.kept.inside.blocks.stored c.kept.inside.tree.entries c.kept.inside.uncles c.args.parent c.kept.invariant
      (within-entries (blocks_of c.kept.inside.blocks.stored) c.args.kept.now.chain.blocks c.kept.inside.tree.entries c.args.parent
      (ap (λ (v : KeptValue). v.chain.blocks) c.kept.view_is) c.kept.invariant.indexed c.requires.placed);
  counts = counts-entries (blocks_of c.kept.inside.blocks.stored) c.args.kept.now.chain.blocks c.kept.inside.tree.entries _
      (ap (λ (v : KeptValue). v.chain.blocks) c.kept.view_is) c.kept.invariant.indexed c.requires.counts;
}

pub explain_transactions-requires : goal.explain_transactions-requires
explain_transactions-requires g c = record {
  placed = kept-parent c.kept.inside.blocks.stored c.kept.inside.tree.entries c.kept.inside.uncles c.args.parent c.kept.invariant
      (within-entries (blocks_of c.kept.inside.blocks.stored) c.args.kept.now.chain.blocks c.kept.inside.tree.entries c.args.parent
      (ap (λ (v : KeptValue). v.chain.blocks) c.kept.view_is) c.kept.invariant.indexed c.requires.placed);
  counts = counts-entries (blocks_of c.kept.inside.blocks.stored) c.args.kept.now.chain.blocks c.kept.inside.tree.entries _
      (ap (λ (v : KeptValue). v.chain.blocks) c.kept.view_is) c.kept.invariant.indexed c.requires.counts;
}

pub explain_dao-requires : goal.explain_dao-requires
explain_dao-requires g c =
    kept-parent c.kept.inside.blocks.stored c.kept.inside.tree.entries c.kept.inside.uncles c.args.parent c.kept.invariant
    (within-entries (blocks_of c.kept.inside.blocks.stored) c.args.kept.now.chain.blocks c.kept.inside.tree.entries c.args.parent
    (ap (λ (v : KeptValue). v.chain.blocks) c.kept.view_is) c.kept.invariant.indexed c.requires.placed)
