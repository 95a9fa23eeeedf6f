use Rattle.std.proofs.Common.{◌≡◌, length, ap, ◌∙◌, subst, arith}
use Rattle.chain_defs.specs.Kept.{block_at}
use Rattle.chain_defs.specs.Tip.{best_branch}
use Rattle.chain_tree.specs.Told.{blocks_of}
use Rattle.chain_tree.proofs.BlockLemmas.{len-same}
use Rattle.node_store.specs.Kept.{KeptValue}
use Rattle.node_store.proofs.QueryLemmas.{best-long, none-above, block-at}
use Rattle.node_store.proofs.kept.Kept.place_at.Goals as goal

pub returns-then-height-entry-clause-block : goal.returns-then-height-entry-clause-block
returns-then-height-entry-clause-block c =
    none-above (blocks_of c.self.inside.blocks.stored) c.self.inside.tree.entries c.tip-tip.result c.self.invariant.indexed
    (c.tip-tip.ensures.of_blocks (blocks_of c.self.inside.blocks.stored) c.self.invariant.indexed) c.entry.result.now c.args.height c.entry.ensures.entry
    (omega (arith, c.if-height-entry.true))
    ∙ ap (λ (v : KeptValue). block_at (best_branch v.chain.blocks) c.args.height) c.self.view_is

pub returns-clause-within : goal.returns-clause-within
returns-clause-within c =
    omega (
      arith,
      c.ancestor.ensures.within,
      len-same (blocks_of c.self.inside.blocks.stored) c.self.inside.tree.entries c.self.invariant.indexed,
      ap (λ (v : KeptValue). length v.chain.blocks) c.self.view_is,
    )

pub returns-clause-on_branch : goal.returns-clause-on_branch
returns-clause-on_branch c =
    omega (
      arith,
      c.if-height-entry.false,
      best-long (blocks_of c.self.inside.blocks.stored) c.self.inside.tree.entries c.tip-tip.result c.self.invariant.indexed
          (c.tip-tip.ensures.of_blocks (blocks_of c.self.inside.blocks.stored) c.self.invariant.indexed) c.entry.result.now c.entry.ensures.entry,
      ap (λ (v : KeptValue). length (best_branch v.chain.blocks)) c.self.view_is,
    )

pub returns-clause-block : goal.returns-clause-block
returns-clause-block c =
    subst (λ (v : KeptValue). block_at v.chain.blocks c.ancestor.result ≡ block_at (best_branch v.chain.blocks) c.args.height) c.self.view_is
    (block-at (blocks_of c.self.inside.blocks.stored) c.self.inside.tree.entries c.tip-tip.result c.self.invariant.indexed
    (c.tip-tip.ensures.of_blocks (blocks_of c.self.inside.blocks.stored) c.self.invariant.indexed) c.args.height c.ancestor.result c.tip-tip.ensures.within
    (c.ancestor.ensures.of_blocks (blocks_of c.self.inside.blocks.stored) c.self.invariant.indexed))
