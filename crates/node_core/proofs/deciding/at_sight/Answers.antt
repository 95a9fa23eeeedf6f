use Rattle.std.proofs.Common.{◌≡◌, None, Some, sym, ap, subst}
use Rattle.chain_defs.specs.Kept.{block_hash, place_of}
use Rattle.verdict_defs.specs.Chain.{Chain}
use Rattle.chain_tree.specs.Told.{blocks_of}
use Rattle.chain_defs.proofs.KeptLaws.{place_of-below}
use Rattle.node_store.specs.Kept.{KeptValue, kept_of}
use Rattle.node_store.specs.Judging.{WantsMemory}
use Rattle.node_store.proofs.EntryLemmas.{within-entries}
use Rattle.node_core.proofs.deciding.at_sight.Goals as goal

pub judge_at_sight-requires : goal.judge_at_sight-requires
judge_at_sight-requires c = record {
  parent = within-entries (blocks_of c.kept.inside.blocks.stored) c.args.kept.now.chain.blocks c.kept.inside.tree.entries c.args.parent
      (ap (λ (v : KeptValue). v.chain.blocks) c.kept.view_is) c.kept.invariant.indexed
      (place_of-below c.args.kept.now.chain.blocks c.args.block.now.header.parent_hash c.args.parent c.requires);
}

pub returns-clause-asked : goal.returns-clause-asked
returns-clause-asked c new stop same =
    let whole : (kept_of c.kept.inside.spec c.kept.inside.blocks.stored c.kept.inside.tree.entries).chain ≡ c.args.kept.now.chain = ap (λ (v : KeptValue). v.chain) c.kept.view_is in
    let body = c.judge_at_sight.ensures.asked_of_body stop same in
    subst (λ (k : Chain). WantsMemory k c.args.block.now) whole (record {
      new = subst (λ (k : Chain). place_of k.blocks (block_hash c.args.block.now) ≡ None) (sym whole) new;
      parent = c.args.parent;
      on_kept = subst (λ (k : Chain). place_of k.blocks c.args.block.now.header.parent_hash ≡ Some c.args.parent) (sym whole) c.requires;
      header = c.judge_at_sight.ensures.asked (blocks_of c.kept.inside.blocks.stored) c.kept.invariant.indexed stop same;
      short = body.0;
      few = body.1;
    })
