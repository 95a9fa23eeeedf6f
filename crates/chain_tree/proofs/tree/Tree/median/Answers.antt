use Rattle.std.proofs.Common.{ap, sym, ◌∙◌, subst}
use Rattle.chain_tree.specs.Entries.{TreeValue}
use Rattle.chain_tree.specs.Blocks.{IndexesBlocks}
use Rattle.chain_tree.proofs.tree.Tree.median.Goals as goal

pub returns : goal.returns
returns c = record {
  of_blocks = λ kept indexes.
      c.median_at.ensures.of_blocks kept (subst (IndexesBlocks kept) (sym (c.deref.ensures.value ∙ ap (λ (v : TreeValue). v.entries) c.self.view_is)) indexes);
}
