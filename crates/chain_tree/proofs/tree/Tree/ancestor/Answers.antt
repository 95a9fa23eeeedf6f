use Rattle.std.proofs.Common.{◌≡◌, length, ap, sym, ◌∙◌, subst, arith}
use Rattle.chain_tree.specs.Entries.{TreeValue}
use Rattle.chain_tree.specs.Blocks.{IndexesBlocks}
use Rattle.chain_tree.proofs.EntryLemmas.{there-within}
use Rattle.chain_tree.proofs.BlockLemmas.{ancestor-same}
use Rattle.chain_tree.proofs.tree.Tree.ancestor.Goals as goal

pub returns-clause-within : goal.returns-clause-within
returns-clause-within c =
    let below = there-within c.deref.result.now c.ancestor_of.result (λ entry. entry.number ≡ c.args.number) c.ancestor_of.ensures.number in
    omega (arith, below, ap length (c.deref.ensures.value ∙ ap (λ (v : TreeValue). v.entries) c.self.view_is))

pub returns-clause-of_blocks : goal.returns-clause-of_blocks
returns-clause-of_blocks c kept indexes =
    let inside = subst (IndexesBlocks kept) (sym (c.deref.ensures.value ∙ ap (λ (v : TreeValue). v.entries) c.self.view_is)) indexes in
    ancestor-same kept c.deref.result.now c.args.place c.ancestor_of.result c.args.number inside c.ancestor_of.ensures.up c.ancestor_of.ensures.number
