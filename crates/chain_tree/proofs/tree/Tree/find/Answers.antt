use Rattle.std.proofs.Common.{ap, sym, ◌∙◌, subst}
use Rattle.chain_tree.specs.Entries.{TreeValue, place_of_hash}
use Rattle.chain_tree.specs.Blocks.{IndexesBlocks}
use Rattle.chain_tree.proofs.IndexLemmas.{found-within}
use Rattle.chain_tree.proofs.BlockLemmas.{find-same}
use Rattle.chain_tree.proofs.tree.Tree.find.Goals as goal

pub returns-clause-within : goal.returns-clause-within
returns-clause-within c =
    found-within c.args.self.now.entries c.args.hash.now c.copied.result
    (c.copied.ensures ∙ c.get.ensures.value ∙ c.self.invariant.0.finds c.args.hash.now
    ∙ ap (λ (v : TreeValue). place_of_hash v.entries c.args.hash.now) c.self.view_is)

pub returns-clause-of_blocks : goal.returns-clause-of_blocks
returns-clause-of_blocks c kept indexes =
    let inside = subst (IndexesBlocks kept) (sym (ap (λ (v : TreeValue). v.entries) c.self.view_is)) indexes in
    c.copied.ensures ∙ c.get.ensures.value ∙ c.self.invariant.0.finds c.args.hash.now ∙ find-same kept c.self.inside.entries.items c.args.hash.now inside
