use Rattle.std.proofs.Common.{length, ap, sym, subst, arith}
use Rattle.std.proofs.lemmas.Option.{slice_get_within}
use Rattle.chain_tree.specs.Entries.{TreeValue}
use Rattle.chain_tree.specs.Blocks.{IndexesBlocks}
use Rattle.chain_tree.proofs.BlockLemmas.{tip-same}
use Rattle.chain_tree.proofs.tree.Tree.tip.Goals as goal

pub returns-clause-within : goal.returns-clause-within
returns-clause-within c =
    let top = c.self.invariant.0.top in
    let below = slice_get_within c.self.inside.entries.items c.self.inside.tip top.top top.there in
    omega (arith, below, ap length (ap (λ (v : TreeValue). v.entries) c.self.view_is))

pub returns-clause-of_blocks : goal.returns-clause-of_blocks
returns-clause-of_blocks c kept indexes =
    let inside = subst (IndexesBlocks kept) (sym (ap (λ (v : TreeValue). v.entries) c.self.view_is)) indexes in
    tip-same kept c.self.inside.entries.items c.self.inside.tip inside c.self.invariant.0.top
