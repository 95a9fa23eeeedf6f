use Rattle.std.proofs.Common.{length, ap, arith}
use Rattle.chain_tree.specs.Entries.{TreeValue}
use Rattle.chain_tree.proofs.BlockLemmas.{len-same}
use Rattle.chain_tree.proofs.tree.Tree.len.Goals as goal

pub overflow_cast-result : goal.overflow_cast-result
overflow_cast-result c =
    omega (arith, c.len.ensures, c.self.inside.entries.ok, c.self.invariant.0.tree.few)

pub returns-clause-of_blocks : goal.returns-clause-of_blocks
returns-clause-of_blocks c kept indexes =
    omega (arith, c.len.ensures, c.self.inside.entries.ok, ap length (ap (λ (v : TreeValue). v.entries) c.self.view_is), len-same kept c.args.self.now.entries indexes)
