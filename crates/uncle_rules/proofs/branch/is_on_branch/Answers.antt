use Rattle.std.proofs.Common.{arith}
use Rattle.uncle_rules.proofs.BranchLemmas.{not-kept, not-below, is-ancestor}
use Rattle.uncle_rules.proofs.branch.is_on_branch.Goals as goal

pub returns-then-len-place : goal.returns-then-len-place
returns-then-len-place c kept indexes =
    not-kept kept c.args.tree.now.entries c.args.parent c.args.place indexes c.requires (omega (arith, c.len.ensures.len, c.if-len-place.true))

pub returns-then-entry-number : goal.returns-then-entry-number
returns-then-entry-number c kept indexes =
    not-below kept c.args.tree.now.entries c.args.parent c.args.place c.entry-2.result.now c.entry.result.now indexes c.entry-2.ensures.entry c.entry.ensures.entry
    (omega (arith, c.if-entry-number.true))

pub returns : goal.returns
returns c kept indexes =
    is-ancestor kept c.args.tree.now.entries c.args.parent c.args.place c.ancestor.result c.entry.result.now indexes c.requires c.entry.ensures.entry
    (c.ancestor.ensures.of_blocks kept indexes)
