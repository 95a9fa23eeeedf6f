use Rattle.chain_tree.proofs.EntryLemmas.{ancestor-ancestor, number-exact}
use Rattle.chain_tree.proofs.ancestors.ancestor_of.Goals as goal

pub walk-preserved : goal.walk-preserved
walk-preserved c = record {
  up = ancestor-ancestor c.args.entries.now c.args.place c.walk.at c.next_up-at.result c.walk.invariant.up c.next_up-at.ensures.up;
  at_least = c.next_up-at.ensures.at_least;
}

pub returns-clause-number : goal.returns-clause-number
returns-clause-number c = number-exact c.args.entries.now c.walk.at c.args.number _ c.walk.invariant.at_least c.walk-test.false
