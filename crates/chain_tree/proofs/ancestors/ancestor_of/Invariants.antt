use Rattle.std.proofs.Common.{◌≤◌}
use Rattle.std.specs.Prelude.{IsSomeAnd}
use Rattle.chain_tree.specs.Entries.{entry_at, IsAncestor}
use Rattle.chain_tree.proofs.ancestors.ancestor_of.Given as goal

abbrev pub invariant-walk : goal.invariant-walk
invariant-walk l = record {
  up : IsAncestor l.entries l.place l.at;
  at_least : IsSomeAnd (entry_at l.entries l.at) (λ entry. l.number ≤ entry.number);
}

abbrev pub decreases-walk : goal.decreases-walk
decreases-walk l = l.at
