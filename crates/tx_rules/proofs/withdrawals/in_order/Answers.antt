use Rattle.std.proofs.Common.{◌≡◌, ℕ, List, subst, rules}
use Rattle.std.specs.List.Sorted.{IsPermutation}
use Rattle.std.proofs.lemmas.List.Sorted.{IsNonDecreasingBy-from_sort}
use Rattle.tx_rules.proofs.withdrawals.in_order.Goals as goal

pub returns-clause-rising : goal.returns-clause-rising
returns-clause-rising c = IsNonDecreasingBy-from_sort (λ x. x) c.sort_unstable.new.self.items c.sort_unstable.ensures.sorted

pub returns-clause-same : goal.returns-clause-same
returns-clause-same c =
    let copied : c.in_ok-ordered.ordered.items ≡ c.args.places.now = search rules in
    subst (λ (places : List ℕ). IsPermutation places c.sort_unstable.new.self.items) copied c.sort_unstable.ensures.permutation
