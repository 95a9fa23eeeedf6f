use Rattle.std.proofs.Common.{◌≡◌, ℕ, ◌+◌, ◌*◌, ◌≤◌, ◌^◌, ◌-◌, List, length, drop}
use Rattle.std.specs.List.{sum}
use Rattle.supply.specs.Moving.{HasFees}
use Rattle.supply.proofs.fees.fees_in.Given as goal

-- with those that are left it is the sum of all
abbrev pub invariant-fees : goal.invariant-fees
invariant-fees l = record {
  sum_so_far : (fees : List ℕ) → HasFees l.ext fees → l.count ≡ length fees → l.sum + sum (drop l.i fees) ≡ sum fees;
  few : l.sum ≤ l.i * (2 ^ 64 - 1);
}
