use Rattle.std.proofs.Common.{◌≡◌, ℕ, ◌+◌, ◌<◌, length, drop, Some, refl, ap, ◌∙◌, arith}
use Rattle.std.specs.List.{sum}
use Rattle.std.proofs.lemmas.Option.{same_Some}
use Rattle.chain_defs.proofs.WalkLemmas.{drop-there}
use Rattle.supply.proofs.SumLemmas.{sum-more, FeeAt, fee-at}
use Rattle.supply.proofs.fees.fees_in.Goals as goal

pub fees-preserved : goal.fees-preserved
fees-preserved c = record {
  sum_so_far = λ fees has count.
      let within : c.fees.i < length fees = omega (arith, c.fees-test.true, count) in
      let it : FeeAt fees c.fees.i (Some c.in-Some.fee) = fee-at c.args.ext.now fees c.fees.i (c.fees.i + 1) (Some c.in-Some.fee) has within refl c.in-Some.ensures in
      let is : c.in-Some.fee ≡ it.fee = same_Some c.in-Some.fee it.fee it.is in
      sum-more (λ (n : ℕ). n) (drop c.fees.i fees) (drop (c.fees.i + 1) fees) it.fee c.fees.sum (c.fees.sum + c.from-sum.result) (sum fees)
      (drop-there fees c.fees.i it.fee it.there) (c.fees.invariant.sum_so_far fees has count) (ap (λ (n : ℕ). c.fees.sum + n) (c.from-sum.ensures ∙ is));
  few = let few = c.fees.invariant.few in omega (arith, few);
}
