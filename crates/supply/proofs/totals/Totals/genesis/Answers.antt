use Rattle.std.proofs.Common.{◌+◌, drop, refl, sym, ap, ◌∙◌, arith}
use Rattle.std.specs.Prelude.{sum_by}
use Rattle.std.proofs.lemmas.List.{drop_all}
use Rattle.chain_defs.proofs.WalkLemmas.{drop-there}
use Rattle.rule_defs.specs.Capacity.{held_out}
use Rattle.rule_defs.specs.Field.{made_by}
use Rattle.supply_defs.proofs.Start.{starts-with-its-outputs}
use Rattle.supply.proofs.SumLemmas.{sum-more, sum-end}
use Rattle.supply.proofs.totals.Totals.genesis.Goals as goal

pub transactions-preserved : goal.transactions-preserved
transactions-preserved c =
    let rest = drop-there c.args.block.transactions c.transactions.i c.transactions_item-tx.result c.transactions_item-tx.ensures in
    let held = c.held_out-live.ensures.fits in
    let made = c.made_by-occupied.ensures.fits in
    let live = c.transactions.invariant.live in
    let occupied = c.transactions.invariant.occupied in
    record {
      held = sum-more held_out (drop c.transactions.i c.args.block.transactions) (drop (c.transactions.i + 1) c.args.block.transactions) c.transactions_item-tx.result
          c.transactions.live (c.transactions.live + c.held_out-live.result) (sum_by held_out c.args.block.transactions) rest c.transactions.invariant.held
          (ap (λ n. c.transactions.live + n) c.held_out-live.ensures.held);
      made = sum-more made_by (drop c.transactions.i c.args.block.transactions) (drop (c.transactions.i + 1) c.args.block.transactions) c.transactions_item-tx.result
          c.transactions.occupied (c.transactions.occupied + c.made_by-occupied.result) (sum_by made_by c.args.block.transactions) rest c.transactions.invariant.made
          (ap (λ n. c.transactions.occupied + n) c.made_by-occupied.ensures.made);
      live = omega (arith, held, live);
      occupied = omega (arith, made, occupied);
    }

pub returns-clause-of_genesis : goal.returns-clause-of_genesis
returns-clause-of_genesis c spec good =
    let past = c.transactions-test.false in
    let count = c.transactions_count-i-end.ensures.value in
    let none = drop_all c.transactions.i c.args.block.transactions (omega (arith, past, count)) in
    let held = sum-end held_out (drop c.transactions.i c.args.block.transactions) c.transactions.live (sum_by held_out c.args.block.transactions) none
    c.transactions.invariant.held in
    let made = sum-end made_by (drop c.transactions.i c.args.block.transactions) c.transactions.occupied (sum_by made_by c.args.block.transactions) none
    c.transactions.invariant.made in
    record {
      height = refl;
      sums = (λ i. record { live = held i; occupied = made i; unpaid = 0; burned = 0 }) ∙ sym (starts-with-its-outputs spec c.args.block good);
    }
