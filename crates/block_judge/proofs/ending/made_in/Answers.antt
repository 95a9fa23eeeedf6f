use Rattle.std.proofs.Common.{◌+◌, drop, ap, arith}
use Rattle.std.proofs.lemmas.List.{drop_all}
use Rattle.std.specs.Prelude.{sum_by}
use Rattle.chain_defs.proofs.WalkLemmas.{drop-there}
use Rattle.tx_rules.proofs.MoneyLemmas.{sum-more, sum-end}
use Rattle.rule_defs.specs.Field.{made_by}
use Rattle.block_judge.proofs.ending.made_in.Goals as goal

pub transactions-preserved : goal.transactions-preserved
transactions-preserved c =
    let fits = c.made_by-made.ensures.fits in (
      sum-more made_by (drop c.transactions.i c.args.block.now.transactions) (drop (c.transactions.i + 1) c.args.block.now.transactions) c.transactions_item.result
          c.transactions.made (c.transactions.made + c.made_by-made.result) (sum_by made_by c.args.block.now.transactions)
          (drop-there c.args.block.now.transactions c.transactions.i c.transactions_item.result c.transactions_item.ensures) c.transactions.invariant.0
          (ap (λ n. c.transactions.made + n) c.made_by-made.ensures.made),
      omega (arith, fits, c.transactions.invariant.1),
    )

pub returns : goal.returns
returns c =
    let past = c.transactions-test.false in
    let count = c.transactions_count-i-end.ensures.value in
    sum-end made_by (drop c.transactions.i c.args.block.now.transactions) c.transactions.made (sum_by made_by c.args.block.now.transactions)
    (drop_all c.transactions.i c.args.block.now.transactions (omega (arith, past, count))) c.transactions.invariant.0
