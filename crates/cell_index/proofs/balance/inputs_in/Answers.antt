use Rattle.std.proofs.Common.{◌≡◌, length, ap, ◌∙◌, arith}
use Rattle.chain_defs.specs.Schema.{RawTransaction, Transaction}
use Rattle.cell_index.proofs.OutputSums.{next-sum, over-sum}
use Rattle.cell_index.proofs.balance.inputs_in.Goals as goal

pub transactions-preserved : goal.transactions-preserved
transactions-preserved c =
    let transactions = c.args.block.now.transactions in
    let t = c.transactions_item.result in
    let next = next-sum (λ (x : Transaction). length x.raw.inputs) transactions c.transactions.place t c.transactions_item.ensures in
    let own : c.inputs_count.result ≡ length t.raw.inputs = c.inputs_count.ensures.value ∙ ap (λ (raw : RawTransaction). length raw.inputs) c.raw.ensures in
    let fits = c.inputs_count.ensures.fits in
    record {
      count = let before = c.transactions.invariant.count in omega (arith, before, next, own);
      most = let before = c.transactions.invariant.most in omega (arith, before, fits);
    }

pub returns : goal.returns
returns c =
    let transactions = c.args.block.now.transactions in
    let past = c.transactions-test.false in
    let many = c.transactions_count-place-end.ensures.value in
    let none = over-sum (λ (x : Transaction). length x.raw.inputs) transactions c.transactions.place (omega (arith, past, many)) in
    let count = c.transactions.invariant.count in
    omega (arith, count, none)
