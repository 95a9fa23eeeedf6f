use Rattle.std.proofs.Common.{◌≡◌, ℕ, length, ap, ◌∙◌, arith}
use Rattle.std.specs.List.{sum_by}
use Rattle.chain_defs.specs.Schema.{Transaction}
use Rattle.cell_index.specs.Balance.{counts_for, holds_for}
use Rattle.cell_index.proofs.EntryLemmas.{pair-of}
use Rattle.cell_index.proofs.OutputSums.{next-sum, over-sum}
use Rattle.cell_index.proofs.balance.made_in.Goals as goal

pub transactions-preserved : goal.transactions-preserved
transactions-preserved c =
    let transactions = c.args.block.now.transactions in
    let lock = c.args.lock.now in
    let t = c.transactions_item-tx.result in
    let count = next-sum (λ (x : Transaction). sum_by (counts_for lock) x.raw.outputs) transactions c.transactions.place t c.transactions_item-tx.ensures in
    let capacity = next-sum (λ (x : Transaction). sum_by (holds_for lock) x.raw.outputs) transactions c.transactions.place t c.transactions_item-tx.ensures in
    let own_count : c.made_by-made.result.0 ≡ sum_by (counts_for lock) t.raw.outputs = ap (λ (s : ℕ × ℕ). s.0) c.made_by-made.ensures.sum in
    let own_capacity : c.made_by-made.result.1 ≡ sum_by (holds_for lock) t.raw.outputs = ap (λ (s : ℕ × ℕ). s.1) c.made_by-made.ensures.sum in
    record {
      count = let before = c.transactions.invariant.count in omega (arith, before, own_count, count);
      capacity = let before = c.transactions.invariant.capacity in omega (arith, before, own_capacity, capacity);
      few = let before = c.transactions.invariant.few in let one = c.made_by-made.ensures.few in omega (arith, before, one);
      most = let before = c.transactions.invariant.most in let one = c.made_by-made.ensures.most in omega (arith, before, one);
    }

pub returns : goal.returns
returns c =
    let transactions = c.args.block.now.transactions in
    let lock = c.args.lock.now in
    let past = c.transactions-test.false in
    let many = c.transactions_count-place-end.ensures.value in
    let no_count = over-sum (λ (x : Transaction). sum_by (counts_for lock) x.raw.outputs) transactions c.transactions.place (omega (arith, past, many)) in
    let no_capacity = over-sum (λ (x : Transaction). sum_by (holds_for lock) x.raw.outputs) transactions c.transactions.place (omega (arith, past, many)) in
    let count = c.transactions.invariant.count in
    let capacity = c.transactions.invariant.capacity in
    pair-of c.transactions.count c.transactions.capacity _ _ (omega (arith, count, no_count)) (omega (arith, capacity, no_capacity))
