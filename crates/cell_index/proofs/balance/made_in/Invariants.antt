use Rattle.std.proofs.Common.{◌≡◌, ◌≤◌, ◌+◌, ◌*◌, ◌^◌, drop}
use Rattle.std.specs.List.{sum_by}
use Rattle.cell_index.specs.Balance.{counts_for, holds_for}
use Rattle.cell_index.proofs.balance.made_in.Given as goal

abbrev pub invariant-transactions : goal.invariant-transactions
invariant-transactions l = record {
  count : l.count + sum_by (λ t. sum_by (counts_for l.fn.lock) t.raw.outputs) (drop l.place l.fn.block.transactions)
      ≡ sum_by (λ t. sum_by (counts_for l.fn.lock) t.raw.outputs) l.fn.block.transactions;
  capacity : l.capacity + sum_by (λ t. sum_by (holds_for l.fn.lock) t.raw.outputs) (drop l.place l.fn.block.transactions)
      ≡ sum_by (λ t. sum_by (holds_for l.fn.lock) t.raw.outputs) l.fn.block.transactions;
  few : l.count ≤ l.place * 2 ^ 30;
  most : l.capacity ≤ l.place * 2 ^ 94;
}
