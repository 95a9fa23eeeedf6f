use Rattle.std.proofs.Common.{◌≡◌, ◌≤◌, ◌+◌, ◌*◌, ◌^◌, drop, length}
use Rattle.std.specs.List.{sum_by}
use Rattle.cell_index.specs.Balance.{inputs_of}
use Rattle.cell_index.proofs.balance.inputs_in.Given as goal

abbrev pub invariant-transactions : goal.invariant-transactions
invariant-transactions l = record {
  count : l.count + sum_by (λ t. length t.raw.inputs) (drop l.place l.fn.block.transactions) ≡ inputs_of l.fn.block;
  most : l.count ≤ l.place * 2 ^ 32;
}
