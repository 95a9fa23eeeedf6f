use Rattle.std.proofs.Common.{◌≡◌, ◌≤◌, ◌+◌, ◌*◌, ◌^◌, drop, length}
use Rattle.std.specs.List.{sum_by}
use Rattle.cell_index.specs.Balance.{counts_for, holds_for}
use Rattle.cell_index.proofs.balance.made_by.Given as goal

abbrev pub invariant-outputs : goal.invariant-outputs
invariant-outputs l = record {
  count : l.count + sum_by (counts_for l.fn.lock) (drop l.i l.fn.tx.raw.outputs) ≡ sum_by (counts_for l.fn.lock) l.fn.tx.raw.outputs;
  capacity : l.capacity + sum_by (holds_for l.fn.lock) (drop l.i l.fn.tx.raw.outputs) ≡ sum_by (holds_for l.fn.lock) l.fn.tx.raw.outputs;
  few : l.count ≤ l.i;
  most : l.capacity ≤ l.i * 2 ^ 64;
  within : l.i ≤ length l.fn.tx.raw.outputs;
}
