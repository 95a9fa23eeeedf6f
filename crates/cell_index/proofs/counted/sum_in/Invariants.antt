use Rattle.std.proofs.Common.{◌≡◌, ◌≤◌, ◌+◌, ◌*◌, ◌^◌, drop}
use Rattle.std.specs.List.{sum_by}
use Rattle.cell_index.specs.Balance.{is_of}
use Rattle.cell_index.proofs.OfLockLemmas.{part, one_each}
use Rattle.cell_index.proofs.counted.sum_in.Given as goal

abbrev pub invariant-rows : goal.invariant-rows
invariant-rows l = record {
  count : l.count + sum_by (part (is_of l.fn.lock) one_each) (drop l.listed-index l.fn.rows) ≡ sum_by (part (is_of l.fn.lock) one_each) l.fn.rows;
  capacity : l.capacity + sum_by (part (is_of l.fn.lock) (λ one. one.1.capacity)) (drop l.listed-index l.fn.rows)
      ≡ sum_by (part (is_of l.fn.lock) (λ one. one.1.capacity)) l.fn.rows;
  few : l.count ≤ l.listed-index;
  most : l.capacity ≤ l.listed-index * 2 ^ 64;
}
