use Rattle.std.proofs.Common.{◌≡◌, ◌≤◌, ◌+◌, ◌*◌, ◌^◌, drop}
use Rattle.chain_defs.specs.ByLock.{capacity_of}
use Rattle.run_query.proofs.list.held_by.Given as goal

abbrev pub invariant-cells : goal.invariant-cells
invariant-cells l = record {
  told : l.held + capacity_of (drop l.listed-index l.fn.cells) ≡ capacity_of l.fn.cells;
  most : l.held ≤ l.listed-index * 2 ^ 64;
}
