use Rattle.std.proofs.Common.{◌≡◌, ◌++◌, drop}
use Rattle.std.specs.List.{filter}
use Rattle.run_query.specs.Queries.{is_of}
use Rattle.run_query.proofs.list.of_lock.Given as goal

abbrev pub invariant-rows : goal.invariant-rows
invariant-rows l = record {
  told : l.cells.items ++ filter (is_of l.fn.lock) (drop l.listed-index l.fn.rows) ≡ filter (is_of l.fn.lock) l.fn.rows;
}
