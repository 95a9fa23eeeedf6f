use Rattle.std.proofs.Common.{◌≡◌, ◌++◌, map, drop}
use Rattle.std.specs.List.{concat}
use Rattle.report_defs.specs.Queries.{line_of_listed}
use Rattle.run_query.proofs.list.push_cells.Given as goal

abbrev pub invariant-cells : goal.invariant-cells
invariant-cells l = record {
  told : l.text.items ++ concat (map line_of_listed (drop l.listed-index l.fn.cells)) ≡ l.fn.text.items ++ concat (map line_of_listed l.fn.cells);
}
