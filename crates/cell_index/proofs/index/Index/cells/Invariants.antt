use Rattle.std.proofs.Common.{◌≡◌, map}
use Rattle.std.specs.Map.Iter.{deref_pair}
use Rattle.cell_index.proofs.ListedLemmas.{row_by}
use Rattle.cell_index.proofs.index.Index.cells.Given as goal

abbrev pub invariant-cells : goal.invariant-cells
invariant-cells l = l.list.items ≡ map row_by (map deref_pair l.yielded)
