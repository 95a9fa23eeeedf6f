use Rattle.std.proofs.Common.{◌≡◌, drop}
use Rattle.std.specs.List.{list_all}
use Rattle.block_judge.proofs.CellbaseLemmas.{is_empty}
use Rattle.block_judge.proofs.cellbase.has_no_data.Given as goal

abbrev pub invariant-data : goal.invariant-data
invariant-data l = list_all is_empty l.raw.outputs_data ≡ list_all is_empty (drop l.i l.raw.outputs_data)
