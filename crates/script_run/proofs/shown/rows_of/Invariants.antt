use Rattle.std.proofs.Common.{◌≡◌, map, take}
use Rattle.std.specs.List.{enumerate_from}
use Rattle.script_run.specs.Shown.{output_row}
use Rattle.script_run.proofs.shown.rows_of.Given as goal

abbrev pub invariant-outputs : goal.invariant-outputs
invariant-outputs l = l.rows.items ≡ map (output_row l.tx) (enumerate_from 0 (take l.i l.tx.raw.outputs))
