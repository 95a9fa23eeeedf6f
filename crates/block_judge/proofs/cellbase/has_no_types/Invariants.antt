use Rattle.std.proofs.Common.{◌≡◌, drop}
use Rattle.std.specs.List.{list_all}
use Rattle.block_judge.proofs.CellbaseLemmas.{is_untyped}
use Rattle.block_judge.proofs.cellbase.has_no_types.Given as goal

abbrev pub invariant-outputs : goal.invariant-outputs
invariant-outputs l = list_all is_untyped l.raw.outputs ≡ list_all is_untyped (drop l.i l.raw.outputs)
