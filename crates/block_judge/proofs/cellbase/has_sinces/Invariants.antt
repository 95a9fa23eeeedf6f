use Rattle.std.proofs.Common.{◌≡◌, drop}
use Rattle.std.specs.List.{list_all}
use Rattle.rule_defs.specs.Cellbase.{has_since}
use Rattle.block_judge.proofs.cellbase.has_sinces.Given as goal

abbrev pub invariant-inputs : goal.invariant-inputs
invariant-inputs l = list_all (has_since l.number) l.raw.inputs ≡ list_all (has_since l.number) (drop l.i l.raw.inputs)
