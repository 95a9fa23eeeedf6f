use Rattle.std.proofs.Common.{◌≡◌, ◌+◌, ◌*◌, ◌≤◌, ◌^◌, ◌-◌, drop}
use Rattle.std.specs.Prelude.{sum_by}
use Rattle.std.specs.List.{enumerate_from}
use Rattle.rule_defs.specs.Field.{occupied_output, made_by}
use Rattle.supply.proofs.outputs.made_by.Given as goal

-- with what is left it is all that the outputs occupy
abbrev pub invariant-outputs : goal.invariant-outputs
invariant-outputs l =
    (l.made + sum_by (occupied_output l.tx) (enumerate_from l.i (drop l.i l.tx.raw.outputs)) ≡ made_by l.tx) × (l.made ≤ l.i * (2 ^ 64 - 1))
