use Rattle.std.proofs.Common.{◌≡◌, map, take}
use Rattle.chain_defs.specs.Shape.{encoded}
use Rattle.chain_defs.specs.Schema.{out_point}
use Rattle.tx_rules.proofs.inputs.spent_by.Given as goal

-- those before the i-th
abbrev pub invariant-inputs : goal.invariant-inputs
invariant-inputs l = l.spent.items ≡ take l.i (map (λ input. encoded out_point input.previous_output) l.tx.raw.inputs)
