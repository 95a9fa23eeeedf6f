use Rattle.std.proofs.Common.{◌≡◌, Some, map, take}
use Rattle.rule_defs.specs.Site.{all_there}
use Rattle.tx_rules.specs.At.{find_row}
use Rattle.tx_rules.proofs.inputs.live_inputs.Given as goal

-- the rows of the inputs before the i-th
abbrev pub invariant-inputs : goal.invariant-inputs
invariant-inputs g l = Some l.found.items ≡ all_there (map (λ input. find_row (g.C.Cells.rows l.cells) input.previous_output) (take l.i l.raw.inputs))
