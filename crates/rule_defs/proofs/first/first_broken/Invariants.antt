use Rattle.std.proofs.Common.{◌≡◌, map, drop}
use Rattle.chain_defs.specs.First.{first_failing}
use Rattle.rule_defs.specs.RuleNumber.{numbered_row}
use Rattle.rule_defs.proofs.first.first_broken.Given as goal

-- those so far are kept
abbrev pub invariant-rows : goal.invariant-rows
invariant-rows l = first_failing (map numbered_row l.rows) ≡ first_failing (map numbered_row (drop l.i l.rows))
