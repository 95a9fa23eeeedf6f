use Rattle.std.proofs.Common.{◌≡◌, ◌+◌, ◌*◌, ◌≤◌, ◌^◌, ◌-◌, drop}
use Rattle.std.specs.Prelude.{sum_by}
use Rattle.rule_defs.specs.Field.{made_by}
use Rattle.block_judge.proofs.ending.made_in.Given as goal

-- with what is left it is all that the transactions make
abbrev pub invariant-transactions : goal.invariant-transactions
invariant-transactions l =
    (l.made + sum_by made_by (drop l.i l.block.transactions) ≡ sum_by made_by l.block.transactions) × (l.made ≤ l.i * (2 ^ 94 - 1))
