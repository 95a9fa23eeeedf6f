use Rattle.std.proofs.Common.{◌≡◌, ◌++◌, nat_lt, map, take}
use Rattle.std.specs.List.{filter}
use Rattle.tx_rules.specs.Copying.{row_in}
use Rattle.block_judge.proofs.spent.push_spent.Given as goal

-- the rows of the inputs before the index
abbrev pub invariant-inputs : goal.invariant-inputs
invariant-inputs l = l.spent.items ≡ l.initial.spent.items ++ filter (λ it. nat_lt it.1.block l.e) (map row_in (take l.input-index l.inputs))
