use Rattle.std.proofs.Common.{◌≡◌, None, replicate}
use Rattle.tx_rules.proofs.copying.none_taken.Given as goal

abbrev pub invariant-rows : goal.invariant-rows
invariant-rows l = l.taken.items ≡ replicate l.counter None
