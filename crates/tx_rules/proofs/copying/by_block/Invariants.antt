use Rattle.std.proofs.Common.{◌<◌, length}
use Rattle.std.specs.List.{All}
use Rattle.tx_rules.proofs.copying.by_block.Given as goal

abbrev pub invariant-rows : goal.invariant-rows
invariant-rows l = All (λ it. it.1 < length l.rows) l.order.items
