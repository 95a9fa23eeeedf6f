use Rattle.std.proofs.Common.{◌≡◌, ◌-◌, ◌*◌, length, take}
use Rattle.std.specs.Prelude.{sum_by}
use Rattle.chain_defs.specs.Shape.{encoded}
use Rattle.chain_defs.specs.Schema.{block}
use Rattle.block_rules.proofs.rules.counted_length.Given as goal

abbrev pub invariant-uncles : goal.invariant-uncles
invariant-uncles l = l.counted ≡ length (encoded block l.block) - 10 * sum_by (λ uncle. length uncle.proposals) (take l.i l.block.uncles)
