use Rattle.std.proofs.Common.{length, arith, rules}
use Rattle.chain_defs.specs.Shape.{encoded}
use Rattle.chain_defs.specs.Schema.{UncleBlock, block}
use Rattle.block_rules.proofs.ListLemmas.{less-more}
use Rattle.block_rules.proofs.rules.counted_length.Goals as goal

pub uncles-preserved : goal.uncles-preserved
uncles-preserved c =
    let b = c.args.block.now in
    let more = less-more (λ (uncle : UncleBlock). length uncle.proposals) (length (encoded block b)) b.uncles c.uncles.i c.uncles_item.result c.uncles_item.ensures in
    omega (arith, more, c.uncles.invariant, c.saturating_sub-counted.ensures, c.proposals_count.ensures.value)

pub uncles-init : goal.uncles-init
uncles-init c = search rules
