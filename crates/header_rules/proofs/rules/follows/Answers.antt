use Rattle.std.proofs.Common.{◌∙◌, ◌^◌, ap}
use Rattle.chain_defs.specs.Schema.{Header}
use Rattle.chain_defs.specs.Kept.{block_at}
use Rattle.header_rules.proofs.HeaderLemmas.{follows-there, number-there}
use Rattle.header_rules.proofs.rules.follows.Goals as goal

pub returns : goal.returns
returns c = record {
  of_blocks = λ kept b indexes same.
      c.eq.ensures
      ∙ follows-there kept c.args.parent c.entry.result.now.number c.number.result (2 ^ 64) b c.checked_add.result
      (c.number.ensures ∙ ap (λ (h : Header). h.number) same) c.number.type_inv c.checked_add.ensures
      (number-there (block_at kept c.args.parent) c.entry.result.now (c.entry.ensures.of_block kept indexes));
}
