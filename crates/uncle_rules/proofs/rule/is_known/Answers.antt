use Rattle.std.proofs.Common.{take, sym, ◌∙◌}
use Rattle.uncle_rules.proofs.KnownLemmas.{known-first, known-second, known-third}
use Rattle.uncle_rules.proofs.rule.is_known.Goals as goal

pub returns-then-is_ancestor : goal.returns-then-is_ancestor
returns-then-is_ancestor c kept indexes are =
    known-first c.args.hash.now c.args.number kept c.args.parent (take c.args.earlier c.args.block.now.uncles)
    (sym (c.is_ancestor.ensures kept indexes) ∙ c.if-is_ancestor.true)

pub returns-then-embeds : goal.returns-then-embeds
returns-then-embeds c kept indexes are =
    known-second c.args.hash.now c.args.number kept c.args.parent c.args.uncles.now (take c.args.earlier c.args.block.now.uncles) are
    (sym (c.embeds.ensures kept indexes) ∙ c.if-embeds.true)

pub returns : goal.returns
returns c kept indexes are =
    c.is_earlier.ensures
    ∙ known-third c.args.hash.now c.args.number kept c.args.parent c.args.uncles.now (take c.args.earlier c.args.block.now.uncles) are
    (sym (c.is_ancestor.ensures kept indexes) ∙ c.if-is_ancestor.false) (sym (c.embeds.ensures kept indexes) ∙ c.if-embeds.false)
