use Rattle.std.proofs.Common.{sym, ap, ◌∙◌}
use Rattle.std.specs.Prelude.{◌&&◌, Bool}
use Rattle.chain_defs.specs.Branch.{branch_places}
use Rattle.uncle_rules.specs.Known.{is_on}
use Rattle.uncle_rules.proofs.KnownLemmas.{ancestor-none, ancestor-some}
use Rattle.uncle_rules.proofs.rule.is_ancestor.Goals as goal

pub returns-in-None : goal.returns-in-None
returns-in-None c kept indexes =
    ancestor-none c.args.hash.now c.args.number kept c.args.parent (sym (c.find.ensures.of_blocks kept indexes) ∙ c.in-None.is)

pub returns-then-has_number : goal.returns-then-has_number
returns-then-has_number c kept indexes =
    c.is_on_branch.ensures kept indexes
    ∙ ap (λ (b : Bool). b && is_on (branch_places kept c.args.parent) c.in-Some.place) (sym (sym c.has_number.ensures ∙ c.if-has_number.true))
    ∙ ancestor-some c.args.hash.now c.args.number kept c.args.tree.now.entries c.args.parent c.in-Some.place c.entry.result.now indexes
    (sym (c.find.ensures.of_blocks kept indexes) ∙ c.in-Some.is) (c.entry.ensures.of_block kept indexes)

pub returns-else-has_number : goal.returns-else-has_number
returns-else-has_number c kept indexes =
    c.if-has_number.false
    ∙ ap (λ (b : Bool). b && is_on (branch_places kept c.args.parent) c.in-Some.place) (sym (sym c.has_number.ensures ∙ c.if-has_number.false))
    ∙ ancestor-some c.args.hash.now c.args.number kept c.args.tree.now.entries c.args.parent c.in-Some.place c.entry.result.now indexes
    (sym (c.find.ensures.of_blocks kept indexes) ∙ c.in-Some.is) (c.entry.ensures.of_block kept indexes)
