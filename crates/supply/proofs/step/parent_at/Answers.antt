use Rattle.std.proofs.Common.{◌≡◌, Some, sym, subst, ◌∙◌, arith}
use Rattle.std.proofs.lemmas.Option.{same_Some}
use Rattle.chain_tree.specs.declared.entry.Entry.{Entry}
use Rattle.chain_tree.specs.Entries.{entry_at}
use Rattle.supply.proofs.KeptLemmas.{parent-earlier, parent-next}
use Rattle.supply.proofs.step.parent_at.Goals as goal

pub returns-clause-within : goal.returns-clause-within
returns-clause-within c =
    let earlier = parent-earlier c.args.tree.now.entries c.args.place c.entry.result.now c.len.ensures.tree c.requires.later c.entry.ensures.entry in
    omega (arith, earlier, c.requires.within)

pub returns-clause-next : goal.returns-clause-next
returns-clause-next c child parent here there =
    let same : child ≡ c.entry.result.now = same_Some child c.entry.result.now (sym here ∙ c.entry.ensures.entry) in
    parent-next c.args.tree.now.entries c.args.place child parent c.len.ensures.tree c.requires.later here
    (subst (λ (entry : Entry). entry_at c.args.tree.now.entries entry.parent ≡ Some parent) (sym same) there)
