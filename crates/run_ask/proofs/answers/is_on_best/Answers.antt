use Rattle.std.proofs.Common.{◌≡◌, ℕ, List, [], Some, None, Option, ap, sym, ◌∙◌, arith}
use Rattle.chain_defs.specs.Schema.{Block}
use Rattle.chain_defs.specs.Branch.{branch_places}
use Rattle.chain_defs.specs.Tip.{tip_place}
use Rattle.uncle_rules.specs.Known.{is_on}
use Rattle.uncle_rules.proofs.BranchLemmas.{not-below, is-ancestor}
use Rattle.ask_defs.specs.Answers as answers
use Rattle.run_ask.proofs.answers.is_on_best.Goals as goal

abbrev places_at : List Block → Option ℕ → List ℕ
places_at kept None = []
places_at kept (Some tip) = branch_places kept tip

-- the best branch is that of the tip
of-tip : (kept : List Block) (tip place : ℕ) → tip_place kept ≡ Some tip → is_on (branch_places kept tip) place ≡ answers.is_on_best kept place
of-tip kept tip place is = ap (λ (found : Option ℕ). is_on (places_at kept found) place) (sym is)

pub returns-then-entry-number : goal.returns-then-entry-number
returns-then-entry-number c =
    let kept = c.args.node.now.chain.blocks in
    let indexed = c.tree-tree.ensures.indexed in
    not-below kept c.tree-tree.result.now.entries c.tip-tip.result c.args.place c.entry-2.result.now c.entry.result.now indexed c.entry-2.ensures.entry c.entry.ensures.entry
    (omega (arith, c.if-entry-number.true)) ∙ of-tip kept c.tip-tip.result c.args.place (c.tip-tip.ensures.of_blocks kept indexed)

pub returns : goal.returns
returns c =
    let kept = c.args.node.now.chain.blocks in
    let indexed = c.tree-tree.ensures.indexed in
    is-ancestor kept c.tree-tree.result.now.entries c.tip-tip.result c.args.place c.ancestor.result c.entry.result.now indexed c.tip-tip.ensures.within c.entry.ensures.entry
    (c.ancestor.ensures.of_blocks kept indexed) ∙ of-tip kept c.tip-tip.result c.args.place (c.tip-tip.ensures.of_blocks kept indexed)
