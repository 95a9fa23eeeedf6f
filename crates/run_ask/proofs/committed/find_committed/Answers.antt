use Rattle.std.proofs.Common.{ℕ, sym, ap, ◌∙◌, subst, arith}
use Rattle.std.specs.Prelude.{slice_get}
use Rattle.chain_defs.specs.Branch.{branch_places}
use Rattle.chain_defs.specs.Tip.{best_branch}
use Rattle.transaction_index.specs.Rows.{first_row}
use Rattle.run_ask.specs.Finding.{IsFoundIn}
use Rattle.run_ask.proofs.IndexLemmas.{row-none, row-some, found-in, none-above-tip}
use Rattle.run_ask.proofs.committed.find_committed.Goals as goal

pub returns-in-None : goal.returns-in-None
returns-in-None c = λ indexes.
    row-none (best_branch c.args.node.now.chain.blocks) c.args.hash.now (first_row c.args.index.now c.args.hash.now) (indexes c.args.hash.now) (sym c.find.ensures ∙ c.in-None.is)

pub returns-then-entry-number : goal.returns-then-entry-number
returns-then-entry-number c = λ indexes.
    let kept = c.args.node.now.chain.blocks in
    let indexed = c.tree-tree.ensures.indexed in
    let in_block = row-some (best_branch kept) c.args.hash.now (first_row c.args.index.now c.args.hash.now) c.in-Some.row (indexes c.args.hash.now) (sym c.find.ensures ∙ c.in-Some.is) in
    absurd (none-above-tip kept c.tree-tree.result.now.entries c.tip-tip.result c.args.hash.now c.in-Some.row c.entry.result.now indexed c.tip-tip.ensures.within
    (c.tip-tip.ensures.of_blocks kept indexed) c.entry.ensures.entry (omega (arith, c.if-entry-number.true, c.from-number.ensures)) in_block)

pub returns : goal.returns
returns c = λ indexes.
    let kept = c.args.node.now.chain.blocks in
    let indexed = c.tree-tree.ensures.indexed in
    let in_block = row-some (best_branch kept) c.args.hash.now (first_row c.args.index.now c.args.hash.now) c.in-Some.row (indexes c.args.hash.now) (sym c.find.ensures ∙ c.in-Some.is) in
    subst (λ (n : ℕ). IsFoundIn kept c.args.hash.now (record { number = n; hash = c.entry-entry.result.now.hash; place = c.in-Some.row.place })) (sym c.from-number.ensures)
    (found-in kept c.tree-tree.result.now.entries c.tip-tip.result c.args.hash.now c.in-Some.row c.ancestor.result c.entry-entry.result.now indexed c.tip-tip.ensures.within
    (c.tip-tip.ensures.of_blocks kept indexed) (ap (λ (n : ℕ). slice_get (branch_places kept c.tip-tip.result) n) (sym c.from-number.ensures) ∙ c.ancestor.ensures.of_blocks kept indexed) (c.entry-entry.ensures.of_block kept indexed) in_block)
