use Rattle.std.proofs.Common.{◌≡◌, ℕ, List, length, Option, Some, None, string_bytes, ap, sym, ◌∙◌, subst, arith}
use Rattle.std.specs.Prelude.{IfOk}
use Rattle.chain_defs.specs.Kept.{place_of}
use Rattle.chain_tree.specs.declared.entry.Entry.{Entry}
use Rattle.ask_defs.specs.Answers.{branch_of_place}
use Rattle.run_ask.proofs.CommitLemmas.{branch-line-is}
use Rattle.run_ask.proofs.answers.branch.Goals as goal

pub returns-in_default-clause-text : goal.returns-in_default-clause-text
returns-in_default-clause-text c =
    let kept = c.args.node.now.chain.blocks in
    let none : place_of kept c.args.hash.now ≡ None = sym (c.find.ensures.of_blocks kept c.tree-tree.ensures.indexed) ∙ c.in_default.is in
    c.line_or_stop.ensures.text (branch_of_place kept (place_of kept c.args.hash.now))
    (subst (λ (found : Option ℕ). IfOk c.none_line.result (λ text. string_bytes text ≡ branch_of_place kept found)) (sym none) c.none_line.ensures)

pub is_on_best-best-requires : goal.is_on_best-best-requires
is_on_best-best-requires c = omega (arith, c.in-Some.ensures.within, ap (λ (es : List Entry). length es) c.tree-tree.ensures.entries)

pub returns-clause-text : goal.returns-clause-text
returns-clause-text c =
    let kept = c.args.node.now.chain.blocks in
    let indexed = c.tree-tree.ensures.indexed in
    let named : place_of kept c.args.hash.now ≡ Some c.in-Some.place = sym (c.find.ensures.of_blocks kept indexed) ∙ c.in-Some.is in
    c.line_or_stop-2.ensures.text (branch_of_place kept (place_of kept c.args.hash.now))
    (subst (λ (line : List ℕ). IfOk c.branch_line.result (λ text. string_bytes text ≡ line))
    (branch-line-is kept c.args.hash.now c.in-Some.place c.is_on_best-best.result c.entry.result.now named c.is_on_best-best.ensures (c.entry.ensures.of_block kept indexed))
    c.branch_line.ensures)
