use Rattle.std.proofs.Common.{length, sym, ap, ◌∙◌, subst, arith}
use Rattle.chain_defs.specs.Row.{Row}
use Rattle.chain_tree.specs.Entries.{entry_at}
use Rattle.chain_tree.specs.Blocks.{IndexesBlocks}
use Rattle.chain_tree.specs.Told.{blocks_of}
use Rattle.chain_tree.proofs.TimestampLemmas.{parent-within}
use Rattle.tx_rules.specs.At.{AtValue}
use Rattle.tx_rules.proofs.AgeLemmas.{made-past, start-first, start-later, start-own}
use Rattle.tx_rules.proofs.age.median_start.Goals as goal

pub returns-then-meta-kept-clause-start : goal.returns-then-meta-kept-clause-start
returns-then-meta-kept-clause-start c stored rows site found is median its =
    median ∙ start-own stored c.args.at.now rows site found c.args.meta.now c.requires.placed is its
    (sym (ap (λ (row : Row). row.block) c.meta.view_is) ∙ c.if-meta-kept.true ∙ c.len-kept.ensures.len ∙ ap (λ (at : AtValue). length at.entries) c.at.view_is)

pub returns-then-meta-kept-2-clause-undamaged : goal.returns-then-meta-kept-2-clause-undamaged
returns-then-meta-kept-2-clause-undamaged c stored rows site found is median its damage broken =
    let block = ap (λ (row : Row). row.block) c.meta.view_is in
    let long = ap (λ (at : AtValue). length at.entries) c.at.view_is in
    made-past stored c.args.at.now rows site found c.args.meta.now c.requires.placed is its (omega (arith, block, long))

pub median-requires : goal.median-requires
median-requires c =
    parent-within c.at.inside.tree.now.entries c.meta.inside.block c.entry-entry.result.now c.len-kept.ensures.tree c.entry-entry.ensures.entry (omega arith)

pub returns-then-meta-eq0-clause-start : goal.returns-then-meta-eq0-clause-start
returns-then-meta-eq0-clause-start c stored rows site found is median its =
    start-first stored c.args.at.now rows site found c.args.meta.now c.entry-entry.result.now c.requires.placed is its
    (ap (λ (row : Row). entry_at c.args.at.now.entries row.block) (sym c.meta.view_is)
    ∙ ap (λ (at : AtValue). entry_at at.entries c.meta.inside.block) (sym c.at.view_is) ∙ c.entry-entry.ensures.entry)
    (sym (ap (λ (row : Row). row.block) c.meta.view_is) ∙ c.if-meta-eq0.true)

pub returns-else-meta-eq0-clause-start : goal.returns-else-meta-eq0-clause-start
returns-else-meta-eq0-clause-start c stored rows site found is median its =
    let block = ap (λ (row : Row). row.block) c.meta.view_is in
    c.median.ensures.of_blocks (blocks_of stored) (subst (λ (at : AtValue). IndexesBlocks (blocks_of stored) at.entries) (sym c.at.view_is) is.indexed)
    ∙ start-later stored c.args.at.now rows site found c.args.meta.now c.entry-entry.result.now c.requires.placed is its
    (ap (λ (row : Row). entry_at c.args.at.now.entries row.block) (sym c.meta.view_is)
    ∙ ap (λ (at : AtValue). entry_at at.entries c.meta.inside.block) (sym c.at.view_is) ∙ c.entry-entry.ensures.entry)
    (omega (arith, block))
