use Rattle.std.proofs.Common.{length, sym, ap, ◌∙◌, arith}
use Rattle.chain_defs.specs.Row.{Row}
use Rattle.chain_tree.specs.Entries.{entry_at}
use Rattle.tx_rules.specs.At.{AtValue}
use Rattle.tx_rules.proofs.AgeLemmas.{made-past, block-start-kept, block-start-own}
use Rattle.tx_rules.proofs.age.block_start.Goals as goal

pub returns-then-meta-kept-clause-start : goal.returns-then-meta-kept-clause-start
returns-then-meta-kept-clause-start c stored rows site found is its =
    c.timestamp.ensures ∙ block-start-own stored c.args.at.now rows site found c.args.meta.now c.requires.placed is its
    (sym (ap (λ (row : Row). row.block) c.meta.view_is) ∙ c.if-meta-kept.true ∙ c.len-kept.ensures.len ∙ ap (λ (at : AtValue). length at.entries) c.at.view_is)

pub returns-then-meta-kept-2-clause-undamaged : goal.returns-then-meta-kept-2-clause-undamaged
returns-then-meta-kept-2-clause-undamaged c stored rows site found is its damage broken =
    let block = ap (λ (row : Row). row.block) c.meta.view_is in
    let long = ap (λ (at : AtValue). length at.entries) c.at.view_is in
    made-past stored c.args.at.now rows site found c.args.meta.now c.requires.placed is its (omega (arith, block, long))

pub returns-clause-start : goal.returns-clause-start
returns-clause-start c stored rows site found is its =
    block-start-kept stored c.args.at.now rows site found c.args.meta.now c.entry.result.now c.requires.placed is its
    (ap (λ (row : Row). entry_at c.args.at.now.entries row.block) (sym c.meta.view_is)
    ∙ ap (λ (at : AtValue). entry_at at.entries c.meta.inside.block) (sym c.at.view_is) ∙ c.entry.ensures.entry)
