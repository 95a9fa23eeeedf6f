use Rattle.std.proofs.Common.{sym, ◌∙◌, rules, Some}
use Rattle.node_store.proofs.StoredLemmas.{parts-lie, later-parts}
use Rattle.node_store.proofs.body.block_range.Goals as goal

pub returns-clause-parts : goal.returns-clause-parts
returns-clause-parts c =
    let is = sym c.in_ok-item.ensures.parts in
    let lie = parts-lie c.args.body.now c.in_ok-item.item.now c.in_ok-item.ext.now is in
    (λ i. Some (sym lie.block i, sym lie.rest i))
    ∙ sym (later-parts c.args.place c.args.body.now c.in_ok-item.item.now c.in_ok-item.ext.now (search rules) is (sym c.if-not-ext_form.ensures))

pub returns-clause-within : goal.returns-clause-within
returns-clause-within c = (parts-lie c.args.body.now c.in_ok-item.item.now c.in_ok-item.ext.now (sym c.in_ok-item.ensures.parts)).fits
