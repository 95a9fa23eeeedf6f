use Rattle.std.proofs.Common.{ℕ, ap, ◌∙◌, arith}
use Rattle.chain_defs.specs.Schema.{Header}
use Rattle.rule_defs.specs.Cellbase.{is_well_formed_cellbase}
use Rattle.block_judge.proofs.CellbaseLemmas.{no-first, first-formed}
use Rattle.block_judge.proofs.cellbase.forms_cellbase.Goals as goal

pub returns-then-transactions_count-eq0 : goal.returns-then-transactions_count-eq0
returns-then-transactions_count-eq0 g c live same =
    no-first live c.args.block.now (omega (arith, c.transactions_count.ensures.value, c.if-transactions_count-eq0.true))

pub returns : goal.returns
returns g c live same =
    c.is_well_formed.ensures live same
    ∙ ap (λ (number : ℕ). is_well_formed_cellbase live number c.transactions_item-cellbase.result) (c.number.ensures ∙ ap (λ (h : Header). h.number) c.header.ensures)
    ∙ first-formed live c.args.block.now c.transactions_item-cellbase.result c.transactions_item-cellbase.ensures
