use Rattle.std.proofs.Common.{sym, ◌∙◌}
use Rattle.rule_defs.specs.Cellbase.{is_cellbase}
use Rattle.block_judge.proofs.CellbaseLemmas.{any-here, any-after_cellbase}
use Rattle.block_judge.proofs.cellbase.has_later_cellbase.Goals as goal

pub returns-then-is_cellbase : goal.returns-then-is_cellbase
returns-then-is_cellbase c =
    sym (c.later.invariant
    ∙ any-here is_cellbase c.args.block.now.transactions c.later.i c.transactions_item.result c.transactions_item.ensures (sym c.is_cellbase.ensures ∙ c.if-is_cellbase.true))

pub later-preserved : goal.later-preserved
later-preserved c =
    c.later.invariant
    ∙ any-after_cellbase is_cellbase c.args.block.now.transactions c.later.i c.transactions_item.result c.transactions_item.ensures
    (sym c.is_cellbase.ensures ∙ c.if-is_cellbase.false)
