use Rattle.std.proofs.Common.{sym, ◌∙◌}
use Rattle.chain_defs.proofs.WalkLemmas.{every-fails, every-goes-on}
use Rattle.block_judge.proofs.CellbaseLemmas.{is_empty}
use Rattle.block_judge.proofs.cellbase.has_no_data.Goals as goal

pub returns-then-not-is_empty : goal.returns-then-not-is_empty
returns-then-not-is_empty c =
    every-fails is_empty c.args.raw.now.outputs_data c.data.i c.outputs_data_item.result.now _ c.data.invariant c.outputs_data_item.ensures.at
    (sym c.is_empty.ensures ∙ c.if-not-is_empty.true)

pub data-preserved : goal.data-preserved
data-preserved c =
    every-goes-on is_empty c.args.raw.now.outputs_data c.data.i c.outputs_data_item.result.now _ c.data.invariant c.outputs_data_item.ensures.at
    (sym c.is_empty.ensures ∙ c.if-not-is_empty.false)
