use Rattle.std.proofs.Common.{sym, ap, ◌∙◌}
use Rattle.std.specs.Prelude.{is_some, not}
use Rattle.chain_defs.proofs.WalkLemmas.{every-fails, every-goes-on}
use Rattle.block_judge.proofs.CellbaseLemmas.{is_untyped}
use Rattle.block_judge.proofs.cellbase.has_no_types.Goals as goal

pub returns-then-is_some : goal.returns-then-is_some
returns-then-is_some c =
    every-fails is_untyped c.args.raw.now.outputs c.outputs.i c.outputs_item.result _ c.outputs.invariant c.outputs_item.ensures
    (ap not (ap is_some (sym c.type_script.ensures) ∙ sym c.is_some.ensures ∙ c.if-is_some.true))

pub outputs-preserved : goal.outputs-preserved
outputs-preserved c =
    every-goes-on is_untyped c.args.raw.now.outputs c.outputs.i c.outputs_item.result _ c.outputs.invariant c.outputs_item.ensures
    (ap not (ap is_some (sym c.type_script.ensures) ∙ sym c.is_some.ensures ∙ c.if-is_some.false))
